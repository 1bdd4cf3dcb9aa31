pub mod Prefixes
pub mod Owning
pub mod Adding
pub mod Replying
pub mod MergeReplies
pub mod FillReplies
pub mod Unaccompanied
pub mod WorkedRuns
