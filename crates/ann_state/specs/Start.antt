-- What an index is resumed from on the base of its log, or on its last merge.
use Rattle.std.specs.Prelude.{◌≡◌, ℕ, ◌+◌, List, Option}
use Rattle.std.specs.Option.{option_map}
use Rattle.ann_types.specs.Index.{Index}
use Rattle.ann_types.specs.Lists.{BasedList}
use Rattle.ann_types.specs.declared.entry.Entry.{Entry}
use Rattle.ann_preamble.specs.declared.base.Base.{Base}
use Rattle.ann_segment.specs.Segment.{SegmentView}
use Rattle.ann_reopen.specs.Judged.{IsLastMerge}
use Rattle.ann_reopen.specs.declared.judged.Judged.{Judged}
use Rattle.ann_reopen.specs.declared.judged.Merge.{Merge}
use Rattle.ann_resume.specs.Cut.{IsTailOf}
use Rattle.ann_resume.specs.declared.view.Start.{Start}
use Rattle.ann_state.specs.declared.state.State.{State}

-- a base with these numbers, if there is a segment
abbrev pub start_at : {S : Type 0} → ℕ → ℕ → Option (SegmentView S) → Option (Start S)
start_at position following segment = option_map (λ s. record { at = position; next = following; segment = s }) segment

-- what judging has left of a list
pub record HasJudged {S : Type 0} (judged : Judged) (state : State S) : Type 0 where
  pub tags : state.tags.pids ≡ judged.tags.pids
  pub begun : state.begun ≡ judged.begun

-- all entries, on the base
pub record IsOnBase {S : Type 0} (base : Base) (segment : Option (SegmentView S)) (judged : Judged) (all : List Entry) (state : State S) : Type 0 where
  pub start : state.start ≡ start_at base.position base.next segment
  pub entries : state.entries.items ≡ all
  pub gone : state.gone.items ≡ judged.gone.items
  pub found : HasJudged judged state

-- the entries behind the Begin of a merge without its End, on that merge
pub record IsOnMerge {S : Type 0} (base : Base) (merge : Merge) (segment : Option (SegmentView S)) (judged : Judged) (all : List Entry) (state : State S) : Type 0 where
  pub start : state.start ≡ start_at (merge.position + 2) merge.next segment
  pub tail : (index : Index) (h : BasedList) → (last : IsLastMerge h merge) → IsTailOf index base.position h merge last all judged.gone.items state.entries.items state.gone.items
  pub found : HasJudged judged state
