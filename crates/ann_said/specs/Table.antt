-- Which replies are right: each by its kind is what a prefix of the list gives.
use Rattle.std.specs.Prelude.{◌≡◌, ◌≢◌, ℕ, ◌*◌, ◌<◌, ◌≤◌, false, List, [], ◌∷◌, ◌++◌, Some, None, map, take, drop, length}
use Rattle.ann_types.specs.Index.{Index}
use Rattle.ann_types.specs.Lists.{BasedList, upto, length_of}
use Rattle.ann_types.specs.Fold.{Begun, fold_of}
use Rattle.ann_types.specs.Legal.{has_work}
use Rattle.ann_types.specs.Judge.{Refusal, Dimension, Full, Present, Absent, entry_of, judge_all}
use Rattle.ann_types.specs.Answer as found
use Rattle.ann_types.specs.declared.change.Change.{Change}
use Rattle.ann_types.specs.declared.entry.Entry.TheVariants.{Begin, End}
use Rattle.ann_types.specs.declared.hit.Hit.{Hit}
use Rattle.ann_script.specs.Generator.{inserts, batch_of}
use Rattle.ann_script.specs.Order.{Order, Apply, Find, Merge, Fill}
use Rattle.ann_transcript.specs.declared.reply.UpdateWord.{UpdateWord}
use Rattle.ann_transcript.specs.declared.reply.UpdateWord.TheVariants as update
use Rattle.ann_transcript.specs.declared.reply.SearchWord.{SearchWord}
use Rattle.ann_transcript.specs.declared.reply.SearchWord.TheVariants as search_word
use Rattle.ann_transcript.specs.declared.reply.MergeWord.{MergeWord}
use Rattle.ann_transcript.specs.declared.reply.MergeWord.TheVariants as merge
use Rattle.ann_transcript.specs.declared.reply.Reply.{Reply}
use Rattle.ann_transcript.specs.declared.reply.Reply.TheVariants as reply
use Rattle.ann_reply.specs.Reply.{accepted}
use Rattle.ann_said.specs.Owned.{Placed, entries_of, reach, StandTogether, EndAt}

-- where a line stands: whose it is, the client's entries of earlier lines, those of this line's command, and how long a
-- search's list must be
pub record Turn : Type 0 where
  pub client : ℕ
  pub earlier : List Placed
  pub own : List Placed
  pub seen : ℕ

-- of a command that is more than one update: the turn behind the first of its entries
abbrev pub behind_first : ℕ → Turn → Turn
behind_first count t = record t { earlier = t.earlier ++ take count t.own; own = drop count t.own }

-- a merge may have made a Begin
abbrev pub MayBegin : ℕ → List Placed → Type 0
MayBegin client [] = Unit {0}
MayBegin client (p ∷ []) = p.entry ≡ Begin client
MayBegin client (p ∷ q ∷ ps) = ⊥

-- a search is refused by its vector's length alone, or by its own cause
abbrev pub IsUnanswered : Index → List ℕ → SearchWord → Type 0
IsUnanswered index vector (search_word.Dimension got want) =
    (got ≡ length vector) × (want ≡ index.params.d) × (got ≢ want)
IsUnanswered index vector search_word.Disk = Unit {0}
IsUnanswered index vector (search_word.BadSegment block) = Unit {0}
IsUnanswered index vector search_word.Shut = Unit {0}

-- The entries are the first `count` inserts of a fill, made by this client. Those of each update, which has 64 of them,
-- stand side by side.
pub record AreFirst (index : Index) (client seed first count : ℕ) (ps : List Placed) : Type 0 where
  pub entries : entries_of ps ≡ map (entry_of client) (inserts index.params.d seed first count)
  pub updates : (i : ℕ) → StandTogether (take 64 (drop (64 * i) ps))

-- the run began with the list h0 and left the list h
module _ (h0 h : BasedList) where
  abbrev pub IsBetween : ℕ → Type 0
  IsBetween n = (length_of h0 ≤ n) × (n ≤ length_of h)

  -- a reply about h[at], which has all entries of its client's earlier commands, to a command that makes none
  pub record IsAbout (t : Turn) (at : ℕ) : Type 0 where
    pub between : IsBetween at
    pub earlier : reach t.earlier ≤ at
    pub none : t.own ≡ []

  -- the changes are the entries in front of position `at`
  pub record AreAccepted (t : Turn) (changes : List Change) (at : ℕ) : Type 0 where
    pub between : IsBetween at
    pub entries : EndAt (map (entry_of t.client) changes) at t.own

  -- the End of this segment is the entry in front of position `at`; before it there may be the merge's Begin
  pub record IsMerged (t : Turn) (segment at : ℕ) : Type 0 where
    pub between : IsBetween at
    pub begun : List Placed
    pub ended : List Placed
    pub entries : t.own ≡ begun ++ ended
    pub begin : MayBegin t.client begun
    pub end : EndAt (End t.client segment ∷ []) at ended

-- it is a run of this index
module _ (index : Index) (h0 h : BasedList) where
  -- ---- updates

  -- h[at] refuses the changes, and this one of them first
  pub record AreJudged (t : Turn) (changes : List Change) (place : ℕ) (why : Refusal) (at : ℕ) : Type 0 where
    pub about : IsAbout h0 h t at
    pub refused : judge_all index.params (upto h at) t.client changes ≡ Some (place, why)

  abbrev pub AreRefused : Turn → List Change → UpdateWord → Type 0
  AreRefused t changes (update.Dimension place got want at) =
      AreJudged t changes place (Dimension got want) at
  AreRefused t changes (update.Full place at) = AreJudged t changes place Full at
  AreRefused t changes (update.Present place tag at) = AreJudged t changes place (Present tag) at
  AreRefused t changes (update.Absent place tag at) = AreJudged t changes place (Absent tag) at
  AreRefused t changes update.LogFault = t.own ≡ []
  AreRefused t changes (update.Stopped at) = (t.own ≡ []) × (at ≡ length_of h)
  AreRefused t changes update.Memory = t.own ≡ []
  AreRefused t changes (update.MemoryLogged at) = length t.own ≡ length changes

  -- ---- searches

  -- the hits are the answer at h[at], which covers all that the client has seen
  pub record IsFound (t : Turn) (k l : ℕ) (vector : List ℕ) (at : ℕ) (hits : List Hit) : Type 0 where
    pub between : IsBetween h0 h at
    pub seen : t.seen ≤ at
    pub answer : hits ≡ found.hits index (fold_of index (upto h at)) k l vector
    pub none : t.own ≡ []

  -- ---- fills

  -- all of them were accepted, and the last one stands in front of position `at`
  pub record AreFilled (t : Turn) (seed first count : ℕ) (at : ℕ) : Type 0 where
    pub between : IsBetween h0 h at
    pub entries : AreFirst index t.client seed first count t.own
    pub end : reach t.own ≡ at

  -- so many of them were accepted, in whole updates, and the next update was refused
  pub record AreCut (t : Turn) (seed first count : ℕ) (done : ℕ) (refused : UpdateWord) : Type 0 where
    pub updates : ℕ
    pub whole : done ≡ 64 * updates
    pub more : done < count
    pub entries : AreFirst index t.client seed first done (take done t.own)
    pub next : AreRefused (behind_first done t) (batch_of index.params.d seed count first updates) refused

  -- ---- merges

  -- in h[at] there is nothing to merge
  pub record IsIdle (t : Turn) (at : ℕ) : Type 0 where
    pub about : IsAbout h0 h t at
    pub begun : (fold_of index (upto h at)).begun ≡ None
    pub work : has_work (fold_of index (upto h at)) ≡ false

  -- in h[at] a merge is open, of a Begin at this position
  pub record IsRunning (t : Turn) (at since : ℕ) : Type 0 where
    pub about : IsAbout h0 h t at
    pub begun : Begun
    pub is : (fold_of index (upto h at)).begun ≡ Some begun
    pub position : begun.position ≡ since

  abbrev pub IsMergeReply : Turn → MergeWord → Type 0
  IsMergeReply t (merge.Merged segment at) = IsMerged h0 h t segment at
  IsMergeReply t (merge.Nothing at) = IsIdle t at
  IsMergeReply t (merge.Running at since) = IsRunning t at since
  IsMergeReply t merge.Shut = MayBegin t.client t.own
  IsMergeReply t merge.Disk = MayBegin t.client t.own
  IsMergeReply t (merge.BadSegment block) = MayBegin t.client t.own
  IsMergeReply t merge.LogFault = MayBegin t.client t.own
  IsMergeReply t (merge.Stopped at) = MayBegin t.client t.own × (at ≡ length_of h)
  IsMergeReply t merge.Memory = MayBegin t.client t.own
  IsMergeReply t (merge.MemoryLogged at) = (1 ≤ length t.own) × (length t.own ≤ 2)

  -- ---- the table

  -- the reply to a command is right where it stands
  abbrev pub Stands : Turn → Order → Reply → Type 0
  Stands t (Apply changes batch) (reply.Accepted kind tag count at) =
      AreAccepted h0 h t changes at × (reply.Accepted kind tag count at ≡ accepted changes batch at)
  Stands t (Apply changes batch) (reply.Update refused of_batch) =
      AreRefused t changes refused × (of_batch ≡ batch)
  Stands t (Find k l vector) (reply.Found at hits) = IsFound t k l vector at hits
  Stands t (Find k l vector) (reply.Search refused) = IsUnanswered index vector refused × (t.own ≡ [])
  Stands t (Fill seed count first) (reply.Filled done at) = AreFilled t seed first count at × (done ≡ count)
  Stands t (Fill seed count first) (reply.Cut done refused) = AreCut t seed first count done refused
  Stands t Merge (reply.Merge word) = IsMergeReply t word
  Stands t order reply = ⊥
