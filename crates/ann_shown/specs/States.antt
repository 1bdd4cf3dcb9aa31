-- When a view is the state of a list, and when an operation leads to a list.
use Rattle.std.specs.Prelude.{◌≡◌, ℕ, false, List}
use Rattle.ann_types.specs.Index.{Index}
use Rattle.ann_types.specs.Legal.{IsLegal}
use Rattle.ann_types.specs.Lists.{BasedList, with_entry}
use Rattle.ann_types.specs.declared.entry.Entry.{Entry}
use Rattle.ann_named.specs.Named.{IsCurrent}
use Rattle.ann_view.specs.Holding.{HoldsGraph, BringsMerge}
use Rattle.ann_view.specs.Stands.{StandsFor, IsEntryOf, lti_of}
use Rattle.ann_view.specs.Steps.{MayApply}
use Rattle.ann_view.specs.View.{IndexView, index_of}
use Rattle.ann_view.specs.declared.op.Op.{Op}

-- An open view of the index is the state of a legal list: it stands for the list and has the segment that the list names, and
-- that segment holds the list's long-term graph where the place was sound. `bytes` are those of a seal.
pub record IsStateOf {S : Type 0} (bytes : S → List ℕ) (index : Index) (sound : Type 0) (view : IndexView S) (h : BasedList) : Type 0 where
  pub indexed : index_of view ≡ index
  pub going : view.closed ≡ false
  pub legal : IsLegal index h
  pub stands : StandsFor view h
  pub current : IsCurrent index h view.segment
  pub holds : sound → HoldsGraph bytes view (lti_of view h)

-- An operation leads to a legal list: it is that of the list's last entry, each view that stands for the list before it can go on
-- by it, and an End's segment holds the merged graph where the place was sound.
pub record Leads {S : Type 0} (bytes : S → List ℕ) (index : Index) (sound : Type 0) (op : Op S) (h : BasedList) : Type 0 where
  pub before : BasedList
  pub entry : Entry
  pub list : h ≡ with_entry before entry
  pub of_entry : IsEntryOf before op entry
  pub legal : IsLegal index h
  pub applies : (view : IndexView S) → index_of view ≡ index → StandsFor view before → MayApply view op
  pub brings : sound → (view : IndexView S) → index_of view ≡ index → BringsMerge bytes view before op
