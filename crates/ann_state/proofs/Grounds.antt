-- The base of a log over its graph, and the list on it.
use Rattle.std.proofs.Common.{◌≡◌, ◌∙◌, ℕ, List, refl, sym, subst}
use Rattle.ann_types.specs.Index.{Index}
use Rattle.ann_types.specs.Lists.{BasedList}
use Rattle.ann_types.specs.declared.entry.Entry.{Entry}
use Rattle.ann_types.specs.declared.params.Params.{Params}
use Rattle.ann_preamble.specs.declared.base.Base.{Base}
use Rattle.ann_vault.specs.Held.{Holding}
use Rattle.ann_reopen.specs.Judged.{IsListOn, IsJudged, IsFirstIllegal, IsRefused}
use Rattle.ann_reopen.specs.declared.basis.Basis.{Basis}
use Rattle.ann_reopen.specs.declared.judged.JudgeRefused.{JudgeRefused}
use Rattle.ann_reopen.specs.declared.judged.JudgeRefused.TheVariants as judging
use Rattle.ann_base.specs.Grounded.{IsBase}
use Rattle.ann_base.specs.declared.base.Grounded.{Grounded}
use Rattle.ann_state.specs.List.{list_on, IsGround, IsListState, IsIllegal, IsListRefused}
use Rattle.ann_state.specs.Refusal.{of_judging}
use Rattle.ann_state.specs.declared.list.ListState.{ListState}

-- ---- what was opened

module _ {S : Type 0} (tells : Type 0) (bytes : S → List ℕ) (held : Holding) (params : Params) (base : Base) (grounded : Grounded S) (is : IsBase tells bytes held params base.segment base.next grounded) where
  pub ground : IsGround tells bytes held params base is.graph grounded.segment
  ground = record { based = is.base base.position; sealed = is.segment }

  module _ (entries : List Entry) (basis : Basis) (position : basis.position ≡ base.position) (next : basis.next ≡ base.next) (tags : basis.tags.pids ≡ grounded.tags.pids) where
    pub list_is : (index : Index) → index.params ≡ params → IsListOn index params basis entries (list_on base is.graph entries)
    list_is index same = record {
      same = same;
      base = is.base base.position;
      position = sym position;
      next = sym next;
      tags = tags ∙ is.tags;
      entries = refl;
    }

    pub list_read : (list : ListState S) → list.segment ≡ grounded.segment → ((index : Index) (h : BasedList) → IsListOn index params basis entries h → IsJudged index h list.judged) → IsListState tells bytes held params base entries list
    list_read list segment judged = record {
      graph = is.graph;
      ground = subst (IsGround tells bytes held params base is.graph) (sym segment) ground;
      judged = λ index same. judged index (list_on base is.graph entries) (list_is index same);
    }

    illegal_is : (entry : ℕ) → ((index : Index) (h : BasedList) → IsListOn index params basis entries h → IsFirstIllegal index h entry) → IsIllegal tells bytes held params base entries entry
    illegal_is entry first = record {
      graph = is.graph;
      segment = grounded.segment;
      ground = ground;
      first = λ index same. first index (list_on base is.graph entries) (list_is index same);
    }

    pub judge_refused : (why : JudgeRefused) → ((index : Index) (h : BasedList) → IsListOn index params basis entries h → IsRefused index h why) → IsListRefused tells bytes held params base entries (of_judging why)
    judge_refused (judging.BadLog entry) first = illegal_is entry first
    judge_refused judging.Memory first = tt
