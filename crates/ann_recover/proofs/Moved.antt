-- What was opened in a vault that holds, where it tells, what it held before.
use Rattle.std.proofs.Common.{◌≡◌, ℕ, List, sym, ap, subst, ◌∙◌}
use Rattle.std.specs.Prelude.{Option, Some, None}
use Rattle.std.specs.FinMap.{get}
use Rattle.ann_types.specs.declared.params.Params.{Params}
use Rattle.ann_vault.specs.Held.{Holding}
use Rattle.ann_segment.specs.Segment.{SegmentView}
use Rattle.ann_reopen.specs.declared.judged.Merge.{Merge}
use Rattle.ann_base.specs.Front.{IsFound, IsSealedAs, IsRightly}
use Rattle.ann_state.specs.Merged.{IsMerged, IsMergeFault}

module _ {S : Type 0} (tells : Type 0) (bytes : S → List ℕ) (old new : Holding) (same : tells → new ≡ old) where
  found_at : (params : Params) (number : ℕ) (segment : SegmentView S) → IsFound tells bytes new params number segment → IsFound tells bytes old params number segment
  found_at params number segment is = record {
    number = is.number;
    code_bytes = is.code_bytes;
    there = λ told. sym (ap (λ (h : Holding). get h number) (same told)) ∙ is.there told;
    from_bytes = is.from_bytes;
    graph = λ told book graph sealed. is.graph told book graph (subst (λ (h : Holding). IsSealedAs h params number book graph) (sym (same told)) sealed);
  }

  pub merged_at : (params : Params) (merge : Option Merge) (segment : Option (SegmentView S)) → IsMerged tells bytes new params merge segment → IsMerged tells bytes old params merge segment
  merged_at params None None is = is
  merged_at params None (Some segment) is = is
  merged_at params (Some merge) None is = is
  merged_at params (Some merge) (Some segment) is = record { found = found_at params merge.segment segment is.found; below = is.below }

  pub fault_at : (params : Params) (merge : Option Merge) (block : ℕ) → IsMergeFault tells new params merge block → IsMergeFault tells old params merge block
  fault_at params None block is = is
  fault_at params (Some merge) block is = λ told. subst (λ (h : Holding). IsRightly h params merge.segment merge.next block) (same told) (is told)
