-- The header of the merged rows is that of the merged graph.
use Rattle.std.proofs.Common.{◌≡◌, ℕ, List, ◌++◌, refl, sym, ap, ap₂, subst, ◌∙◌, arith, length, get_or}
use Rattle.std.specs.Prelude.{Option, None, Some}
use Rattle.std.specs.Option.{option_map}
use Rattle.std.proofs.lemmas.List.{length-map, map-append}
use Rattle.ann_types.specs.Codes.{decoded}
use Rattle.ann_types.specs.Graph.{Point, Graph, pids_of}
use Rattle.ann_types.specs.Index.{Index}
use Rattle.ann_types.specs.Merge.{patch_phase}
use Rattle.ann_types.specs.Rows.{pid_at}
use Rattle.ann_types.specs.declared.params.Params.{Params}
use Rattle.ann_types.proofs.Merges.{pids_patch}
use Rattle.ann_types.proofs.Sets.{Rises, rises_from_increasing}
use Rattle.ann_block.specs.Header.{IsHeader}
use Rattle.ann_segment.specs.Segment.{IsEntryOf}
use Rattle.ann_segment.specs.Text.{header_for, row_of}
use Rattle.ann_segment.proofs.Holding.{row_is}
use Rattle.ann_mpatch.specs.Phase.{IsPlanOf}
use Rattle.ann_mpatch.specs.declared.plan.PatchPlan.{PatchPlan}
use Rattle.ann_mseal.specs.Merged.{merged_header}

-- it is a header, whatever the rows are
pub is_header : {S : Type 0} (plan : PatchPlan S) (entry : Option ℕ) (number : ℕ) → IsEntryOf (length plan.decoded) entry → IsHeader (merged_header plan entry number)
is_header plan entry number is = record {
  code_bytes = plan.params.in_limits.code_bytes;
  components = plan.params.in_limits.components;
  parts = plan.params.in_limits.parts;
  neighbours = plan.params.in_limits.neighbours;
  entry = is;
}

module _ {S : Type 0} (plan : PatchPlan S) (index : Index) (lti : Graph) (base new : List Point) (p : IsPlanOf index lti base new plan) where
  abbrev all : List Point
  all = base ++ new

  abbrev points : List Point
  points = (patch_phase index base new).points

  pids_are : pids_of points ≡ pids_of all
  pids_are = pids_patch index base new ∙ sym (map-append (λ (x : Point). x.pid) base new)

  pub points_count : length points ≡ length plan.decoded
  points_count =
      sym (length-map points (λ (x : Point). x.pid)) ∙ ap length pids_are ∙ length-map all (λ (x : Point). x.pid)
      ∙ sym (ap length p.vectors ∙ length-map all (λ (x : Point). decoded index.book x.vector))

  rises : Rises (pids_of points)
  rises = subst Rises (sym pids_are) (rises_from_increasing (pids_of all) p.rising)

  -- the row of the entry's Pid is the entry
  entry_back : (entry : Option ℕ) → IsEntryOf (length plan.decoded) entry → option_map (row_of points) (option_map (pid_at all) entry) ≡ entry
  entry_back None is = refl
  entry_back (Some row) is =
      ap Some (ap (λ (ps : List ℕ). row_of points (get_or ps row 0)) (sym pids_are) ∙ row_is points row rises (let size = points_count in omega arith))

  pub header_merged : (entry : Option ℕ) (number : ℕ) → IsEntryOf (length plan.decoded) entry → (patch_phase index base new).entry ≡ option_map (pid_at all) entry → merged_header plan entry number ≡ header_for index.params (patch_phase index base new) number
  header_merged entry number is entered =
      ap₂ (λ (ps : Params) (n : ℕ). record { number = number; d = ps.d; r = ps.r; m = ps.m; count = n; start_row = entry }) p.params (sym points_count)
      ∙ ap (λ (e : Option ℕ). record { number = number; d = index.params.d; r = index.params.r; m = index.params.m; count = length points; start_row = e })
      (sym (entry_back entry is) ∙ ap (option_map (row_of points)) (sym entered))
