-- A plan that is made row by row, where the seal tells its bytes, is that of the merge by the Pids.
use Rattle.std.proofs.Common.{◌≡◌, ℕ, List, ◌++◌, refl, sym, ap, ap₂, subst, ◌∙◌, map, length}
use Rattle.std.specs.Prelude.{Option}
use Rattle.std.proofs.lemmas.List.{length-map}
use Rattle.ann_types.specs.Codes.{decoded}
use Rattle.ann_types.specs.Fold.{new_point}
use Rattle.ann_types.specs.Graph.{Point, Graph, pids_of}
use Rattle.ann_types.specs.Index.{Index}
use Rattle.ann_types.specs.Merge.{base_of, insert_phase, merged, outside, patch_phase}
use Rattle.ann_types.specs.Rows.{pid_at}
use Rattle.ann_types.specs.declared.new_point.NewPoint.{NewPoint}
use Rattle.ann_types.proofs.Merges.{new_pids}
use Rattle.ann_types.proofs.Sets.{Rises, increasing_from_rises, rises_from_increasing, rises_left, rises_right}
use Rattle.ann_segment.specs.Directory.{Item}
use Rattle.ann_segment.specs.Segment.{SegmentView}
use Rattle.ann_minsert.specs.Added.{linked_all}
use Rattle.ann_mplan.specs.Back.{deltas_of}
use Rattle.ann_mpatch.specs.Phase.{IsPlanOf, point_at}
use Rattle.ann_mpatch.specs.declared.plan.PatchPlan.{PatchPlan}
use Rattle.ann_mlaws.specs.Plan.{IsLti, IsMergePlan}
use Rattle.ann_mlaws.specs.Rows.{IsPlanned, MayMerge, left_lists, left_vectors, old_items, survivors_of}
use Rattle.ann_mlaws.proofs.Bare.{bare_all}
use Rattle.ann_mlaws.proofs.Based.{IsBased, is_based}
use Rattle.ann_mlaws.proofs.Entry.{patched_entry}
use Rattle.ann_mlaws.proofs.Left.{AreLeft, are_left, left_of}
use Rattle.ann_mlaws.proofs.Linked.{base_count, base_deltas, new_links, own_links, vectors_are}
use Rattle.ann_mlaws.proofs.Pids.{all_behind, all_rise, left_rise}

merged_is : (index : Index) (lti : Graph) (points : List NewPoint) (dead : List ℕ) → merged index lti points dead ≡ patch_phase index (base_of index (left_of index dead lti) points).points (insert_phase index (base_of index (left_of index dead lti) points) (outside (left_of index dead lti) points))
unfolding merged
merged_is index lti points dead = refl

module _ {S : Type 0} (tells : Type 0) (bytes : S → List ℕ) (index : Index) (dead : List ℕ) (old : Option (SegmentView S)) (points : List NewPoint) (plan : PatchPlan S) (entry : Option ℕ) (may : MayMerge index old points) (p : IsPlanned tells bytes index dead old points plan entry) (lti : Graph) (told : tells) (held : IsLti bytes index old lti) where
  abbrev left : List Point
  left = left_of index dead lti

  abbrev base : Graph
  base = base_of index left points

  abbrev rest : List NewPoint
  rest = outside left points

  abbrev new : List Point
  new = insert_phase index base rest

  abbrev all : List Point
  all = base.points ++ new

  left_are : AreLeft index dead old p.lists lti
  left_are = are_left tells bytes index may.book dead p.lists lti told old p.read held

  rises : Rises (pids_of left ++ new_pids points)
  rises =
      left_rise index lti.points dead (new_pids points)
      (subst (λ (t : List ℕ). Rises (t ++ new_pids points)) (sym left_are.pids)
      (rises_from_increasing (map (λ (item : Item). item.0) (old_items old) ++ new_pids points) may.rising))

  left_count : length left ≡ length (survivors_of dead old)
  left_count = sym (length-map left new_point) ∙ ap length left_are.bare ∙ length-map (survivors_of dead old) (λ row. new_point (point_at lti row))

  based : IsBased index left points p.base p.outside
  based =
      is_based index may.book (survivors_of dead old) (left_lists index dead old p.lists) (left_vectors index dead old) points p.base p.outside p.based
      left left_count left_are.links left_are.coded (rises_left (pids_of left) (new_pids points) rises)

  all_rises : Rises (pids_of all)
  all_rises = all_rise index left points rises

  links_are : plan.links ≡ linked_all index.params index.book p.base rest
  links_are = p.links ∙ ap (linked_all index.params index.book p.base) based.rest_are

  count : length base.points ≡ length p.base.lists
  count = base_count index base p.base p.based.sound rest based.stands ∙ sym p.based.sound.lists.count

  deltas_are : deltas_of (length base.points) (linked_all index.params index.book p.base rest) ≡ plan.delta
  deltas_are = ap₂ deltas_of count (sym links_are) ∙ sym p.added

  decoded_are : plan.decoded ≡ map (λ (x : Point). decoded index.book x.vector) all
  decoded_are =
      p.vectors
      ∙ ap (λ (xs : List NewPoint). p.base.vectors ++ map (λ (x : NewPoint). decoded index.book x.vector) xs) based.rest_are
      ∙ vectors_are index base p.base p.based.sound rest based.stands

  points_are : map new_point all ≡ map (λ row. new_point (point_at lti row)) plan.survivors.items ++ plan.points.items
  points_are =
      bare_all index left points (rises_right (pids_of left) (new_pids points) rises)
      ∙ ap₂ ◌++◌ (left_are.bare ∙ ap (map (λ row. new_point (point_at lti row))) (sym p.survivors)) (sym p.points_are)

  plan_of : IsPlanOf index lti base.points new plan
  plan_of = record {
    params = p.params;
    book = may.book;
    rising = increasing_from_rises (pids_of all) all_rises;
    points = points_are;
    own = own_links index base p.base p.based.sound rest based.stands ∙ ap (map (map (pid_at all))) (sym p.own);
    added = base_deltas index base p.base p.based.sound rest based.stands (all_behind index left points rises) all_rises ∙ ap (map (map (pid_at all))) deltas_are;
    links = new_links index base p.base p.based.sound rest based.stands (all_behind index left points rises) all_rises ∙ ap (map (map (pid_at all))) (sym links_are);
    vectors = decoded_are;
  }

  -- The plan is that of the merge.
  pub is_merge_plan : IsMergePlan index lti points dead plan entry
  is_merge_plan = record {
    base = base.points;
    new = new;
    is = plan_of;
    graph = merged_is index lti points dead;
    entry_is = patched_entry index base.points new plan.decoded entry all_rises decoded_are p.central;
  }
