-- The row that is nearest to the mean of all decoded vectors is that of the merged graph's entry.
use Rattle.std.proofs.Common.{◌≡◌, ℕ, List, [], ◌∷◌, ◌++◌, refl, sym, ap, subst, ◌∙◌, map, get_or}
use Rattle.std.specs.Prelude.{Option, option_map}
use Rattle.std.specs.List.Sorted.{IsStrictlyIncreasing}
use Rattle.std.proofs.lemmas.List.{map-append}
use Rattle.ann_types.specs.Codes.{decoded, decoded_points}
use Rattle.ann_types.specs.Graph.{Point, apart_in, pids_of, with_vector}
use Rattle.ann_types.specs.Index.{Index}
use Rattle.ann_types.specs.Kept.{Rule, rule_of}
use Rattle.ann_types.specs.Merge.{mean_entry, patch_phase, patched}
use Rattle.ann_types.specs.Rows.{pid_at}
use Rattle.ann_types.proofs.Merges.{pids_decoded, pids_patch}
use Rattle.ann_types.proofs.Sets.{Rises, increasing_from_rises}
use Rattle.ann_mdelete.proofs.Points.{map_twice}
use Rattle.ann_minsert.specs.Mean.{AreRowsOf, IsCentral}
use Rattle.ann_minsert.proofs.Bases.{entry_is}

vectors_back : (index : Index) (rule : Rule) (apart : ℕ → ℕ → ℕ) (new base : List Point) → map (λ (x : Point). decoded index.book x.vector) (map (patched rule apart new) base) ≡ map (λ (x : Point). decoded index.book x.vector) base
vectors_back index rule apart new [] = refl
vectors_back index rule apart new (x ∷ base) = ap (λ t. decoded index.book x.vector ∷ t) (vectors_back index rule apart new base)

module _ (index : Index) (base new : List Point) where
  abbrev points : List Point
  points = (patch_phase index base new).points

  -- patching changes no vector
  vectors_patched : map (λ (x : Point). decoded index.book x.vector) points ≡ map (λ (x : Point). decoded index.book x.vector) (base ++ new)
  unfolding patch_phase
  vectors_patched =
      let vector : Point → List ℕ = λ x. decoded index.book x.vector in
      map-append vector (map (patched (rule_of index.params) (apart_in (decoded_points index.book (base ++ new))) new) base) new
      ∙ ap (λ t. t ++ map vector new) (vectors_back index (rule_of index.params) (apart_in (decoded_points index.book (base ++ new))) new base)
      ∙ sym (map-append vector base new)

  -- and no Pid
  pids_patched : pids_of points ≡ pids_of (base ++ new)
  pids_patched = pids_patch index base new ∙ sym (map-append (λ (x : Point). x.pid) base new)

  entry_of : (patch_phase index base new).entry ≡ mean_entry index points
  unfolding patch_phase
  entry_of = refl

  pub patched_entry : (vectors : List (List ℕ)) (row : Option ℕ) → Rises (pids_of (base ++ new)) → vectors ≡ map (λ (x : Point). decoded index.book x.vector) (base ++ new) → IsCentral index.params.d vectors row → (patch_phase index base new).entry ≡ option_map (pid_at (base ++ new)) row
  patched_entry vectors row rises are central =
      let known : List Point = decoded_points index.book points in
      let rows : AreRowsOf known vectors = record {
        rising = subst IsStrictlyIncreasing (sym (pids_decoded index points ∙ pids_patched)) (increasing_from_rises (pids_of (base ++ new)) rises);
        same = map_twice (λ (x : Point). with_vector (decoded index.book x.vector) x) (λ (x : Point). x.vector) points ∙ vectors_patched ∙ sym are;
      } in
      entry_of
      ∙ entry_is index points vectors row rows central
      ∙ ap (λ (ps : List ℕ). option_map (λ r. get_or ps r 0) row) pids_patched
