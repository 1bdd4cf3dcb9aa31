-- The first new points make the base where none survives.
use Rattle.std.proofs.Common.{◌≡◌, ℕ, List, [], ◌∷◌, ◌++◌, refl, sym, ap, subst, ◌∙◌, arith, map, take, drop, length, min, length-drop}
use Rattle.std.specs.Prelude.{All}
use Rattle.std.specs.List.Sorted.{IsStrictlyIncreasing}
use Rattle.std.proofs.lemmas.List.{length-take-le, map-append, take-append-drop}
use Rattle.std.proofs.lemmas.List.Elements.{All-drop}
use Rattle.ann_types.specs.Index.{Index}
use Rattle.ann_types.specs.Merge.{base_size}
use Rattle.ann_types.specs.declared.new_point.NewPoint.{NewPoint}
use Rattle.ann_types.specs.declared.params.Params.{Params}
use Rattle.ann_types.proofs.Sets.{Rises, increasing_from_rises, rises_from_increasing, rises_left}
use Rattle.ann_pq.specs.Codebook.{CodebookView}
use Rattle.ann_pq.specs.Format.{IsCodebook}
use Rattle.ann_minsert.specs.Base.{BaseView, IsBase}
use Rattle.ann_minsert.specs.Made.{IsMade}
use Rattle.ann_mphases.specs.Grown.{IsChosen, MayGrow}
use Rattle.ann_mphases.specs.Index.{index_of}
use Rattle.ann_mphases.proofs.Fronts.{first_of, rest_of}
use Rattle.ann_mphases.proofs.Widths.{made_count, made_long}

-- the Pids of the first ones rise
pub rising_first : (n : ℕ) (points : List NewPoint) → IsStrictlyIncreasing (map (λ (x : NewPoint). x.pid) points) → IsStrictlyIncreasing (map (λ (x : NewPoint). x.pid) (take n points))
rising_first n points rising =
    let pids : List NewPoint → List ℕ = map (λ (x : NewPoint). x.pid) in
    let parts : pids points ≡ pids (take n points) ++ pids (drop n points) = ap pids (sym (take-append-drop n points)) ∙ map-append (λ (x : NewPoint). x.pid) (take n points) (drop n points) in
    increasing_from_rises (pids (take n points)) (rises_left (pids (take n points)) (pids (drop n points)) (subst Rises parts (rises_from_increasing (pids points) rising)))

no_rows : {A : Type 0} (xs : List A) → length xs ≡ 0 → xs ≡ []
no_rows [] none = refl
no_rows (x ∷ xs) none = absurd (omega arith)

-- the base that they make
pub chosen_first : (params : Params) (shown : CodebookView) (lists vectors : List (List ℕ)) (points : List NewPoint) (base : BaseView) (first : ℕ) → IsCodebook shown → params.d ≡ shown.d → first ≡ min (length points) 1000 → IsBase base → length vectors ≡ 0 → MayGrow shown.d lists vectors points → IsMade params shown.book (take first points) base → IsChosen (index_of params shown) lists vectors points base (drop first points)
chosen_first params shown lists vectors points base first is same at sound none may made =
    let index : Index = index_of params shown in
    let front : take first points ≡ take base_size points = ap (λ (k : ℕ). take k points) at ∙ first_of 1000 points in
    let rest : drop first points ≡ drop base_size points = ap (λ (k : ℕ). drop k points) at ∙ rest_of 1000 points in
    let size : length (take first points) ≡ first = length-take-le first points (omega arith) in
    let rows : length base.vectors ≡ length (take first points) = made_count index (take first points) base (omega arith) made in
    let left = length-drop first points in
    record {
      sound = sound;
      left = λ some. absurd (some (no_rows vectors none));
      first = λ _. (subst (λ (t : List NewPoint). IsMade params shown.book t base) front made, rest);
      wide = subst (λ (d : ℕ). All (λ v. length v ≡ d) base.vectors) (sym same) (made_long shown is params (take first points) base made);
      new_wide = subst (λ (d : ℕ). All (λ (x : NewPoint). length x.vector ≡ d) (drop first points)) (sym same) (All-drop (λ (x : NewPoint). length x.vector ≡ shown.d) first points may.new_wide);
      few = (let few = may.few in omega arith);
    }
