-- Pieces side by side.
use Rattle.std.proofs.Common.{◌≡◌, ℕ, zero, suc, ◌+◌, ◌-◌, ◌*◌, ◌/◌, ◌≤◌, ◌<◌, List, [], ◌∷◌, ◌++◌, refl, sym, ap, ap₂, subst, ◌∙◌, arith, length, min, get_or, take, drop, append_assoc}
use Rattle.std.specs.List.{concat, flat_map}
use Rattle.std.proofs.Math.Seq.{take-add}
use Rattle.std.proofs.lemmas.Grind.{flat_map-append}
use Rattle.std.proofs.lemmas.List.{drop-drop, length-append}
use Rattle.ann_types.specs.Graph.{Point, Graph}
use Rattle.ann_types.specs.Index.{Index}
use Rattle.ann_types.specs.Merge.{patch_phase}
use Rattle.ann_segment.specs.Text.{node_for}
use Rattle.ann_crew.specs.Crew.{ArePieces}
use Rattle.ann_mpatch.specs.Phase.{HoldsOld, IsPlanOf}
use Rattle.ann_mpatch.specs.Plan.{piece_size, segment_in}
use Rattle.ann_mpatch.specs.declared.plan.PatchPlan.{PatchPlan}
use Rattle.ann_mseal.specs.Pieces.{IsMergedPiece, piece_count}
use Rattle.ann_mseal.specs.Written.{IsDrafted}

-- the pieces behind the first one
later_pieces : {P : Type 0} (is_piece : ℕ → P → Type 0) (first n : ℕ) (piece : P) (pieces : List P) → ArePieces is_piece first (suc n) (piece ∷ pieces) → ArePieces is_piece (suc first) n pieces
later_pieces is_piece first n piece pieces are = record {
  many = (let many = are.many in omega arith);
  each = λ i d below. subst (λ (k : ℕ). is_piece k (get_or pieces i d)) (let e : first + suc i ≡ suc first + i = omega arith in e) (are.each (suc i) d (omega arith));
}

first_piece : {P : Type 0} (is_piece : ℕ → P → Type 0) (first n : ℕ) (piece : P) (pieces : List P) → ArePieces is_piece first (suc n) (piece ∷ pieces) → is_piece first piece
first_piece is_piece first n piece pieces are =
    subst (λ (k : ℕ). is_piece k piece) (let e : first + 0 ≡ first = omega arith in e) (are.each 0 piece (omega arith))

module _ {S : Type 0} (tells : Type 0) (bytes : S → List ℕ) (plan : PatchPlan S) where
  -- their blocks are those of the rows between
  pub pieces_long : (first count : ℕ) (pieces : List (List ℕ)) → first + count ≤ piece_count plan → ArePieces (IsMergedPiece tells bytes plan) first count pieces → 4096 * min (256 * first) (length plan.decoded) + length (concat pieces) ≡ 4096 * min (256 * (first + count)) (length plan.decoded)
  pieces_long first zero [] within are = (let e : first + 0 ≡ first = omega arith in ap (λ (n : ℕ). 4096 * min (256 * n) (length plan.decoded) + 0) (sym e) ∙ (let f : 4096 * min (256 * (first + 0)) (length plan.decoded) + 0 ≡ 4096 * min (256 * (first + 0)) (length plan.decoded) = omega arith in f))
  pieces_long first zero (piece ∷ pieces) within are = (let many = are.many in absurd (omega arith))
  pieces_long first (suc n) [] within are = (let many = are.many in absurd (omega arith))
  pieces_long first (suc n) (piece ∷ pieces) within are =
      let own = (first_piece (IsMergedPiece tells bytes plan) first n piece pieces are).long in
      let rest = pieces_long (suc first) n pieces (omega arith) (later_pieces (IsMergedPiece tells bytes plan) first n piece pieces are) in
      let both = length-append piece (concat pieces) in
      let next : suc first + n ≡ first + suc n = omega arith in
      let last : 4096 * min (256 * (suc first + n)) (length plan.decoded) ≡ 4096 * min (256 * (first + suc n)) (length plan.decoded) = ap (λ (k : ℕ). 4096 * min (256 * k) (length plan.decoded)) next in
      let step : min (256 * first) (length plan.decoded) + piece_size plan (256 * first) ≡ min (256 * (suc first)) (length plan.decoded) = one_more first (length plan.decoded) (omega arith) in
      joined (min (256 * first) (length plan.decoded)) (piece_size plan (256 * first)) (min (256 * suc first) (length plan.decoded)) (length piece) (length (concat pieces)) (length (piece ++ concat pieces)) (min (256 * (first + suc n)) (length plan.decoded)) step own both (rest ∙ last)
    where
      one_more : (first rows : ℕ) → first < (rows + 255) / 256 → min (256 * first) rows + min 256 (rows - 256 * first) ≡ min (256 * suc first) rows
      one_more first rows below = omega arith

      joined : (a s b p q r e : ℕ) → a + s ≡ b → p ≡ 4096 * s → r ≡ p + q → 4096 * b + q ≡ 4096 * e → 4096 * a + r ≡ 4096 * e
      joined a s b p q r e one two three four = omega arith

  module _ (told : tells) (index : Index) (lti : Graph) (base new : List Point) (p : IsPlanOf index lti base new plan) (held : HoldsOld bytes index (segment_in plan) lti) where
    abbrev points : List Point
    points = (patch_phase index base new).points

    -- told, they are those of the merged graph
    pieces_are : (first count : ℕ) (pieces : List (List ℕ)) → ArePieces (IsMergedPiece tells bytes plan) first count pieces → concat pieces ≡ flat_map (node_for points) (take (256 * count) (drop (256 * first) points))
    pieces_are first zero [] are = refl
    pieces_are first zero (piece ∷ pieces) are = (let many = are.many in absurd (omega arith))
    pieces_are first (suc n) [] are = (let many = are.many in absurd (omega arith))
    pieces_are first (suc n) (piece ∷ pieces) are =
        let own = (first_piece (IsMergedPiece tells bytes plan) first n piece pieces are).merged told index lti base new p held in
        let rest = pieces_are (suc first) n pieces (later_pieces (IsMergedPiece tells bytes plan) first n piece pieces are) in
        let here : List Point = drop (256 * first) points in
        ap₂ (λ (x y : List ℕ). x ++ y) own rest
        ∙ sym (flat_map-append (node_for points) (take 256 here) (take (256 * n) (drop (256 * suc first) points)))
        ∙ ap (flat_map (node_for points))
        (ap (λ (t : List Point). take 256 here ++ take (256 * n) t)
        (ap (λ (k : ℕ). drop k points) (let e : 256 * suc first ≡ 256 * first + 256 = omega arith in e) ∙ sym (drop-drop 256 (256 * first) points))
        ∙ sym (take-add 256 (256 * n) here)
        ∙ ap (λ (k : ℕ). take k here) (let e : 256 + 256 * n ≡ 256 * suc n = omega arith in e))

  -- a draft to which they are appended has the blocks of as many rows more
  pub drafted_more : (front before after : List ℕ) (first count : ℕ) (pieces : List (List ℕ)) → tells → ArePieces (IsMergedPiece tells bytes plan) first count pieces → IsDrafted bytes plan front (256 * first) before → after ≡ before ++ concat pieces → IsDrafted bytes plan front (256 * (first + count)) after
  drafted_more front before after first count pieces told are so_far added = record {
    blocks = λ index lti base new p held.
        let points : List Point = (patch_phase index base new).points in
        let f : Point → List ℕ = node_for points in
        added
        ∙ ap₂ (λ (x y : List ℕ). x ++ y) (so_far.blocks index lti base new p held) (pieces_are told index lti base new p held first count pieces are)
        ∙ append_assoc front (flat_map f (take (256 * first) points)) (flat_map f (take (256 * count) (drop (256 * first) points)))
        ∙ ap (λ (t : List ℕ). front ++ t)
        (sym (flat_map-append f (take (256 * first) points) (take (256 * count) (drop (256 * first) points)))
        ∙ ap (flat_map f) (sym (take-add (256 * first) (256 * count) points) ∙ ap (λ (k : ℕ). take k points) (let e : 256 * first + 256 * count ≡ 256 * (first + count) = omega arith in e)));
  }
