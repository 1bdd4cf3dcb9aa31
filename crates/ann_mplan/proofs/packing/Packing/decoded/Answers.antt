use Rattle.std.proofs.Common.{◌≡◌, ◌++◌, ◌∷◌, ◌<◌, [], ℕ, List, ap, sym, subst, ◌∙◌, map, take, get_or, length}
use Rattle.std.specs.Prelude.{All}
use Rattle.std.proofs.lemmas.List.{map-append, take_more}
use Rattle.ann_mplan.proofs.packing.Packing.decoded.Goals as goal

pub loop-row-preserved : goal.loop-row-preserved
loop-row-preserved c =
    let vector : ℕ → List ℕ = λ row. get_or c.args.decoded.now row [] in
    let rows = c.args.self.now in
    let at = c.loop-row.row-index in
    let here : at < length rows = subst (λ (t : List ℕ). at < length t) c.survivors-row-items.ensures c.loop-row-test.true in
    let row : ℕ = get_or c.survivors-row-items.result.now at 0 in
    let is : row ≡ get_or rows at 0 = ap (λ (t : List ℕ). get_or t at 0) c.survivors-row-items.ensures in
    record {
      vectors = c.in_ok-push_vector.ensures.added
          ∙ ap (λ (t : List (List ℕ)). t ++ c.vector.result.now ∷ []) c.loop-row.invariant.vectors
          ∙ ap (λ (v : List ℕ). map vector (take at rows) ++ v ∷ []) (c.vector.ensures.value ∙ ap vector is)
          ∙ sym (ap (map vector) (take_more rows at 0 here) ∙ map-append vector (take at rows) (get_or rows at 0 ∷ []));
      same = subst (λ (n : ℕ). All (λ x. length x ≡ n) c.push_vector.new.self) c.vector.ensures.width c.in_ok-push_vector.ensures.same;
    }
