use Rattle.std.proofs.Common.{◌≡◌, ◌∷◌, [], ℕ, List, sym, ap, ◌∙◌, subst, length, All, arith, rules}
use Rattle.ann_types.specs.declared.new_point.NewPoint.{NewPoint}
use Rattle.ann_minsert.specs.Base.{AreListsOf}
use Rattle.ann_merge_tests.specs.Line.{line_lists}
use Rattle.ann_merge_tests.proofs.Lines.{line_base}
use Rattle.ann_merge_tests.proofs.insert.linked.Goals as goal

pub of-requires : goal.of-requires
of-requires c =
    subst (λ ls. AreListsOf (length c.in_ok-vectors.field-0) ls) (sym c.in_ok-line.ensures)
    (subst (λ n. AreListsOf n (line_lists 2 2)) (sym (ap length c.in_ok-vectors.ensures.vectors)) (line_base c.in_ok-params.params 2 (let r = c.in_ok-params.ensures.1 in omega arith)))

pub link_piece-requires-clause-vectors : goal.link_piece-requires-clause-vectors
link_piece-requires-clause-vectors c =
    subst (λ (xs : List NewPoint). All (λ (x : NewPoint). length x.vector ≡ c.in_ok-book.book.d) xs) (sym c.deref.ensures.value)
    (subst (λ (n : ℕ). All (λ (x : NewPoint). length x.vector ≡ n) c.in_ok-new.new.items) (sym c.in_ok-book.ensures.0) c.in_ok-new.ensures.vectors)
