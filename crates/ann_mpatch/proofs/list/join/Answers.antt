use Rattle.std.proofs.Common.{rules, ◌≡◌, ◌++◌, List, ℕ, length, ap, subst, ◌∙◌, arith}
use Rattle.std.proofs.lemmas.List.{take_at}
use Rattle.std.proofs.lemmas.List.Sorted.{IsNonDecreasingBy-from_sort}
use Rattle.std.specs.List.Sorted.{IsPermutation}
use Rattle.ann_mpatch.proofs.Joins.{joined_sorted}
use Rattle.ann_mpatch.proofs.list.join.Goals as goal

pub returns : goal.returns
returns c =
    let items : List ℕ = c.try_extend_from_slice-2.new.self.items in
    let sorted : List ℕ = c.sort_unstable.new.self in
    let first : c.try_extend_from_slice.new.self.items ≡ c.args.own.now = search rules in
    let both : items ≡ c.args.own.now ++ c.args.delta.now = search rules in
    let moved : IsPermutation (c.args.own.now ++ c.args.delta.now) sorted = subst (λ (t : List ℕ). IsPermutation t sorted) (c.as_mut_slice.ensures.value ∙ both) c.sort_unstable.ensures.permutation in
    take_at sorted _ (length items) (let size = c.sort_unstable.ensures.len in let same = ap length c.as_mut_slice.ensures.value in omega arith)
    ∙ joined_sorted c.args.own.now c.args.delta.now sorted c.requires.own c.requires.delta c.requires.apart moved (IsNonDecreasingBy-from_sort (λ n. n) sorted c.sort_unstable.ensures.sorted)
