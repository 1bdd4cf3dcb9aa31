use Rattle.std.proofs.Common.{◌≡◌, ◌<◌, ◌+◌, ◌/◌, ℕ, [], List, get_or, set, subst, sym, ap, ◌∙◌, arith, eqb}
use Rattle.std.specs.List.{position_or_len}
use Rattle.std.proofs.lemmas.List.{length-set}
use Rattle.std.proofs.lemmas.List.Edits.{fill_by_more}
use Rattle.ann_types.specs.Codes.{least, nearest}
use Rattle.ann_pq.specs.Codebook.{part_of}
use Rattle.ann_pq.proofs.Leasts.{nearest_first}
use Rattle.ann_pq.proofs.Codings.{code_is}
use Rattle.ann_pq.proofs.codebook.Codebook.code.Goals as goal

pub loop-part-preserved : goal.loop-part-preserved
loop-part-preserved c =
    let book = c.args.self.now.book in
    let width = c.args.self.now.d / c.args.self.now.m in
    let number = λ (k : ℕ). nearest (get_or book k []) (part_of width c.args.vector.now k) in
    let is : c.first_least.result ≡ number c.loop-part.part =
    c.first_least.ensures ∙ ap (λ (t : List ℕ). position_or_len (λ n. eqb n (least t)) t) c.distances.ensures.value
    ∙ nearest_first (get_or book c.loop-part.part []) (part_of width c.args.vector.now c.loop-part.part) in
    record {
      size = length-set c.loop-part.out c.loop-part.part c.first_least.result ∙ c.loop-part.invariant.size;
      room = c.distances.ensures.length;
      each = subst (λ (x : ℕ). (k : ℕ) → k < c.loop-part.part + 1 → get_or (set c.loop-part.out c.loop-part.part x) k 0 ≡ number k) (sym is)
          (fill_by_more number c.loop-part.out c.loop-part.part 0 (omega arith) c.loop-part.invariant.each);
    }

pub returns : goal.returns
returns c =
    let size = c.loop-part.invariant.size in
    code_is c.args.self.now.d c.args.self.now.m c.args.self.now.book c.args.vector.now c.loop-part.out c.known.ensures.book.count c.requires.vector size (λ k l. c.loop-part.invariant.each k (omega arith))
