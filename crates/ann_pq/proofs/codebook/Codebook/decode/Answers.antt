use Rattle.std.proofs.Common.{◌≡◌, ◌+◌, ◌*◌, ◌++◌, ℕ, length, take, sym, ap, ◌∙◌, arith, add-one, rules}
use Rattle.std.proofs.Math.Nat.{suc-mul}
use Rattle.std.proofs.lemmas.List.{take_all, places}
use Rattle.std.proofs.lemmas.Slice.{take-put_mid}
use Rattle.ann_types.specs.Codes.{decode}
use Rattle.ann_pq.proofs.Places.{whole, part_ends}
use Rattle.ann_pq.proofs.Decodings.{decode_more}
use Rattle.ann_pq.proofs.codebook.Codebook.decode.Goals as goal

next : (p w n : ℕ) → n ≡ w → (p + 1) * w ≡ p * w + n
next p w n is = let more = suc-mul p w in ap (λ k. k * w) (add-one p) ∙ omega arith

pub loop-part-preserved : goal.loop-part-preserved
loop-part-preserved c =
    let v = c.args.self.now in
    let start : ℕ = c.loop-part.part * c.width-width.result in
    let size = c.loop-part.invariant.size in
    let all = whole v.d v.m c.known.ensures.sizes.whole ∙ ap (λ k. v.m * k) (sym c.width-width.ensures.value) in
    let ends = part_ends v.d v.m c.width-width.result all c.loop-part.part (omega arith) in
    let width = ap length c.copy_from_slice.ensures.after ∙ c.centroid.ensures.width ∙ sym c.width-width.ensures.value in
    record {
      size = search (rules, places);
      joined = take-put_mid start _ c.loop-part.out c.copy_from_slice.new.self ((c.loop-part.part + 1) * c.width-width.result) (next c.loop-part.part c.width-width.result _ width) (omega arith)
          ∙ ap (λ t. t ++ c.copy_from_slice.new.self) c.loop-part.invariant.joined
          ∙ ap (λ t. decode (take c.loop-part.part v.book) (take c.loop-part.part c.args.code.now) ++ t) (c.copy_from_slice.ensures.after ∙ c.centroid.ensures.value)
          ∙ sym (decode_more v.book c.args.code.now c.loop-part.part (let count = c.known.ensures.book.count in omega arith) c.loop-part-test.true);
    }

pub returns : goal.returns
returns c =
    let v = c.args.self.now in
    let size = c.loop-part.invariant.size in
    let count = c.known.ensures.book.count in
    let all : v.d ≡ v.m * c.width-width.result = whole v.d v.m c.known.ensures.sizes.whole ∙ ap (λ k. v.m * k) (sym c.width-width.ensures.value) in
    let last : c.loop-part.part ≡ v.m = omega arith in
    let at : c.loop-part.part * c.width-width.result ≡ v.m * c.width-width.result = ap (λ k. k * c.width-width.result) last in
    sym (take_all (c.loop-part.part * c.width-width.result) c.loop-part.out (omega arith))
    ∙ c.loop-part.invariant.joined
    ∙ ap (λ t. decode t (take c.loop-part.part c.args.code.now)) (take_all c.loop-part.part v.book (omega arith))
    ∙ ap (λ t. decode v.book t) (take_all c.loop-part.part c.args.code.now (omega arith))
