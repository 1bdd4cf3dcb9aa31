use Rattle.std.proofs.Common.{◌≡◌, ◌≤◌, ◌<◌, ◌+◌, ◌*◌, ◌-◌, ◌/◌, ℕ, take, drop, get_or, [], sym, ap, ◌∙◌, arith, refl}
use Rattle.ann_pq.proofs.Places.{whole, centroid_ends}
use Rattle.ann_pq.specs.Codebook.{CodebookView, AreSizes}
use Rattle.ann_pq.proofs.Books.{centroid_is}
use Rattle.ann_pq.proofs.codebook.Codebook.centroid.Goals as goal

at : (v : CodebookView) → AreSizes v.d v.m → (p n w : ℕ) → w ≡ v.d / v.m → p < v.m → n < 256 → (256 * p + n) * w + w ≤ 256 * v.d
at v sizes p n w wide l below =
    centroid_ends v.d v.m w (whole v.d v.m sizes.whole ∙ ap (λ k. v.m * k) (sym wide)) p n l below

pub overflow_mul-start-2 : goal.overflow_mul-start-2
overflow_mul-start-2 c =
    let ends = at c.args.self.now c.known.ensures.sizes c.args.part c.from.result c.width-width.result c.width-width.ensures.value c.requires (let same = c.from.ensures in omega arith) in
    let few = c.known.ensures.sizes.components.1 in
    record { fits = omega arith }

pub overflow_add-start-2 : goal.overflow_add-start-2
overflow_add-start-2 c =
    let ends = at c.args.self.now c.known.ensures.sizes c.args.part c.from.result c.width-width.result c.width-width.ensures.value c.requires (let same = c.from.ensures in omega arith) in
    let few = c.known.ensures.sizes.components.1 in
    record { fits = omega arith }

pub returns-clause-value : goal.returns-clause-value
returns-clause-value c =
    let byte : c.from.result < 256 = (let same = c.from.ensures in omega arith) in
    ap (λ t. take (12 + (256 * c.args.part + c.from.result) * c.width-width.result + c.width-width.result - (12 + (256 * c.args.part + c.from.result) * c.width-width.result)) (drop (12 + (256 * c.args.part + c.from.result) * c.width-width.result) t)) c.deref.ensures.value
    ∙ centroid_is c.self.inside.d c.self.inside.m c.self.inside.bytes.items c.args.self.now c.self.view_is c.self.invariant.0 c.self.invariant.1 c.args.part c.from.result c.width-width.result _ c.width-width.ensures.value c.requires byte refl
    ∙ ap (λ n. get_or (get_or c.args.self.now.book c.args.part []) n []) c.from.ensures
