use Rattle.std.proofs.Common.{◌≡◌, ◌<◌, ◌^◌, ◌++◌, ℕ, List, ap, sym, subst, ◌∙◌, arith, drop, take, map, length}
use Rattle.std.specs.Prelude.{sum}
use Rattle.std.specs.List.{range_with_len}
use Rattle.std.proofs.lemmas.List.{take_at, take_all}
use Rattle.std.proofs.lemmas.List.FromFn.{length-map-range_with_len}
use Rattle.ann_mplan.specs.Back.{linking, place_of, sizes_of}
use Rattle.ann_mplan.proofs.Sizes.{total_small}
use Rattle.ann_mplan.proofs.back.starts.Goals as goal

pub places-total-requires : goal.places-total-requires
places-total-requires c =
    subst (λ (t : List ℕ). sum t < 2 ^ 64) (sym (c.deref_mut.ensures.value ∙ c.in_ok-starts.ensures)) (total_small c.args.base_rows c.args.links.now c.requires.few)

pub returns-clause-places : goal.returns-clause-places
returns-clause-places c =
    let base = c.args.base_rows in
    let links = c.args.links.now in
    let sizes : List ℕ = c.deref_mut.result.now in
    let are : sizes ≡ sizes_of base links = c.deref_mut.ensures.value ∙ c.in_ok-starts.ensures in
    let count : length sizes ≡ base = ap length are ∙ length-map-range_with_len (λ row. length (linking base links (length links) row)) 0 base in
    let new : List ℕ = c.places-total.new.sizes in
    let long : length new ≡ c.in_ok-starts.starts.len = (let same = c.places-total.auto.sizes in let size = c.in_ok-starts.starts.ok.0 in let all = ap length c.deref_mut.ensures.value in omega arith) in
    take_at new (drop (length new) c.in_ok-starts.starts.items) c.in_ok-starts.starts.len long
    ∙ c.places-total.ensures.places
    ∙ ap (λ (n : ℕ). map (λ row. sum (take row sizes)) (range_with_len 0 n)) count
    ∙ ap (λ (t : List ℕ). map (λ row. sum (take row t)) (range_with_len 0 base)) are

pub returns-clause-total : goal.returns-clause-total
returns-clause-total c =
    let base = c.args.base_rows in
    let links = c.args.links.now in
    let sizes : List ℕ = c.deref_mut.result.now in
    let are : sizes ≡ sizes_of base links = c.deref_mut.ensures.value ∙ c.in_ok-starts.ensures in
    let count : length (sizes_of base links) ≡ base = length-map-range_with_len (λ row. length (linking base links (length links) row)) 0 base in
    c.places-total.ensures.total ∙ ap sum are ∙ ap sum (sym (take_all base (sizes_of base links) (omega arith)))
