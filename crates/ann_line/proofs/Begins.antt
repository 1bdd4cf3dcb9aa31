-- Lists on a base that begin with others.
use Rattle.std.proofs.Common.{◌≡◌, ◌≤◌, List, [], ◌∷◌, refl, ap, sym, ◌∙◌, arith}
use mathlib.Core.List.{IsPrefix}
use Rattle.ann_types.specs.Lists.{ListBase, BasedList, BeginsWith, length_of, with_entries, with_entry}
use Rattle.ann_types.specs.declared.entry.Entry.{Entry}
use Rattle.ann_line.proofs.Prefixes.{prefix_self, prefix_trans, prefix_shorter, prefix_whole, prefix_length, prefix_after}

-- each list begins with itself
pub begins_self : (h : BasedList) → BeginsWith h h
begins_self h = record { base = refl; entries = prefix_self h.entries }

pub begins_trans : (f g h : BasedList) → BeginsWith g f → BeginsWith h g → BeginsWith h f
begins_trans f g h p q = record { base = q.base ∙ p.base; entries = prefix_trans f.entries g.entries h.entries p.entries q.entries }

-- of two lists with which one begins, the longer begins with the shorter
pub begins_shorter : (f g h : BasedList) → BeginsWith h f → BeginsWith h g → length_of f ≤ length_of g → BeginsWith g f
begins_shorter f g h p q less =
    let place : f.base.position ≡ g.base.position = ap (λ (b : ListBase). b.position) (sym p.base ∙ q.base) in
    record { base = sym q.base ∙ p.base; entries = prefix_shorter f.entries g.entries h.entries p.entries q.entries (omega (arith, place, less)) }

-- a list that begins with one of its length is that one
pub begins_whole : (h g : BasedList) → BeginsWith h g → length_of h ≤ length_of g → h ≡ g
begins_whole h g p less =
    let place : h.base.position ≡ g.base.position = ap (λ (b : ListBase). b.position) p.base in
    let same : g.entries ≡ h.entries = prefix_whole g.entries h.entries p.entries (omega (arith, place, less)) in
    λ i. record { base = p.base i; entries = sym same i }

pub begins_length : (h g : BasedList) → BeginsWith h g → length_of g ≤ length_of h
begins_length h g p =
    let place : h.base.position ≡ g.base.position = ap (λ (b : ListBase). b.position) p.base in
    let less = prefix_length g.entries h.entries p.entries in
    omega (arith, place, less)

-- what begins a list's entries begins it
pub begins_on : (h : BasedList) (xs ys : List Entry) → IsPrefix xs ys → BeginsWith (with_entries h ys) (with_entries h xs)
begins_on h xs ys p = record { base = refl; entries = prefix_after h.entries xs ys p }

-- a list with further entries begins with it
pub begins_with : (h : BasedList) (xs : List Entry) → BeginsWith (with_entries h xs) h
begins_with h xs = record { base = refl; entries = (xs, refl) }

pub begins_entry : (h g : BasedList) (e : Entry) → BeginsWith h g → BeginsWith (with_entry h e) g
begins_entry h g e p = begins_trans g h (with_entry h e) p (begins_with h (e ∷ []))
