-- Beginnings of lists of entries.
use Rattle.std.proofs.Common.{◌≡◌, ℕ, ◌-◌, ◌≤◌, List, [], ◌++◌, refl, sym, ap, ◌∙◌, arith, take, drop, length, append_assoc, append-nil, length-append}
use Rattle.std.proofs.lemmas.List.{take-append-le, take_all, take_at, take-append-drop, length-take-le}
use Rattle.ann_types.specs.Lists.{ListBase, BasedList, BeginsWith, length_of, upto, with_entries}
use Rattle.ann_types.specs.declared.entry.Entry.{Entry}

abbrev pub on : ListBase → List Entry → BasedList
on base entries = record { base = base; entries = entries }

pub begins_self : (h : BasedList) → BeginsWith h h
begins_self h = record { base = refl; entries = ([], append-nil h.entries) }

pub begins_trans : (h g f : BasedList) → BeginsWith h g → BeginsWith g f → BeginsWith h f
begins_trans h g f p q = record {
  base = p.base ∙ q.base;
  entries = (q.entries.0 ++ p.entries.0, sym (append_assoc f.entries q.entries.0 p.entries.0) ∙ ap (λ (w : List Entry). w ++ p.entries.0) q.entries.1 ∙ p.entries.1);
}

-- a list begins with each of its prefixes
pub begins_upto : (h : BasedList) (n : ℕ) → BeginsWith h (upto h n)
begins_upto h n = record { base = refl; entries = (drop (n - h.base.position) h.entries, take-append-drop (n - h.base.position) h.entries) }

pub begins_length : (h g : BasedList) → BeginsWith h g → length_of g ≤ length_of h
begins_length h g b =
    let same = ap (λ (t : ListBase). t.position) b.base in
    let more = sym (ap length b.entries.1) ∙ length-append g.entries b.entries.0 in
    omega (arith, same, more)

pub begins_entries : (h g : BasedList) → BeginsWith h g → length g.entries ≤ length h.entries
begins_entries h g b =
    let more = sym (ap length b.entries.1) ∙ length-append g.entries b.entries.0 in
    omega (arith, more)

-- the prefixes of a beginning are prefixes of the whole
pub upto_begins : (h g : BasedList) (n : ℕ) → BeginsWith h g → n ≤ length_of g → upto h n ≡ upto g n
upto_begins h g n b short =
    let same = ap (λ (t : ListBase). t.position) b.base in
    ap (λ (t : ListBase). on t (take (n - h.base.position) h.entries)) b.base
    ∙ ap (λ (m : ℕ). on g.base (take (n - m) h.entries)) same
    ∙ ap (λ (es : List Entry). on g.base (take (n - g.base.position) es)) (sym b.entries.1)
    ∙ ap (on g.base) (take-append-le (n - g.base.position) g.entries b.entries.0 (omega (arith, short)))

-- a list is its prefix of its own length
pub upto_all : (h : BasedList) → upto h (length_of h) ≡ h
upto_all h = ap (on h.base) (take_all (length_of h - h.base.position) h.entries (omega arith))

pub upto_own : (h g : BasedList) → BeginsWith h g → upto h (length_of g) ≡ g
upto_own h g b = upto_begins h g (length_of g) b (omega arith) ∙ upto_all g

pub length_upto : (h : BasedList) (n : ℕ) → h.base.position ≤ n → n ≤ length_of h → length_of (upto h n) ≡ n
length_upto h n from to =
    let size = length-take-le (n - h.base.position) h.entries (omega (arith, to)) in
    omega (arith, size, from)

-- a beginning of a list that is no longer than another beginning is one of that
pub begins_shorter : (g f : BasedList) (es : List Entry) → BeginsWith (with_entries g es) f → length f.entries ≤ length g.entries → BeginsWith g f
begins_shorter g f es b short =
    let front : take (length f.entries) g.entries ≡ f.entries =
    sym (take-append-le (length f.entries) g.entries es short)
    ∙ ap (take (length f.entries)) (sym b.entries.1)
    ∙ take_at f.entries b.entries.0 (length f.entries) refl in
    record { base = b.base; entries = (drop (length f.entries) g.entries, ap (λ (w : List Entry). w ++ drop (length f.entries) g.entries) (sym front) ∙ take-append-drop (length f.entries) g.entries) }
