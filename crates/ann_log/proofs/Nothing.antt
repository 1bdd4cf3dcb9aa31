-- Files that are no index, or an empty one.
use Rattle.std.proofs.Common.{◌≡◌, ◌≢◌, ◌⊎◌, inl, inr, ⊎_elim, ℕ, zero, suc, ◌+◌, ◌<◌, ◌≤◌, Bool, true, false, ◌==◌, ◌&&◌, nat_lt, if◌then◌else◌, List, [], ◌∷◌, ◌++◌, Option, Some, None, length, get_or, take, drop, refl, sym, ap, ◌∙◌, arith, length-append, length-drop, length-take}
use Rattle.std.proofs.lemmas.Bool.{cases_eq}
use Rattle.std.proofs.lemmas.Bool.Decides.{nat_tests}
use Rattle.std.proofs.lemmas.List.{get_or-drop, get_or-take}
use Rattle.ann_types.specs.declared.entry.Entry.{Entry}
use Rattle.ann_entry.specs.EntryBytes.{entries_bytes}
use Rattle.ann_disk.specs.File.{BeginsAnImage}
use Rattle.ann_disk.specs.Image.{Unsynced, IsImage}
use Rattle.ann_preamble.specs.Preamble.{Said, preamble_of, no_base}
use Rattle.ann_preamble.specs.Choice.{chosen}
use Rattle.ann_preamble.specs.declared.choice.Side.TheVariants.{First, Second}
use Rattle.ann_preamble.proofs.Agreed.{fronts, sound_in, both}
use Rattle.ann_preamble.proofs.Again.{not_same}
use Rattle.ann_frame.specs.Text.{size_of}
use Rattle.ann_frame.specs.TextOf as framed
use Rattle.ann_frame.specs.TextOf.{stands, bad, entries_in, is_whole, frames_text, text_of}
use Rattle.ann_log.specs.Anew.{IsUnmade, IsText, IsUnmadeOrText, IsFrontOrText}
use Rattle.ann_log.specs.Making.{HoldsNothing, MayBeEmpty, IsNothingOr, IsNoIndexOr}
use Rattle.ann_log.specs.Text.{no_index, holds, behind, first_gate, file_text, text_with, text_on, log_text, IsNoIndex, Held, said_of}
use Rattle.ann_log.proofs.Turning.{text_here}

-- ---- behind an open gate there is an entry

some_whole : (entries : List Entry) (size : ℕ) → nat_lt 0 size ≡ true → (length (entries_bytes entries) == size) ≡ true → 1 ≤ length entries
some_whole [] size some filled = absurd (grind (arith, nat_tests, some, filled))
some_whole (entry ∷ entries) size some filled = omega arith

-- a choice of two texts, neither of which is a third
neither : (b : Bool) (x y z : framed.Text) → (x ≡ z → ⊥) → (y ≡ z → ⊥) → (if b then x else y) ≡ z → ⊥
neither true x y z not_x not_y is = not_x is
neither false x y z not_x not_y is = not_y is

bad_stands : (n k : ℕ) → bad n ≡ stands [] k → ⊥
bad_stands n k is = cc

stands_some : (list : List Entry) (at k : ℕ) → 1 ≤ length list → stands list at ≡ stands [] k → ⊥
stands_some list at k some is = let same : list ≡ [] = cc in let none = ap length same in omega (arith, some, none)

module _ (d : ℕ) where
  abbrev after : ℕ → List Entry → ℕ → List ℕ → framed.Text
  after n sofar at tail = frames_text n d (sofar ++ entries_in d tail) (at + (5 + size_of tail)) (drop (4 + size_of tail) tail)

  abbrev at_fault : List Entry → List ℕ → framed.Text
  at_fault sofar tail = bad (length sofar + length (entries_in d tail))

  never_empty : (n : ℕ) (sofar : List Entry) (at k : ℕ) (bytes : List ℕ) → 1 ≤ length sofar → frames_text n d sofar at bytes ≡ stands [] k → ⊥
  never_empty zero sofar at k bytes some is = bad_stands (length sofar) k is
  never_empty (suc n) sofar at k [] some is = bad_stands (length sofar) k is
  never_empty (suc n) sofar at k (gate ∷ tail) some is =
      neither (gate == 1) (if is_whole d tail then after n sofar at tail else at_fault sofar tail) (stands sofar at) (stands [] k)
      (neither (is_whole d tail) (after n sofar at tail) (at_fault sofar tail) (stands [] k)
      (never_empty n (sofar ++ entries_in d tail) (at + (5 + size_of tail)) k (drop (4 + size_of tail) tail) (omega (arith, some, length-append sofar (entries_in d tail))))
      (bad_stands (length sofar + length (entries_in d tail)) k))
      (stands_some sofar at k some)
      is

  open_inner : (n k : ℕ) (tail : List ℕ) (b : Bool) → is_whole d tail ≡ b → (if b then after n [] 0 tail else at_fault [] tail) ≡ stands [] k → ⊥
  open_inner n k tail true whole is =
      let first = both (nat_lt (4 + size_of tail) (length tail) && nat_lt 0 (size_of tail)) (length (entries_bytes (entries_in d tail)) == size_of tail) whole in
      let second = both (nat_lt (4 + size_of tail) (length tail)) (nat_lt 0 (size_of tail)) first.0 in
      never_empty n (entries_in d tail) (0 + (5 + size_of tail)) k (drop (4 + size_of tail) tail) (some_whole (entries_in d tail) (size_of tail) second.1 first.1) is
  open_inner n k tail false whole is = bad_stands (length {A = Entry} [] + length (entries_in d tail)) k is

  open_holds : (n k : ℕ) (tail : List ℕ) → frames_text (suc n) d [] 0 (1 ∷ tail) ≡ stands [] k → ⊥
  open_holds n k tail is = open_inner n k tail (is_whole d tail) refl is

  shut_stands : (gate : ℕ) (rest : List ℕ) → gate ≢ 1 → text_of d (gate ∷ rest) ≡ stands [] 0
  shut_stands gate rest shut =
      ap (λ (b : Bool). if b then (if is_whole d rest then after (length rest) [] 0 rest else at_fault [] rest) else stands [] 0) (not_same gate 1 shut)

  -- another list that begins with the gate is empty too
  pub first_gate_shut : (gate k : ℕ) (rest other : List ℕ) → text_of d (gate ∷ rest) ≡ stands [] k → text_of d (gate ∷ other) ≡ stands [] 0
  first_gate_shut gate k rest other is = ⊎_elim
      (λ opened. absurd (open_holds (length rest) k rest (ap (λ (g : ℕ). text_of d (g ∷ rest)) (sym opened) ∙ is)))
      (λ shut. shut_stands gate other shut)
      (cases_eq gate 1)

-- ---- one file

-- no preamble, or an empty base and no entries, where something is so
pub data IsBare (where_so : Type 0) (bytes : List ℕ) : Type 0 where
  unmade : IsUnmade bytes → IsBare where_so bytes
  empty : (s : Said) → preamble_of bytes ≡ Some s → s.fields.base ≡ no_base → file_text s bytes ≡ holds s [] → where_so → IsBare where_so bytes

stands_behind : (s : Said) (t : framed.Text) → behind s t ≡ holds s [] → (k : ℕ) × (t ≡ stands [] k)
stands_behind s (stands entries k) is = let same : entries ≡ [] = cc in (k, ap (λ e. stands e k) same)
stands_behind s (bad n) is = absurd (cc)

module _ (d gate : ℕ) (old new : List ℕ) (begins : take (length new) old ≡ new) (there : gate < length new) where
  same_byte : get_or (drop gate old) 0 0 ≡ get_or (drop gate new) 0 0
  same_byte =
      get_or-drop gate old 0 0
      ∙ sym (get_or-take (length new) old (gate + 0) 0 (omega (arith, there)))
      ∙ ap (λ (l : List ℕ). get_or l (gate + 0) 0) begins
      ∙ sym (get_or-drop gate new 0 0)

  same_gate : (k : ℕ) (x y : List ℕ) → drop gate old ≡ x → drop gate new ≡ y → get_or x 0 0 ≡ get_or y 0 0 → text_of d x ≡ stands [] k → text_of d y ≡ stands [] 0
  same_gate k x [] xs ys same is = let long = ap length ys in absurd (omega (arith, long, there, length-drop gate new))
  same_gate k [] (b ∷ y) xs ys same is = let long = ap length xs in let shorter = ap length begins in absurd (omega (arith, long, there, shorter, length-drop gate old, length-take (length new) old))
  same_gate k (a ∷ x) (b ∷ y) xs ys same is = ap (λ (g : ℕ). text_of d (g ∷ y)) (sym same) ∙ first_gate_shut d a k x y is

  pub front_empty : (k : ℕ) → text_of d (drop gate old) ≡ stands [] k → text_of d (drop gate new) ≡ stands [] 0
  front_empty k is = same_gate k (drop gate old) (drop gate new) refl refl same_byte is

-- the front of a bare file is bare
pub front_bare : (so : Type 0) (old new : List ℕ) → take (length new) old ≡ new → IsBare so old → IsBare so new
front_bare so old new begins is = ⊎_elim
    (λ none. unmade (ap preamble_of (sym begins) ∙ none))
    (λ same. as_old is (ap preamble_of (sym begins) ∙ same))
    (fronts old (length new))
  where
    as_old : IsBare so old → preamble_of new ≡ preamble_of old → IsBare so new
    as_old (unmade none) same = unmade (same ∙ none)
    as_old (empty s says base text was) same =
        let there = (sound_in new s (same ∙ says)).gate in
        let stood = stands_behind s (text_of s.fields.d (drop (first_gate s) old)) text in
        empty s (same ∙ says) base (ap (behind s) (front_empty s.fields.d (first_gate s) old new begins there stood.0 stood.1)) was

-- ---- two files

-- a choice between two
either_text : (b : Bool) (first second : List ℕ) → (text_on (if b then Some Second else Some First) first second ≡ text_with (preamble_of first) first) ⊎ (text_on (if b then Some Second else Some First) first second ≡ text_with (preamble_of second) second)
either_text true first second = inr refl
either_text false first second = inl refl

module _ (first second : List ℕ) where
  of_one : (p q : Option Said) → preamble_of first ≡ p → preamble_of second ≡ q → (text_on (chosen p q) first second ≡ text_with (preamble_of first) first) ⊎ (text_on (chosen p q) first second ≡ text_with (preamble_of second) second)
  of_one None None one two = inl (ap (λ (p : Option Said). text_with p first) (sym one))
  of_one None (Some t) one two = inr refl
  of_one (Some s) None one two = inl refl
  of_one (Some s) (Some t) one two = either_text (nat_lt s.fields.generation t.fields.generation) first second

  -- they stand for what the one or the other does
  pub one_text : (log_text first second ≡ text_with (preamble_of first) first) ⊎ (log_text first second ≡ text_with (preamble_of second) second)
  one_text = of_one (preamble_of first) (preamble_of second) refl refl

  beside_with : (p : Option Said) → preamble_of first ≡ p → text_on (chosen p None) first second ≡ text_with p first
  beside_with None one = refl
  beside_with (Some s) one = ap (λ (p : Option Said). text_with p first) one

  pub beside_second : preamble_of second ≡ None → log_text first second ≡ text_with (preamble_of first) first
  beside_second none = ap (λ (q : Option Said). text_on (chosen (preamble_of first) q) first second) none ∙ beside_with (preamble_of first) refl

  behind_with : (q : Option Said) → preamble_of second ≡ q → text_on (chosen None q) first second ≡ text_with q second
  behind_with None two = refl
  behind_with (Some t) two = ap (λ (q : Option Said). text_with q second) two

  pub beside_first : preamble_of first ≡ None → log_text first second ≡ text_with (preamble_of second) second
  beside_first none = ap (λ (p : Option Said). text_on (chosen p (preamble_of second)) first second) none ∙ behind_with (preamble_of second) refl

  -- no index is no preamble in either
  pub no_preambles : preamble_of first ≡ None → preamble_of second ≡ None → IsNoIndex first second
  no_preambles one two = beside_second two ∙ ap (λ (p : Option Said). text_with p first) one

never_none : (s : Said) (t : framed.Text) → behind s t ≡ no_index → ⊥
never_none s (stands entries k) is = cc
never_none s (bad n) is = cc

-- a file with a preamble is an index
with_none : (bytes : List ℕ) (p : Option Said) → preamble_of bytes ≡ p → text_with p bytes ≡ no_index → preamble_of bytes ≡ None
with_none bytes None says is = says
with_none bytes (Some s) says is = absurd (never_none s (text_of s.fields.d (drop (first_gate s) bytes)) is)

module _ (first second : List ℕ) (is : IsNoIndex first second) where
  choice_some : (b : Bool) → text_on (if b then Some Second else Some First) first second ≡ no_index → (preamble_of first ≡ None) ⊎ (preamble_of second ≡ None)
  choice_some true none = inr (with_none second (preamble_of second) refl none)
  choice_some false none = inl (with_none first (preamble_of first) refl none)

  neither_with : (p q : Option Said) → preamble_of first ≡ p → preamble_of second ≡ q → text_on (chosen p q) first second ≡ no_index → (preamble_of first ≡ None) × (preamble_of second ≡ None)
  neither_with None None one two none = (one, two)
  neither_with None (Some t) one two none = (one, with_none second (preamble_of second) refl none)
  neither_with (Some s) None one two none = (with_none first (preamble_of first) refl none, two)
  neither_with (Some s) (Some t) one two none = absurd (⊎_elim
      (λ no_first. some_none s (sym one ∙ no_first))
      (λ no_second. some_none t (sym two ∙ no_second))
      (choice_some (nat_lt s.fields.generation t.fields.generation) none))
    where
      some_none : (s : Said) → Some s ≡ None → ⊥
      some_none s same = cc

  pub neither_made : (preamble_of first ≡ None) × (preamble_of second ≡ None)
  neither_made = neither_with (preamble_of first) (preamble_of second) refl refl is

-- ---- what a crash leaves

bare_behind : (so : Type 0) (bytes : List ℕ) (t s : Said) (x : framed.Text) → preamble_of bytes ≡ Some t → file_text t bytes ≡ behind t x → behind t x ≡ holds s [] → s.fields.base ≡ no_base → so → IsBare so bytes
bare_behind so bytes t s (stands entries k) says here is base was =
    let same : t ≡ s = cc in
    let none : entries ≡ [] = cc in
    empty t says (ap (λ (u : Said). u.fields.base) same ∙ base) (here ∙ ap (holds t) none) was
bare_behind so bytes t s (bad n) says here is base was = absurd (cc)

bare_with : (so : Type 0) (bytes : List ℕ) (p : Option Said) (s : Said) → preamble_of bytes ≡ p → text_with p bytes ≡ holds s [] → s.fields.base ≡ no_base → so → IsBare so bytes
bare_with so bytes None s says is base was = unmade says
bare_with so bytes (Some t) s says is base was = bare_behind so bytes t s (text_of t.fields.d (drop (first_gate t) bytes)) says refl is base was

module _ (u v : Unsynced) (one two : List ℕ) (one_is : IsImage u one) (two_is : IsImage v two) (none : IsNoIndex one two) (nothing : (a : List ℕ) → IsImage u a → (b : List ℕ) → IsImage v b → HoldsNothing a b) where
  abbrev Was : Type 0
  Was = MayBeEmpty u v

  bare_first : (a : List ℕ) → IsImage u a → HoldsNothing a two → IsBare Was a
  bare_first a is (inl clear) = unmade (neither_made a two clear).0
  bare_first a is (inr (s, base, text)) =
      bare_with Was a (preamble_of a) s refl (sym (beside_second a two (neither_made one two none).1) ∙ text) base
      (record { first = a; second = two; first_image = is; second_image = two_is; empty = (s, base, text) })

  bare_second : (b : List ℕ) → IsImage v b → HoldsNothing one b → IsBare Was b
  bare_second b is (inl clear) = unmade (neither_made one b clear).1
  bare_second b is (inr (s, base, text)) =
      bare_with Was b (preamble_of b) s refl (sym (beside_first one b (neither_made one two none).0) ∙ text) base
      (record { first = one; second = b; first_image = one_is; second_image = is; empty = (s, base, text) })

  front_first : (a : List ℕ) → BeginsAnImage u a → IsBare Was a
  front_first a (image, is, begins) = front_bare Was image a begins (bare_first image is (nothing image is two two_is))

  front_second : (b : List ℕ) → BeginsAnImage v b → IsBare Was b
  front_second b (image, is, begins) = front_bare Was image b begins (bare_second image is (nothing one one_is image is))

  module _ (held : Held) (generation : ℕ) where
    abbrev said : Said
    said = said_of held generation

    -- one file while the first is written anew
    abbrev IsLeft : List ℕ → Type 0
    IsLeft c = IsBare Was c ⊎ IsText said held.entries c

    left_text : (a b c : List ℕ) → IsLeft c → log_text a b ≡ text_with (preamble_of c) c → IsNothingOr u v held a b
    left_text a b c (inl (unmade clear)) is = inl (is ∙ ap (λ (p : Option Said). text_with p c) clear)
    left_text a b c (inl (empty s says base text was)) is = inr (inl ((s, base, is ∙ ap (λ (p : Option Said). text_with p c) says ∙ text), was))
    left_text a b c (inr text) is = inr (inr (generation, is ∙ ap (λ (p : Option Said). text_with p c) text.says ∙ text_here said held.entries c text))

    left_pair : (a b : List ℕ) → IsLeft a → IsLeft b → IsNothingOr u v held a b
    left_pair a b first second = ⊎_elim (λ is. left_text a b a first is) (λ is. left_text a b b second is) (one_text a b)

    left_first : (a : List ℕ) → IsFrontOrText u said held.entries a → IsLeft a
    left_first a (inl begins) = inl (front_first a begins)
    left_first a (inr (inl clear)) = inl (unmade clear)
    left_first a (inr (inr text)) = inr text

    -- while the second file is cut
    pub left_cut : (a b : List ℕ) → IsImage u a → BeginsAnImage v b → IsNothingOr u v held a b
    left_cut a b is begins = left_pair a b (inl (bare_first a is (nothing a is two two_is))) (inl (front_second b begins))

    -- and while the first is written
    pub left_written : (a b : List ℕ) → IsFrontOrText u said held.entries a → BeginsAnImage v b → IsNothingOr u v held a b
    left_written a b first begins = left_pair a b (left_first a first) (inl (front_second b begins))

-- before anything was done
pub left_before : (u v : Unsynced) (held : Held) (a b : List ℕ) → IsImage u a → IsImage v b → HoldsNothing a b → IsNothingOr u v held a b
left_before u v held a b one two (inl clear) = inl clear
left_before u v held a b one two (inr is) = inr (inl (is, record { first = a; second = b; first_image = one; second_image = two; empty = is }))

-- what a read gives then
pub left_read : (held : Held) (generation : ℕ) (a b : List ℕ) → IsUnmadeOrText (said_of held generation) held.entries a → IsUnmade b → IsNoIndexOr held a b
left_read held generation a b (inl clear) none = inl (no_preambles a b clear none)
left_read held generation a b (inr text) none =
    inr (generation, beside_second a b none ∙ ap (λ (p : Option Said). text_with p a) text.says ∙ text_here (said_of held generation) held.entries a text)
