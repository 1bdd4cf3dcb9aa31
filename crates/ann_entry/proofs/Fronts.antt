-- No entry's bytes begin those of another: one list of bytes is spelled by one list of entries.
use Rattle.std.proofs.Common.{◌≡◌, ℕ, ◌*◌, ◌≤◌, List, [], ◌∷◌, ◌++◌, length, get_or, drop, refl, sym, ap, ◌∙◌, arith, append_assoc, length-append}
use Rattle.std.specs.List.{AllByRecursion}
use Rattle.std.proofs.lemmas.List.{drop_at}
use Rattle.ann_types.specs.declared.entry.Entry.{Entry}
use Rattle.ann_entry.specs.EntryBytes.{IsEntry, entry_bytes, entries_bytes}
use Rattle.ann_entry.specs.Kinds.{kind_of}
use Rattle.ann_entry.proofs.Spelled.{spelled, one_kind, first_byte, spelled_again, at_least_five}

module _ (d : ℕ) where
  module _ (a b : Entry) (x y : List ℕ) (a_fits : IsEntry d a) (b_fits : IsEntry d b) (same : entry_bytes a ++ x ≡ entry_bytes b ++ y) where
    -- two entries whose bytes begin one list are one entry
    pub one_entry : a ≡ b
    one_entry =
        let kinds : kind_of a ≡ kind_of b = one_kind (kind_of a) (kind_of b) (sym (first_byte a x) ∙ ap (λ t. get_or t 0 0) same ∙ first_byte b y) in
        sym (spelled_again d a x a_fits)
        ∙ ap (λ k. spelled k d (entry_bytes a ++ x)) kinds
        ∙ ap (λ t. spelled (kind_of b) d t) same
        ∙ spelled_again d b y b_fits

    -- and what follows them is one list
    pub one_rest : x ≡ y
    one_rest =
        sym (drop_at (entry_bytes a) x (length (entry_bytes a)) refl)
        ∙ ap (drop (length (entry_bytes a))) same
        ∙ drop_at (entry_bytes b) y (length (entry_bytes a)) (ap (λ e. length (entry_bytes e)) (sym one_entry))

  -- Where the bytes of two lists of entries begin one list of bytes, the shorter list begins the longer one.
  pub entries_front : (xs ys : List Entry) (x y : List ℕ) → AllByRecursion (IsEntry d) xs → AllByRecursion (IsEntry d) ys → length xs ≤ length ys → entries_bytes xs ++ x ≡ entries_bytes ys ++ y → (more : List Entry) × (ys ≡ xs ++ more) × (x ≡ entries_bytes more ++ y)
  entries_front [] ys x y xs_fit ys_fit few same = (ys, refl, same)
  entries_front (a ∷ xs) [] x y xs_fit ys_fit few same = absurd (omega (arith, few))
  entries_front (a ∷ xs) (b ∷ ys) x y xs_fit ys_fit few same =
      let whole : entry_bytes a ++ (entries_bytes xs ++ x) ≡ entry_bytes b ++ (entries_bytes ys ++ y) = sym (append_assoc (entry_bytes a) (entries_bytes xs) x) ∙ same ∙ append_assoc (entry_bytes b) (entries_bytes ys) y in
      let first : a ≡ b = one_entry a b (entries_bytes xs ++ x) (entries_bytes ys ++ y) xs_fit.0 ys_fit.0 whole in
      let rest = entries_front xs ys x y xs_fit.1 ys_fit.1 (omega (arith, few)) (one_rest a b (entries_bytes xs ++ x) (entries_bytes ys ++ y) xs_fit.0 ys_fit.0 whole) in
      (rest.0, ap (λ t. b ∷ t) rest.1 ∙ ap (λ e. e ∷ (xs ++ rest.0)) (sym first), rest.2)

  -- Lists of entries with the same bytes are one list.
  pub one_list : (xs ys : List Entry) → AllByRecursion (IsEntry d) xs → AllByRecursion (IsEntry d) ys → entries_bytes xs ≡ entries_bytes ys → xs ≡ ys
  one_list [] [] xs_fit ys_fit same = refl
  one_list [] (b ∷ ys) xs_fit ys_fit same =
      absurd (let some = at_least_five b in let whole = length-append (entry_bytes b) (entries_bytes ys) in let none = ap length same in omega (arith, some, whole, none))
  one_list (a ∷ xs) [] xs_fit ys_fit same =
      absurd (let some = at_least_five a in let whole = length-append (entry_bytes a) (entries_bytes xs) in let none = ap length same in omega (arith, some, whole, none))
  one_list (a ∷ xs) (b ∷ ys) xs_fit ys_fit same =
      let first : a ≡ b = one_entry a b (entries_bytes xs) (entries_bytes ys) xs_fit.0 ys_fit.0 same in
      ap (λ e. e ∷ xs) first ∙ ap (λ t. b ∷ t) (one_list xs ys xs_fit.1 ys_fit.1 (one_rest a b (entries_bytes xs) (entries_bytes ys) xs_fit.0 ys_fit.0 same))

-- each entry has at least five bytes
pub length_entries : (entries : List Entry) → 5 * length entries ≤ length (entries_bytes entries)
length_entries [] = omega arith
length_entries (entry ∷ entries) =
    let some = at_least_five entry in
    let whole = length-append (entry_bytes entry) (entries_bytes entries) in
    let rest = length_entries entries in omega (arith, some, whole, rest)
