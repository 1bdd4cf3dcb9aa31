-- Entries one behind the other: reading and writing one more.
use Rattle.std.proofs.Common.{◌≡◌, ℕ, ◌+◌, ◌≤◌, List, [], ◌∷◌, ◌++◌, length, drop, refl, sym, ap, ◌∙◌, append_assoc}
use Rattle.std.proofs.lemmas.List.{append-nil, drop-drop, drop_at}
use Rattle.std.proofs.lemmas.Grind.{flat_map-append}
use Rattle.ann_bytes.specs.LittleEndian.{with_field}
use Rattle.ann_types.specs.declared.entry.Entry.{Entry}
use Rattle.ann_entry.specs.EntryBytes.{IsEntry, entry_bytes, entries_bytes}
use Rattle.ann_entry.specs.Standing.{StandsAt}
use Rattle.ann_entry.proofs.Writes.{with_field_twice}

pub entries_push : (entries : List Entry) (entry : Entry) → entries_bytes (entries ++ entry ∷ []) ≡ entries_bytes entries ++ entry_bytes entry
entries_push entries entry =
    flat_map-append entry_bytes entries (entry ∷ [])
    ∙ ap (λ t. entries_bytes entries ++ t) (append-nil (entry_bytes entry))

-- what follows an entry that stands at a place
pub after_entry : (d : ℕ) (bytes : List ℕ) (at : ℕ) (entry : Entry) → StandsAt d bytes at entry → drop at bytes ≡ entry_bytes entry ++ drop (at + length (entry_bytes entry)) bytes
after_entry d bytes at entry stands =
    stands.begins
    ∙ ap (λ t. entry_bytes entry ++ t) (sym (sym (drop-drop (length (entry_bytes entry)) at bytes)
    ∙ ap (drop (length (entry_bytes entry))) stands.begins
    ∙ drop_at (entry_bytes entry) stands.rest (length (entry_bytes entry)) refl))

-- Behind entries that were read from a start an entry stands: with it they are one more.
pub read_more : (d : ℕ) (bytes : List ℕ) (start at : ℕ) (entries : List Entry) (entry : Entry) → drop start bytes ≡ entries_bytes entries ++ drop at bytes → StandsAt d bytes at entry → drop start bytes ≡ entries_bytes (entries ++ entry ∷ []) ++ drop (at + length (entry_bytes entry)) bytes
read_more d bytes start at entries entry read stands =
    read
    ∙ ap (λ t. entries_bytes entries ++ t) (after_entry d bytes at entry stands)
    ∙ sym (append_assoc (entries_bytes entries) (entry_bytes entry) (drop (at + length (entry_bytes entry)) bytes))
    ∙ ap (λ t. t ++ drop (at + length (entry_bytes entry)) bytes) (sym (entries_push entries entry))

-- Where the bytes from a place on are those of entries, the first one stands there.
pub first_stands : (d : ℕ) (bytes : List ℕ) (at : ℕ) (entry : Entry) (entries : List Entry) (rest : List ℕ) → IsEntry d entry → drop at bytes ≡ entries_bytes (entry ∷ entries) ++ rest → StandsAt d bytes at entry
first_stands d bytes at entry entries rest fits same =
    record { fits = fits; rest = entries_bytes entries ++ rest; begins = same ∙ append_assoc (entry_bytes entry) (entries_bytes entries) rest }

-- An entry that is written behind written entries is one more of them.
pub written_more : (bytes : List ℕ) (start at : ℕ) (entries : List Entry) (entry : Entry) → at ≡ start + length (entries_bytes entries) → at + length (entry_bytes entry) ≤ length bytes → with_field (with_field bytes start (entries_bytes entries)) at (entry_bytes entry) ≡ with_field bytes start (entries_bytes (entries ++ entry ∷ []))
written_more bytes start at entries entry is fits =
    with_field_twice bytes start at (entries_bytes entries) (entry_bytes entry) is fits
    ∙ ap (with_field bytes start) (sym (entries_push entries entry))
