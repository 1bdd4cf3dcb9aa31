-- Writing a frame: entries one behind the other, and how many bytes they take.
use Rattle.std.proofs.Common.{◌≡◌, ℕ, zero, suc, ◌+◌, ◌*◌, ◌<◌, ◌≤◌, List, [], ◌∷◌, ◌++◌, length, get_or, take, drop, sym, ap, subst, ◌∙◌, arith, length-append, take-append-drop, append_assoc}
use Rattle.std.proofs.lemmas.Grind.{flat_map-append}
use Rattle.std.proofs.lemmas.List.{take_more, drop_at, length-take-le}
use Rattle.ann_bytes.specs.LittleEndian.{bytes_of, with_field}
use Rattle.ann_types.specs.declared.entry.Entry.{Entry}
use Rattle.ann_types.specs.declared.entry.Entry.TheVariants.{Insert, Delete, Begin, End, Replace}
use Rattle.ann_entry.specs.EntryBytes.{IsEntry, HasComponents, entry_bytes, entries_bytes}
use Rattle.ann_entry.proofs.Entries.{entries_push, written_more}
use Rattle.ann_entry.proofs.Writes.{with_field_twice}
use Rattle.ann_frame.specs.Frames.{AreEntries, HaveComponents}
use Rattle.ann_types.proofs.Sets.{all_append}
use Rattle.ann_frame.proofs.Each.{all_at}

size_most : (d : ℕ) (entry : Entry) → HasComponents d entry → length (entry_bytes entry) ≤ 13 + d
unfolding entry_bytes
size_most d (Insert by tag vector) fits = let size : length vector ≡ d = fits in omega (arith, size)
size_most d (Delete by tag) fits = omega arith
size_most d (Begin by) fits = omega arith
size_most d (End by segment) fits = omega arith
size_most d (Replace by tag vector) fits = let size : length vector ≡ d = fits in omega (arith, size)

-- n entries whose vectors have d components
pub sizes_most : (d n : ℕ) (entries : List Entry) → HaveComponents d entries → length entries ≤ n → length (entries_bytes entries) ≤ n * (13 + d)
sizes_most d n [] each few = omega arith
sizes_most d zero (entry ∷ entries) each few = absurd (omega (arith, few))
sizes_most d (suc n) (entry ∷ entries) each few =
    let first = size_most d entry each.0 in
    let rest = sizes_most d n entries each.1 (omega (arith, few)) in
    let whole = length-append (entry_bytes entry) (entries_bytes entries) in omega (arith, first, rest, whole)

-- the entry at a place of a list, and those before it
module _ (entries : List Entry) (i : ℕ) (entry : Entry) (inside : i < length entries) (is : entry ≡ get_or entries i entry) where
  one_more : take (i + 1) entries ≡ take i entries ++ entry ∷ []
  one_more = take_more entries i entry inside ∙ ap (λ e. take i entries ++ e ∷ []) (sym is)

  size_more : length (entries_bytes (take (i + 1) entries)) ≡ length (entries_bytes (take i entries)) + length (entry_bytes entry)
  size_more =
      ap (λ t. length (entries_bytes t)) one_more
      ∙ ap length (entries_push (take i entries) entry)
      ∙ length-append (entries_bytes (take i entries)) (entry_bytes entry)

  size_whole : length (entries_bytes entries) ≡ length (entries_bytes (take (i + 1) entries)) + length (entries_bytes (drop (i + 1) entries))
  size_whole =
      ap (λ t. length (entries_bytes t)) (sym (take-append-drop (i + 1) entries))
      ∙ ap length (flat_map-append entry_bytes (take (i + 1) entries) (drop (i + 1) entries))
      ∙ length-append (entries_bytes (take (i + 1) entries)) (entries_bytes (drop (i + 1) entries))

  -- there is room for it
  pub room_more : length (entries_bytes (take i entries)) + length (entry_bytes entry) ≤ length (entries_bytes entries)
  room_more = let more = size_more in let whole = size_whole in omega (arith, more, whole)

  pub place_more : (start end next : ℕ) → end ≡ start + length (entries_bytes (take i entries)) → next ≡ end + length (entry_bytes entry) → next ≡ start + length (entries_bytes (take (i + 1) entries))
  place_more start end next place after = let more = size_more in omega (arith, more, place, after)

  pub bytes_more : (old out new : List ℕ) (start end : ℕ) → end ≡ start + length (entries_bytes (take i entries)) → start + length (entries_bytes entries) ≤ length old → out ≡ with_field old start (entries_bytes (take i entries)) → new ≡ with_field out end (entry_bytes entry) → new ≡ with_field old start (entries_bytes (take (i + 1) entries))
  bytes_more old out new start end place fits before written =
      written
      ∙ ap (λ t. with_field t end (entry_bytes entry)) before
      ∙ written_more old start end (take i entries) entry place (let room = room_more in omega (arith, room, place, fits))
      ∙ ap (λ t. with_field old start (entries_bytes t)) (sym one_more)

  pub each_more : (d : ℕ) → HaveComponents d entries → AreEntries d (take i entries) → (HasComponents d entry → IsEntry d entry) → AreEntries d (take (i + 1) entries)
  each_more d have before fits =
      subst (λ t. AreEntries d t) (sym one_more)
      (all_append (IsEntry d) (take i entries) (entry ∷ []) before (fits (all_at (HasComponents d) entries i entry have inside is), tt))

-- the length field in front of the entries, and the gate behind them
pub frame_written : (old : List ℕ) (body : List ℕ) → 4 + length body + 1 ≤ length old → with_field (with_field (with_field old 4 body) 0 (bytes_of 4 (length body))) (4 + length body) (0 ∷ []) ≡ with_field old 0 (bytes_of 4 (length body) ++ body ++ 0 ∷ [])
frame_written old body fits =
    ap (λ t. with_field t (4 + length body) (0 ∷ [])) front
    ∙ with_field_twice old 0 (4 + length body) (bytes_of 4 (length body) ++ body) (0 ∷ []) (omega arith) (omega (arith, fits))
  where
    front : with_field (with_field old 4 body) 0 (bytes_of 4 (length body)) ≡ with_field old 0 (bytes_of 4 (length body) ++ body)
    front =
        ap (λ t. bytes_of 4 (length body) ++ t)
        (ap (drop 4) (append_assoc (take 4 old) body (drop (4 + length body) old))
        ∙ drop_at (take 4 old) (body ++ drop (4 + length body) old) 4 (length-take-le 4 old (omega (arith, fits)))
        ∙ ap (λ (n : ℕ). body ++ drop n old) (omega arith))
