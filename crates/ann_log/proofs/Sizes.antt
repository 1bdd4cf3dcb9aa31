-- How many entries there can be.
use Rattle.std.proofs.Common.{◌≡◌, ◌⊎◌, inl, inr, ⊎_elim, ℕ, ◌+◌, ◌*◌, ◌/◌, ◌%◌, ◌≤◌, Bool, true, false, ◌==◌, ◌&&◌, ◌||◌, nat_lt, List, [], ◌∷◌, length, drop, refl, sym, subst, ap, arith, length-append, length-drop, length-take}
use Rattle.std.proofs.lemmas.Bool.Decides.{Decides-eqb}
use Rattle.std.proofs.lemmas.Bool.{ltb-true}
use Rattle.ann_types.specs.declared.entry.Entry.{Entry}
use Rattle.std.specs.List.{AllByRecursion}
use Rattle.ann_entry.specs.EntryBytes.{IsEntry, entries_bytes}
use Rattle.ann_entry.proofs.Fronts.{length_entries}
use Rattle.ann_frame.specs.Frames.{AreEntries, HaveComponents, IsFrame, AreFrames, frame_bytes, frames_bytes, entries_of}
use Rattle.ann_frame.specs.Text.{StandFor, IsBroken, IsBadAt, size_of}
use Rattle.ann_types.proofs.Sets.{all_append}
use Rattle.ann_preamble.specs.Base.{is_base, is_empty, is_merged}
use Rattle.ann_preamble.specs.declared.base.Base.{Base}
use Rattle.ann_preamble.proofs.Agreed.{both}

all_few : (frames : List (List Entry)) → 5 * length (entries_of frames) ≤ length (frames_bytes frames)
all_few [] = omega arith
all_few (frame ∷ frames) =
    let five = length_entries frame in
    let rest = all_few frames in
    let entries = length-append frame (entries_of frames) in
    let bytes = length-append (1 ∷ frame_bytes frame) (frames_bytes frames) in
    omega (arith, five, rest, entries, bytes)

module _ (d : ℕ) where
  components_of : (entries : List Entry) → AreEntries d entries → HaveComponents d entries
  components_of [] each = tt
  components_of (entry ∷ entries) each = (each.0.components, components_of entries each.1)

  all_entries : (frames : List (List Entry)) → AllByRecursion (IsFrame d) frames → AreEntries d (entries_of frames)
  all_entries [] each = tt
  all_entries (frame ∷ frames) each = all_append (IsEntry d) frame (entries_of frames) each.0.each (all_entries frames each.1)

  -- the vectors of frames have d components
  pub frames_components : (front : List ℕ) (entries : List Entry) → AreFrames d front entries → HaveComponents d entries
  frames_components front entries is = components_of entries (subst (AreEntries d) (sym is.joined) (all_entries is.frames is.each))

  pub frames_few : (front : List ℕ) (entries : List Entry) → AreFrames d front entries → 5 * length entries ≤ length front
  frames_few front entries is =
      let few = all_few is.frames in
      let spelled = ap length is.spelled in
      let joined = ap length is.joined in
      omega (arith, few, spelled, joined)

  pub stand_few : (bytes : List ℕ) (entries : List Entry) (gate : ℕ) → StandFor d bytes entries gate → 5 * length entries ≤ gate
  stand_few bytes entries gate is = let few = frames_few is.front entries is.frames in let place = is.place in omega (arith, few, place)

  broken_few : (tail : List ℕ) (n : ℕ) → IsBroken d tail n → 5 * n ≤ length tail
  broken_few tail n is =
      let five = length_entries is.entries in
      let same = ap length is.begins in
      let whole = length-append (entries_bytes is.entries) is.rest in
      let most = length-take (size_of tail) (drop 4 tail) in
      let left = length-drop 4 tail in
      let counted = is.counted in
      omega (arith, five, same, whole, most, left, counted)

  pub bad_few : (bytes : List ℕ) (n : ℕ) → IsBadAt d bytes n → 5 * n ≤ length bytes
  bad_few bytes n is =
      let before = frames_few is.front is.entries is.frames in
      let within = broken_few is.tail is.within is.broken in
      let cut = ap length is.cut in
      let whole = length-append is.front (1 ∷ is.tail) in
      let place = is.place in
      omega (arith, before, within, cut, whole, place)

either : (x y : Bool) → (x || y) ≡ true → (x ≡ true) ⊎ (y ≡ true)
either true y is = inl refl
either false y is = inr is

-- the position of a base
pub base_small : (base : Base) → is_base base ≡ true → base.position ≤ 4611686018427387905
base_small base is =
    ⊎_elim
    (λ empty. let zero = (Decides-eqb base.position 0).0 (both (base.position == 0) (base.segment == 0) (both ((base.position == 0) && (base.segment == 0)) (base.next == 0) empty).0).0 in omega (arith, zero))
    (λ merged.
    let first = both ((base.segment % 2 == 1) && nat_lt base.segment 9223372036854775808) (base.position == (base.segment + 3) / 2) merged in
    let small = ltb-true base.segment 9223372036854775808 (both (base.segment % 2 == 1) (nat_lt base.segment 9223372036854775808) first.0).1 in
    let place = (Decides-eqb base.position ((base.segment + 3) / 2)).0 first.1 in
    omega (arith, small, place))
    (either (is_empty base) (is_merged base) (both (nat_lt base.next 4294967296) (is_empty base || is_merged base) is).1)
