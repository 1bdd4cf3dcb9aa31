-- What the text function says is so: bytes from a gate on stand for the entries that it gives, or are bad where it says.
use Rattle.std.proofs.Common.{◌≡◌, ◌⊎◌, ⊎_elim, inl, inr, ℕ, zero, suc, ◌+◌, ◌<◌, ◌≤◌, List, [], ◌∷◌, ◌++◌, length, get_or, drop, Bool, true, false, if◌then◌else◌, ◌==◌, refl, sym, ap, subst, ◌∙◌, arith, append_assoc, length-append, length-take, length-drop}
use Rattle.std.proofs.lemmas.Bool.{false≢true, cases_lt}
use Rattle.std.proofs.lemmas.Bool.Decides.{nat_tests}
use Rattle.std.proofs.lemmas.List.{append-nil, drop_at, drop_all}
use Rattle.ann_bytes.specs.LittleEndian.{number_of, field}
use Rattle.ann_bytes.proofs.Numbered.{IsBytes, field_bytes, drop_bytes}
use Rattle.ann_types.specs.declared.entry.Entry.{Entry}
use Rattle.ann_types.specs.declared.entry.Entry.TheVariants.{Insert, Delete, Begin, End, Replace}
use Rattle.ann_entry.specs.EntryBytes.{entry_bytes, entries_bytes}
use Rattle.ann_entry.specs.Kinds.{kind_byte, kind_size, kind_of}
use Rattle.ann_entry.specs.Standing.{StandsAt}
use Rattle.ann_entry.proofs.Placed.{stands_whole}
use Rattle.ann_entry.proofs.Spelled.{entry_of, spelled, at_least_five}
use Rattle.ann_frame.specs.Frames.{AreEntries, AreFrames, IsFrame, frame_bytes}
use Rattle.ann_frame.specs.Found.{HasFrame}
use Rattle.ann_frame.specs.Text.{StandFor, NoEntry, size_of, IsBroken, IsBadAt}
use Rattle.ann_frame.specs.TextOf.{Text, stands, bad, Means, AgreesWith, entry_from, front_entry, has_entry, whole_entries, entries_in, is_whole, frames_text, text_of}
use Rattle.ann_frame.proofs.Agrees.{entry_there, first_holds, second_holds, text_stands, text_bad}
use Rattle.ann_frame.proofs.Steps.{none_short, frame_whole}

-- the entry that the function finds is the one that the bytes spell
by_kind : (entry : Entry) (first by number : ℕ) (vector : List ℕ) → first ≡ kind_byte (kind_of entry) → entry_from first by number vector ≡ entry_of (kind_of entry) by number vector
by_kind (Insert b t v) first by number vector is = ap (λ (f : ℕ). entry_from f by number vector) is
by_kind (Delete b t) first by number vector is = ap (λ (f : ℕ). entry_from f by number vector) is
by_kind (Begin b) first by number vector is = ap (λ (f : ℕ). entry_from f by number vector) is
by_kind (End b n) first by number vector is = ap (λ (f : ℕ). entry_from f by number vector) is
by_kind (Replace b t v) first by number vector is = ap (λ (f : ℕ). entry_from f by number vector) is

-- the entries are those that stand wholly at the front
record AreRead (d : ℕ) (bytes : List ℕ) (entries : List Entry) : Type 0 where
  rest : List ℕ
  each : AreEntries d entries
  begins : bytes ≡ entries_bytes entries ++ rest
  ends : NoEntry d rest

module _ (d : ℕ) where
  entry_stands : (bytes : List ℕ) → IsBytes bytes → has_entry d bytes ≡ true → StandsAt d bytes 0 (front_entry d bytes)
  entry_stands bytes small holds =
      let kind = kind_of (front_entry d bytes) in
      let first = first_holds (get_or bytes 0 0) (kind_byte kind) (kind_size kind d) (length bytes) holds in
      let fits = second_holds (get_or bytes 0 0) (kind_byte kind) (kind_size kind d) (length bytes) holds in
      let same : front_entry d bytes ≡ spelled kind d bytes = by_kind (front_entry d bytes) (get_or bytes 0 0) (number_of (field bytes 1 4)) (number_of (field bytes 5 8)) (field bytes 13 d) first in
      subst (StandsAt d bytes 0) (sym same) (stands_whole d bytes 0 small kind (sym first) (omega (arith, fits)))

  none_here : (bytes : List ℕ) → has_entry d bytes ≡ false → NoEntry d bytes
  none_here bytes none entry is =
      false≢true (sym none ∙ subst (λ (b : List ℕ). has_entry d b ≡ true) (sym is.begins) (entry_there d entry is.rest is.fits))

  whole_read : (n : ℕ) (bytes : List ℕ) → IsBytes bytes → length bytes ≤ n → AreRead d bytes (whole_entries n d bytes)
  whole_read zero bytes small enough = record { rest = bytes; each = tt; begins = refl; ends = none_short d bytes (omega (arith, enough)) }
  whole_read (suc n) bytes small enough = go (λ left left_small few. whole_read n left left_small few) (has_entry d bytes) refl
    where
      go : ((left : List ℕ) → IsBytes left → length left ≤ n → AreRead d left (whole_entries n d left)) → (b : Bool) → has_entry d bytes ≡ b → AreRead d bytes (if b then front_entry d bytes ∷ whole_entries n d (drop (length (entry_bytes (front_entry d bytes))) bytes) else [])
      go read_on false none = record { rest = bytes; each = tt; begins = refl; ends = none_here bytes none }
      go read_on true holds =
          let is = entry_stands bytes small holds in
          let size = length (entry_bytes (front_entry d bytes)) in
          let left : List ℕ = drop size bytes in
          let some = at_least_five (front_entry d bytes) in
          let more = read_on left (drop_bytes size bytes small) (omega (arith, enough, some, length-drop size bytes)) in
          let found : List Entry = whole_entries n d left in
          let same : left ≡ is.rest = ap (drop size) is.begins ∙ drop_at (entry_bytes (front_entry d bytes)) is.rest size refl in
          record {
            rest = more.rest;
            each = (is.fits, more.each);
            begins =
                is.begins
                ∙ ap (λ (t : List ℕ). entry_bytes (front_entry d bytes) ++ t) (sym same ∙ more.begins)
                ∙ sym (append_assoc (entry_bytes (front_entry d bytes)) (entries_bytes found) more.rest);
            ends = more.ends;
          }

  -- ---- a frame

  module _ (tail : List ℕ) (small : IsBytes tail) where
    abbrev size : ℕ
    size = size_of tail

    abbrev part : List ℕ
    part = field tail 4 size

    part_few : length part ≤ size
    part_few = omega (arith, length-take size (drop 4 tail))

    read : AreRead d part (entries_in d tail)
    read = whole_read size part (field_bytes tail 4 size small) part_few

    parts : length part ≡ length (entries_bytes (entries_in d tail)) + length read.rest
    parts = ap length read.begins ∙ length-append (entries_bytes (entries_in d tail)) read.rest

    nothing_left : (l : List ℕ) → length l ≡ 0 → l ≡ []
    nothing_left [] is = refl
    nothing_left (x ∷ l) is = absurd (omega (arith, is))

    whole_frame : is_whole d tail ≡ true → HasFrame d tail (4 + size) [] (entries_in d tail)
    whole_frame holds =
        let fit : 4 + size < length tail = grind (arith, nat_tests, holds) in
        let some : 0 < size = grind (arith, nat_tests, holds) in
        let filled : length (entries_bytes (entries_in d tail)) ≡ size = grind (arith, nat_tests, holds) in
        let long = parts in
        let few = part_few in
        let none : read.rest ≡ [] = nothing_left read.rest (omega (arith, filled, long, few)) in
        frame_whole d tail size refl part refl (length part) [] (entries_in d tail)
        (record {
          entries = entries_in d tail;
          each = read.each;
          added = refl;
          begins = read.begins ∙ ap (λ (t : List ℕ). entries_bytes (entries_in d tail) ++ t) (none ∙ sym (drop_all (length part) part (omega arith)));
          within = omega arith;
        })
        small fit some (omega arith)

    are_whole : 4 + size < length tail → 0 < size → length (entries_bytes (entries_in d tail)) ≡ size → is_whole d tail ≡ true
    are_whole fit some filled = grind (arith, nat_tests, fit, some, filled)

    why_broken : is_whole d tail ≡ false → (length tail ≤ 4 + size) ⊎ (size ≡ 0) ⊎ (0 < length read.rest)
    why_broken isnt =
        ⊎_elim
        (λ fit.
        ⊎_elim
        (λ some.
        ⊎_elim
        (λ left. inr (inr left))
        (λ none.
        let long = parts in
        let all : length part ≡ size = omega (arith, length-take size (drop 4 tail), length-drop 4 tail, fit) in
        let filled : length (entries_bytes (entries_in d tail)) ≡ size = omega (arith, all, long, none) in
        absurd (false≢true (sym isnt ∙ are_whole fit some filled)))
        (cases_lt 0 (length read.rest)))
        (λ none. inr (inl (omega (arith, none))))
        (cases_lt 0 size))
        (λ short. inl short)
        (cases_lt (4 + size) (length tail))

    broken_frame : is_whole d tail ≡ false → IsBroken d tail (length (entries_in d tail))
    broken_frame isnt = record {
      entries = entries_in d tail;
      rest = read.rest;
      each = read.each;
      begins = read.begins;
      ends = read.ends;
      counted = refl;
      why = why_broken isnt;
    }

  -- ---- frames

  -- what a text says that counts from entries and a place before these bytes
  abbrev Counted : List Entry → ℕ → List ℕ → Text → Type 0
  Counted sofar at bytes (stands entries gate) = (more : List Entry) × (place : ℕ) × (entries ≡ sofar ++ more) × (gate ≡ at + place) × StandFor d bytes more place
  Counted sofar at bytes (bad n) = (m : ℕ) × (n ≡ length sofar + m) × IsBadAt d bytes m

  -- a frame in front
  module _ (tail : List ℕ) (frame : List Entry) (place : ℕ) (has : HasFrame d tail place [] frame) where
    front_cut : tail ≡ frame_bytes frame ++ drop place tail
    front_cut = subst (λ e. tail ≡ frame_bytes e ++ drop place tail) (sym has.added) has.begins

    frames_first : (front : List ℕ) (entries : List Entry) → AreFrames d front entries → AreFrames d (1 ∷ frame_bytes frame ++ front) (frame ++ entries)
    frames_first front entries are = record {
      frames = frame ∷ are.frames;
      each = (subst (IsFrame d) (sym has.added) has.frame, are.each);
      spelled = ap (λ t. 1 ∷ frame_bytes frame ++ t) are.spelled;
      joined = ap (λ t. frame ++ t) are.joined;
    }

    cut_first : (front rest : List ℕ) → drop place tail ≡ front ++ rest → 1 ∷ tail ≡ (1 ∷ frame_bytes frame ++ front) ++ rest
    cut_first front rest is = ap (λ t. 1 ∷ t) (front_cut ∙ ap (λ t. frame_bytes frame ++ t) is ∙ sym (append_assoc (frame_bytes frame) front rest))

    stand_first : (entries : List Entry) (gate : ℕ) → StandFor d (drop place tail) entries gate → StandFor d (1 ∷ tail) (frame ++ entries) (1 + place + gate)
    stand_first entries gate is = record {
      front = 1 ∷ frame_bytes frame ++ is.front;
      shown = is.shown;
      rest = is.rest;
      frames = frames_first is.front entries is.frames;
      cut = cut_first is.front (is.shown ∷ is.rest) is.cut;
      shut = is.shut;
      place =
          let size = has.size in
          let end = is.place in
          let same = ap (λ e. length (frame_bytes e)) has.added in
          omega (arith, size, same, end, length-append (frame_bytes frame) is.front);
    }

    bad_first : (n : ℕ) → IsBadAt d (drop place tail) n → IsBadAt d (1 ∷ tail) (length frame + n)
    bad_first n is = record {
      front = 1 ∷ frame_bytes frame ++ is.front;
      tail = is.tail;
      entries = frame ++ is.entries;
      within = is.within;
      frames = frames_first is.front is.entries is.frames;
      cut = cut_first is.front (1 ∷ is.tail) is.cut;
      broken = is.broken;
      place = let end = is.place in omega (arith, end, length-append frame is.entries);
    }

    counted_first : (sofar : List Entry) (at : ℕ) (text : Text) → Counted (sofar ++ frame) (at + (1 + place)) (drop place tail) text → Counted sofar at (1 ∷ tail) text
    counted_first sofar at (stands entries gate) (more, where_, same, end, is) =
        (frame ++ more, 1 + place + where_, same ∙ append_assoc sofar frame more, omega (arith, end), stand_first more where_ is)
    counted_first sofar at (bad n) (m, same, is) = (length frame + m, omega (arith, same, length-append sofar frame), bad_first m is)

  -- from a gate on
  means_from : (n : ℕ) (sofar : List Entry) (at : ℕ) (bytes : List ℕ) → IsBytes bytes → 0 < length bytes → length bytes ≤ n → Counted sofar at bytes (frames_text n d sofar at bytes)
  means_from zero sofar at bytes small some enough = absurd (omega (arith, some, enough))
  means_from (suc n) sofar at [] small some enough = absurd (omega (arith, some))
  means_from (suc n) sofar at (gate ∷ tail) small some enough =
      go (λ more next left left_small left_some few. means_from n more next left left_small left_some few) (gate == 1) refl (is_whole d tail) refl
    where
      tail_small : IsBytes tail
      tail_small i = small (suc i)

      go : ((more : List Entry) (next : ℕ) (left : List ℕ) → IsBytes left → 0 < length left → length left ≤ n → Counted more next left (frames_text n d more next left)) → (b : Bool) → (gate == 1) ≡ b → (w : Bool) → is_whole d tail ≡ w →
          Counted sofar at (gate ∷ tail)
          (if b then (if w then frames_text n d (sofar ++ entries_in d tail) (at + (5 + size_of tail)) (drop (4 + size_of tail) tail) else bad (length sofar + length (entries_in d tail))) else stands sofar at)
      go on false shut w is =
          ([], 0, sym (append-nil sofar), omega arith, record { front = []; shown = gate; rest = tail; frames = record { frames = []; each = tt; spelled = refl; joined = refl }; cut = refl; shut = λ one. false≢true (sym shut ∙ is_one one); place = refl })
        where
          is_one : gate ≡ 1 → (gate == 1) ≡ true
          is_one one = grind (arith, nat_tests, one)
      go on true opened false is = (
        length (entries_in d tail),
        refl,
        record {
          front = [];
          tail = tail;
          entries = [];
          within = length (entries_in d tail);
          frames = record { frames = []; each = tt; spelled = refl; joined = refl };
          cut = ap (λ (g : ℕ). g ∷ tail) (open_is opened);
          broken = broken_frame tail tail_small is;
          place = omega arith;
        },
      )
        where
          open_is : (gate == 1) ≡ true → gate ≡ 1
          open_is holds = grind (arith, nat_tests, holds)
      go on true opened true is =
          let has = whole_frame tail tail_small is in
          let within = has.within in
          subst (λ (g : ℕ). Counted sofar at (g ∷ tail) (frames_text n d (sofar ++ entries_in d tail) (at + (5 + size_of tail)) (drop (4 + size_of tail) tail))) (sym (open_is opened))
          (counted_first tail (entries_in d tail) (4 + size_of tail) has sofar at (frames_text n d (sofar ++ entries_in d tail) (at + (5 + size_of tail)) (drop (4 + size_of tail) tail))
          (subst (λ (k : ℕ). Counted (sofar ++ entries_in d tail) k (drop (4 + size_of tail) tail) (frames_text n d (sofar ++ entries_in d tail) (at + (5 + size_of tail)) (drop (4 + size_of tail) tail))) (omega arith)
          (on (sofar ++ entries_in d tail) (at + (5 + size_of tail)) (drop (4 + size_of tail) tail) (drop_bytes (4 + size_of tail) tail tail_small) (omega (arith, within, length-drop (4 + size_of tail) tail)) (omega (arith, enough, length-drop (4 + size_of tail) tail)))))
        where
          open_is : (gate == 1) ≡ true → gate ≡ 1
          open_is holds = grind (arith, nat_tests, holds)

  from_nothing : (bytes : List ℕ) (text : Text) → Counted [] 0 bytes text → Means d bytes text
  from_nothing bytes (stands entries gate) (more, place, same, end, is) = subst (λ e. StandFor d bytes e gate) (sym same) (subst (λ (k : ℕ). StandFor d bytes more k) (omega (arith, end)) is)
  from_nothing bytes (bad n) (m, same, is) = subst (λ (k : ℕ). IsBadAt d bytes k) (omega (arith, same)) is

  -- the text of bytes is so, and nothing else
  pub text_agrees : (bytes : List ℕ) → IsBytes bytes → 0 < length bytes → AgreesWith d bytes (text_of d bytes)
  text_agrees bytes small some = record {
    means = from_nothing bytes (text_of d bytes) (means_from (length bytes) [] 0 bytes small some (omega arith));
    stood = text_stands d bytes;
    refused = λ n is. text_bad d bytes n small is;
  }
