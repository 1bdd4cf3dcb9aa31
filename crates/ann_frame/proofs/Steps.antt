-- The steps of reading.
use Rattle.std.proofs.Common.{◌≡◌, ◌≢◌, ◌⊎◌, ℕ, ◌+◌, ◌-◌, ◌<◌, ◌≤◌, ◌^◌, List, [], ◌∷◌, ◌++◌, length, get_or, take, drop, refl, sym, ap, subst, ◌∙◌, arith, inl, append_assoc, length-append, length-drop, take-append-drop}
use Rattle.std.proofs.lemmas.List.{append-nil, drop-drop, drop_all, drop_more, get_or-drop, take_at, take_all, length-take-le}
use Rattle.ann_bytes.specs.LittleEndian.{number_of, bytes_of, field}
use Rattle.ann_bytes.proofs.Numbered.{IsBytes, take_bytes}
use Rattle.ann_bytes.proofs.Numbers.{bytes_of-number_of, number_of_below}
use Rattle.ann_types.specs.declared.entry.Entry.{Entry}
use Rattle.ann_entry.specs.EntryBytes.{IsEntry, entry_bytes, entries_bytes}
use Rattle.ann_entry.specs.Standing.{StandsAt}
use Rattle.ann_entry.proofs.Entries.{read_more}
use Rattle.ann_entry.proofs.Spelled.{at_least_five}
use Rattle.ann_frame.specs.Frames.{AreFrames, frame_bytes}
use Rattle.ann_frame.specs.Text.{StandFor, NoEntry, size_of}
use Rattle.ann_frame.specs.Found.{HasEntries, HasFrame, IsRefusedFrame, AreRefused}
use Rattle.ann_frame.specs.declared.frames_refused.FramesRefused.{FramesRefused}
use Rattle.ann_frame.specs.declared.frames_refused.FramesRefused.TheVariants.{Bad, Memory}
use Rattle.ann_types.proofs.Sets.{all_append}
use Rattle.ann_frame.proofs.Growing.{frames_grow}

-- ---- entries

pub none_short : (d : ℕ) (bytes : List ℕ) → length bytes < 5 → NoEntry d bytes
none_short d bytes short entry stands =
    let same = ap length stands.begins in
    let whole = length-append (entry_bytes entry) stands.rest in
    let some = at_least_five entry in omega (arith, same, whole, some, short)

pub none_past : (d : ℕ) (bytes : List ℕ) (at : ℕ) → length bytes ≤ at → NoEntry d (drop at bytes)
none_past d bytes at past = none_short d (drop at bytes) (omega (arith, length-drop at bytes, past))

pub none_at : (d : ℕ) (bytes : List ℕ) (at : ℕ) → ((entry : Entry) → StandsAt d bytes at entry → ⊥) → NoEntry d (drop at bytes)
none_at d bytes at none entry stands = none entry (record { fits = stands.fits; rest = stands.rest; begins = stands.begins })

-- one more entry
pub read_next : (d : ℕ) (bytes : List ℕ) (at next : ℕ) (before now : List Entry) (entry : Entry) → HasEntries d bytes at before now → at < length bytes → StandsAt d bytes at entry → next ≡ at + length (entry_bytes entry) → HasEntries d bytes next before (now ++ entry ∷ [])
read_next d bytes at next before now entry read inside stands after = record {
  entries = read.entries ++ entry ∷ [];
  each = all_append (IsEntry d) read.entries (entry ∷ []) read.each (stands.fits, tt);
  added = ap (λ t. t ++ entry ∷ []) read.added ∙ append_assoc before read.entries (entry ∷ []);
  begins = read_more d bytes 0 at read.entries entry read.begins stands ∙ ap (λ (n : ℕ). entries_bytes (read.entries ++ entry ∷ []) ++ drop n bytes) (sym after);
  within =
      let same = ap length stands.begins in
      let whole = length-append (entry_bytes entry) stands.rest in
      omega (arith, same, whole, length-drop at bytes, inside, after);
}

-- ---- a frame

module _ (d : ℕ) (tail : List ℕ) (size : ℕ) (is : size ≡ size_of tail) (part : List ℕ) (part_is : part ≡ field tail 4 size) where
  module _ (end : ℕ) (before after : List Entry) (read : HasEntries d part end before after) where
    -- the frame is whole
    module _ (small : IsBytes tail) (fits : 4 + size < length tail) (some : 0 < size) (filled : length part ≤ end) where
      body : part ≡ entries_bytes read.entries
      body =
          read.begins
          ∙ ap (λ t. entries_bytes read.entries ++ t) (drop_all end part filled)
          ∙ append-nil (entries_bytes read.entries)

      body_size : length (entries_bytes read.entries) ≡ size
      body_size = sym (ap length body) ∙ ap length part_is ∙ length-take-le size (drop 4 tail) (omega (arith, length-drop 4 tail, fits))

      four : length (take 4 tail) ≡ 4
      four = length-take-le 4 tail (omega (arith, fits))

      size_below : size < 256 ^ 4
      size_below =
          subst (λ (n : ℕ). n < 256 ^ 4) (sym is)
          (subst (λ (k : ℕ). number_of (take 4 tail) < 256 ^ k) four (number_of_below (take 4 tail) (take_bytes 4 tail small)))

      length_front : tail ≡ bytes_of 4 size ++ drop 4 tail
      length_front =
          sym (take-append-drop 4 tail)
          ∙ ap (λ t. t ++ drop 4 tail) (sym (bytes_of-number_of (take 4 tail) (take_bytes 4 tail small)))
          ∙ ap (λ (k : ℕ). bytes_of k (number_of (take 4 tail)) ++ drop 4 tail) four
          ∙ ap (λ (n : ℕ). bytes_of 4 n ++ drop 4 tail) (sym is)

      body_front : drop 4 tail ≡ entries_bytes read.entries ++ drop (4 + size) tail
      body_front =
          sym (take-append-drop size (drop 4 tail))
          ∙ ap (λ t. t ++ drop size (drop 4 tail)) (sym part_is ∙ body)
          ∙ ap (λ t. entries_bytes read.entries ++ t) (drop-drop size 4 tail)

      pub frame_whole : HasFrame d tail (4 + size) before after
      frame_whole = record {
        entries = read.entries;
        frame = record { each = read.each; some = some_entries read.entries body_size; short = omega (arith, body_size, size_below) };
        added = read.added;
        begins =
            length_front
            ∙ ap (λ t. bytes_of 4 size ++ t) body_front
            ∙ ap (λ (n : ℕ). bytes_of 4 n ++ (entries_bytes read.entries ++ drop (4 + size) tail)) (sym body_size)
            ∙ sym (append_assoc (bytes_of 4 (length (entries_bytes read.entries))) (entries_bytes read.entries) (drop (4 + size) tail));
        size = omega (arith, body_size);
        within = fits;
      }
        where
          some_entries : (entries : List Entry) → length (entries_bytes entries) ≡ size → 0 < length entries
          some_entries [] none = absurd (omega (arith, none, some))
          some_entries (entry ∷ entries) whole = omega arith

    -- it isn't
    pub frame_broken : NoEntry d (drop end part) → (length tail ≤ 4 + size) ⊎ (size ≡ 0) ⊎ (0 < length (drop end part)) → IsRefusedFrame d tail (length before) (Bad (length after))
    frame_broken none why = (
      length read.entries,
      record {
        entries = read.entries;
        rest = drop end part;
        each = read.each;
        begins = ap (λ (n : ℕ). field tail 4 n) (sym is) ∙ sym part_is ∙ read.begins;
        ends = none;
        counted = refl;
        why = subst (λ (n : ℕ). (length tail ≤ 4 + n) ⊎ (n ≡ 0) ⊎ (0 < length (drop end part))) is why;
      },
      ap length read.added ∙ length-append before read.entries,
    )

-- its length isn't there
pub length_broken : (d : ℕ) (tail : List ℕ) (before : ℕ) → length tail < 4 → IsRefusedFrame d tail before (Bad before)
length_broken d tail before short = (
  0,
  record {
    entries = [];
    rest = [];
    each = tt;
    begins = ap (take (size_of tail)) (drop_all 4 tail (omega (arith, short))) ∙ take_all (size_of tail) [] (omega arith);
    ends = none_short d [] (omega arith);
    counted = refl;
    why = inl (omega (arith, short));
  },
  omega arith,
)

-- ---- frames

-- a place behind a gate, counted from it
module _ (bytes : List ℕ) (gate at : ℕ) (behind : gate ≤ at) where
  pub tail_here : drop (at + 1) bytes ≡ drop (at - gate + 1) (drop gate bytes)
  tail_here = ap (λ (n : ℕ). drop n bytes) (omega (arith, behind)) ∙ sym (drop-drop (at - gate + 1) gate bytes)

  pub byte_here : get_or (drop gate bytes) (at - gate) 0 ≡ get_or bytes at 0
  byte_here = get_or-drop gate bytes (at - gate) 0 ∙ ap (λ (n : ℕ). get_or bytes n 0) (omega (arith, behind))

  pub inside_here : at < length bytes → at - gate < length (drop gate bytes)
  inside_here inside = omega (arith, length-drop gate bytes, behind, inside)

module _ (d : ℕ) (text : List ℕ) (n : ℕ) (entries : List Entry) (frames : AreFrames d (take n text) entries) (inside : n < length text) where
  cut_at : (shown : ℕ) → get_or text n 0 ≡ shown → text ≡ take n text ++ shown ∷ drop (n + 1) text
  cut_at shown is =
      sym (take-append-drop n text)
      ∙ ap (λ t. take n text ++ t) (drop_more text n 0 inside)
      ∙ ap (λ (x : ℕ). take n text ++ x ∷ drop (n + 1) text) is

  front_size : length (take n text) ≡ n
  front_size = length-take-le n text (omega (arith, inside))

  -- the gate isn't open
  pub shut_here : get_or text n 0 ≢ 1 → StandFor d text entries n
  shut_here shut = record {
    front = take n text;
    shown = get_or text n 0;
    rest = drop (n + 1) text;
    frames = frames;
    cut = cut_at (get_or text n 0) refl;
    shut = shut;
    place = sym front_size;
  }

  -- it is open
  module _ (opened : get_or text n 0 ≡ 1) where
    pub refused_here : (why : FramesRefused) → IsRefusedFrame d (drop (n + 1) text) (length entries) why → AreRefused d text why
    refused_here (Bad entry) is = record {
      front = take n text;
      tail = drop (n + 1) text;
      entries = entries;
      within = is.0;
      frames = frames;
      cut = cut_at 1 opened;
      broken = is.1;
      place = is.2;
    }
    refused_here Memory is = tt

    module _ (place : ℕ) (after : List Entry) (read : HasFrame d (drop (n + 1) text) place entries after) where
      next_front : take (n + (1 + place)) text ≡ take n text ++ 1 ∷ frame_bytes read.entries
      next_front =
          ap (take (n + (1 + place)))
          (cut_at 1 opened
          ∙ ap (λ t. take n text ++ 1 ∷ t) read.begins
          ∙ sym (append_assoc (take n text) (1 ∷ frame_bytes read.entries) (drop place (drop (n + 1) text))))
          ∙ take_at (take n text ++ 1 ∷ frame_bytes read.entries) (drop place (drop (n + 1) text)) (n + (1 + place))
          (let size = read.size in let whole = length-append (take n text) (1 ∷ frame_bytes read.entries) in omega (arith, size, whole, front_size))

      pub frames_on : AreFrames d (take (n + (1 + place)) text) after
      frames_on =
          subst (λ t. AreFrames d t after) (sym next_front)
          (subst (λ e. AreFrames d (take n text ++ 1 ∷ frame_bytes read.entries) e) (sym read.added)
          (frames_grow d (take n text) entries frames read.entries read.frame))

      pub within_on : n + (1 + place) < length text
      within_on = let within = read.within in omega (arith, within, length-drop (n + 1) text)
