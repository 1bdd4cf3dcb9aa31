-- What the log's file stands for while a frame is stored, and after it.
use Rattle.std.proofs.Common.{◌≡◌, ◌≢◌, ◌⊎◌, inl, inr, ⊎_elim, ℕ, ◌+◌, ◌<◌, ◌^◌, List, [], ◌∷◌, ◌++◌, length, take, drop, true, false, Some, refl, sym, ap, subst, ◌∙◌, arith, append_assoc, length-append}
use Rattle.std.proofs.lemmas.Bool.{cases_eq}
use Rattle.std.proofs.lemmas.List.{take_at, drop_at, take_all}
use Rattle.ann_types.specs.declared.entry.Entry.{Entry}
use Rattle.ann_disk.specs.File.{LeavesOnly}
use Rattle.ann_disk.specs.Image.{Unsynced, clean}
use Rattle.ann_preamble.specs.Preamble.{Said, preamble_of}
use Rattle.ann_preamble.specs.declared.choice.Side.{Side}
use Rattle.ann_preamble.specs.declared.choice.Side.TheVariants.{First, Second}
use Rattle.ann_entry.proofs.Fronts.{length_entries}
use Rattle.ann_frame.specs.Frames.{AreFrames, IsFrame, frame_bytes}
use Rattle.ann_frame.specs.Text.{StandFor}
use Rattle.ann_frame.specs.TextOf.{Text}
use Rattle.ann_frame.proofs.Agrees.{text_stands}
use Rattle.ann_frame.proofs.Growing.{frames_grow, stand_at_gate}
use Rattle.ann_log.specs.LogView.{IsAtRest, IsSound, IsBeforeOrAfter, extended, listed, counted, files_in, choice_of}
use Rattle.ann_log.specs.Pairs.{LeavePairs}
use Rattle.ann_log.specs.Appended.{MayHold}
use Rattle.ann_log.specs.Text.{Held, said_of, StandsFor, first_gate}
use Rattle.ann_log.proofs.Pairs.{OnSide, resting, in_side}
use Rattle.ann_log.proofs.Standing.{side_text, frames_text, says_same}
use Rattle.ann_log.proofs.AtRest.{counted_here}

-- a file has this preamble and stands for these entries
pub record HoldsIn (s : Said) (bytes : List ℕ) (list : List Entry) : Type 0 where
  pub says : preamble_of bytes ≡ Some s
  pub place : ℕ
  pub stands : StandFor s.fields.d (drop (first_gate s) bytes) list place

pub counted_in : (s : Said) (bytes : List ℕ) (list : List Entry) (count : ℕ) → HoldsIn s bytes list → counted s count bytes ≡ take count list
counted_in s bytes list count is = ap (λ (t : Text). take count (listed t)) (text_stands s.fields.d (drop (first_gate s) bytes) list is.place is.stands)

-- the files of which this is the log stand for what it holds
pub stand_pair : (side : Side) (held : Held) (generation : ℕ) (log other : List ℕ) → HoldsIn (said_of held generation) log held.entries → choice_of side (said_of held generation) (preamble_of other) ≡ Some side → OnSide side (StandsFor held) log other
stand_pair First held generation log other is is_log = (generation, side_text First (said_of held generation) log other is.says is_log ∙ frames_text (said_of held generation) log held.entries is.place is.stands)
stand_pair Second held generation log other is is_log = (generation, side_text Second (said_of held generation) log other is.says is_log ∙ frames_text (said_of held generation) log held.entries is.place is.stands)

-- one of two
pub or_on : (side : Side) (P Q : List ℕ → List ℕ → Type 0) (a b : List ℕ) → OnSide side P a b ⊎ OnSide side Q a b → OnSide side (λ x y. P x y ⊎ Q x y) a b
or_on First P Q a b is = is
or_on Second P Q a b is = is

module _ (side : Side) (s : Said) (log other : List ℕ) (u v : Unsynced) (gate : ℕ) (list : List Entry) (rest : IsAtRest side s log other u v gate list) where
  same_head : take (first_gate s) log ≡ rest.head
  same_head = ap (take (first_gate s)) rest.spelled ∙ take_at rest.head (rest.front ++ rest.shown ∷ []) (first_gate s) rest.place

  -- whole frames, and behind them a gate that isn't open
  holds_frames : (front : List ℕ) (entries : List Entry) (shown : ℕ) (more : List ℕ) → AreFrames s.fields.d front entries → shown ≢ 1 → HoldsIn s (rest.head ++ (front ++ shown ∷ more)) entries
  holds_frames front entries shown more frames shut = record {
    says = says_same s rest.head front entries rest.place frames log (front ++ shown ∷ more) rest.says same_head (let whole = length-append front (shown ∷ more) in omega (arith, whole));
    place = length front;
    stands =
        subst (λ (l : List ℕ). StandFor s.fields.d l entries (length front)) (sym (drop_at rest.head (front ++ shown ∷ more) (first_gate s) rest.place))
        (stand_at_gate s.fields.d front entries frames shown more shut);
  }

  fronted : take gate log ≡ rest.head ++ rest.front
  fronted =
      let end = rest.end in
      let long = length-append rest.head rest.front in
      let size : length (rest.head ++ rest.front) ≡ gate = omega (arith, end, long) in
      ap (take gate) (rest.spelled ∙ sym (append_assoc rest.head rest.front (rest.shown ∷ [])))
      ∙ take_at (rest.head ++ rest.front) (rest.shown ∷ []) gate size

  module _ (entries : List Entry) (frame : IsFrame s.fields.d entries) where
    abbrev stored : List ℕ
    stored = frame_bytes entries ++ 0 ∷ []

    abbrev longer : List ℕ
    longer = rest.front ++ 1 ∷ frame_bytes entries

    frames_longer : AreFrames s.fields.d longer (list ++ entries)
    frames_longer = frames_grow s.fields.d rest.front list rest.frames entries frame

    spelled_at : (any : ℕ) → take gate log ++ any ∷ stored ≡ rest.head ++ (rest.front ++ any ∷ stored)
    spelled_at any = ap (λ (l : List ℕ). l ++ any ∷ stored) fronted ∙ append_assoc rest.head rest.front (any ∷ stored)

    spelled_longer : rest.head ++ (rest.front ++ 1 ∷ stored) ≡ rest.head ++ (longer ++ 0 ∷ [])
    spelled_longer = ap (λ (l : List ℕ). rest.head ++ l) (sym (append_assoc rest.front (1 ∷ frame_bytes entries) (0 ∷ [])))

    -- the file during the call
    pub before_or_after : (image : List ℕ) → MayHold gate log stored image → HoldsIn s image list ⊎ HoldsIn s image (list ++ entries)
    before_or_after image (inl (more, is)) =
        inl (subst (λ (l : List ℕ). HoldsIn s l list)
        (sym (is ∙ ap (λ (l : List ℕ). l ++ more) rest.spelled ∙ append_assoc rest.head (rest.front ++ rest.shown ∷ []) more ∙ ap (λ (l : List ℕ). rest.head ++ l) (append_assoc rest.front (rest.shown ∷ []) more)))
        (holds_frames rest.front list rest.shown more rest.frames rest.shut))
    before_or_after image (inr (any, is)) =
        ⊎_elim
        (λ opened. inr (subst (λ (l : List ℕ). HoldsIn s l (list ++ entries))
        (sym (is ∙ spelled_at any ∙ ap (λ (n : ℕ). rest.head ++ (rest.front ++ n ∷ stored)) opened ∙ spelled_longer))
        (holds_frames longer (list ++ entries) 0 [] frames_longer (λ is_one. omega (arith, is_one)))))
        (λ shut. inl (subst (λ (l : List ℕ). HoldsIn s l list) (sym (is ∙ spelled_at any)) (holds_frames rest.front list any stored rest.frames shut)))
        (cases_eq any 1)

    -- the files after it
    pub rest_again : (log' : List ℕ) (u' : Unsynced) (gate' : ℕ) → log' ≡ take gate log ++ 1 ∷ stored → u' ≡ clean log' → gate' ≡ gate + length stored → IsAtRest side s log' other u' v gate' (list ++ entries)
    rest_again log' u' gate' is synced place = record {
      head = rest.head;
      front = longer;
      shown = 0;
      spelled = is ∙ spelled_at 1 ∙ spelled_longer;
      place = rest.place;
      frames = frames_longer;
      shut = λ is_one. omega (arith, is_one);
      end =
          let end = rest.end in
          let whole = length-append (frame_bytes entries) (0 ∷ []) in
          let long = length-append rest.front (1 ∷ frame_bytes entries) in
          omega (arith, place, end, whole, long);
      says = ap preamble_of (is ∙ spelled_at 1 ∙ spelled_longer) ∙ (holds_frames longer (list ++ entries) 0 [] frames_longer (λ is_one. omega (arith, is_one))).says;
      is_log = rest.is_log;
      log_synced = synced;
      other_synced = rest.other_synced;
    }

-- a log that is open
module _ (tells : Type 0) (side : Side) (s : Said) (log other : List ℕ) (u v : Unsynced) (gate count : ℕ) (sound : IsSound tells side s log other u v gate count false) (entries : List Entry) (frame : IsFrame s.fields.d entries) where
  abbrev list : List Entry
  list = counted s count log

  abbrev stored_bytes : List ℕ
  stored_bytes = frame_bytes entries ++ 0 ∷ []

  at_rest : tells → IsAtRest side s log other u v gate list
  at_rest told = sound.rest told refl

  pub either : tells → (image : List ℕ) → MayHold gate log stored_bytes image → HoldsIn s image list ⊎ HoldsIn s image (list ++ entries)
  either told = before_or_after side s log other u v gate list (at_rest told) entries frame

  -- after a failure the first entries are still those
  pub list_kept : tells → (log' : List ℕ) → MayHold gate log stored_bytes log' → counted s count log' ≡ list
  list_kept told log' may =
      let long = sound.whole told in
      ⊎_elim
      (λ before. counted_in s log' list count before ∙ take_all count list (omega (arith, long)))
      (λ after. counted_in s log' (list ++ entries) count after ∙ take_at list entries count long)
      (either told log' may)

  pub closed_sound : (log' : List ℕ) (u' : Unsynced) → (tells → MayHold gate log stored_bytes log') → IsSound tells side s log' other u' v gate count true
  closed_sound log' u' may = record {
    said = sound.said;
    end = sound.end;
    few = sound.few;
    whole = λ told. ap length (list_kept told log' (may told)) ∙ sound.whole told;
    rest = λ told never. absurd (never_true never);
  }
    where
      never_true : true ≡ false → ⊥
      never_true e = cc

  module _ (log' : List ℕ) (u' : Unsynced) (gate' : ℕ) (stored_is : tells → log' ≡ take gate log ++ 1 ∷ stored_bytes) (synced : tells → u' ≡ clean log') (place : gate' ≡ gate + length stored_bytes) where
    pub rested : tells → IsAtRest side s log' other u' v gate' (list ++ entries)
    rested told = rest_again side s log other u v gate list (at_rest told) entries frame log' u' gate' (stored_is told) (synced told) place

    long : tells → length (list ++ entries) ≡ count + length entries
    long told = length-append list entries ∙ ap (λ (n : ℕ). n + length entries) (sound.whole told)

    pub list_longer : tells → counted s (count + length entries) log' ≡ list ++ entries
    list_longer told = counted_here side s log' other u' v gate' (list ++ entries) (rested told) (count + length entries) (long told)

    pub sound_again : gate + 1 + length stored_bytes < 2 ^ 64 → IsSound tells side s log' other u' v gate' (count + length entries) false
    sound_again end = record {
      said = sound.said;
      end = omega (arith, place, end);
      few =
          let few = sound.few in
          let five = length_entries entries in
          let whole = length-append (frame_bytes entries) (0 ∷ []) in
          omega (arith, place, few, five, whole);
      whole = λ told. ap length (list_longer told) ∙ long told;
      rest = λ told is_open. subst (IsAtRest side s log' other u' v gate') (sym (list_longer told)) (rested told);
    }

-- the files during the call
pub during_pairs : {F : Type 0} (past : F → List Unsynced) (unsynced : F → Unsynced) (seen : F → List ℕ) (tells : Type 0) (side : Side) (held : Held) (generation : ℕ) (log log' other : F) (gate count : ℕ) →
    held.entries ≡ counted (said_of held generation) count (seen log) →
    IsSound tells side (said_of held generation) (seen log) (seen other) (unsynced log) (unsynced other) gate count false →
    (entries : List Entry) → IsFrame held.params.d entries → tells →
    LeavesOnly past unsynced log log' (MayHold gate (seen log) (frame_bytes entries ++ 0 ∷ [])) →
    LeavePairs past unsynced (files_in side log other) (files_in side log' other) (IsBeforeOrAfter held entries)
during_pairs past unsynced seen tells side held generation log log' other gate count list_is sound entries frame told during =
    let s = said_of held generation in
    let rest = sound.rest told refl in
    in_side past unsynced side log log' other other (MayHold gate (seen log) (frame_bytes entries ++ 0 ∷ [])) (λ image. image ≡ seen other) (IsBeforeOrAfter held entries)
    (λ a b may same.
    let is_log = ap (λ (l : List ℕ). choice_of side s (preamble_of l)) same ∙ rest.is_log in
    or_on side (StandsFor held) (StandsFor (extended held entries)) a b
    (⊎_elim
    (λ before. inl (stand_pair side held generation a b (subst (HoldsIn s a) (sym list_is) before) is_log))
    (λ after. inr (stand_pair side (extended held entries) generation a b (subst (λ l. HoldsIn s a (l ++ entries)) (sym list_is) after) is_log))
    (either tells side s (seen log) (seen other) (unsynced log) (unsynced other) gate count sound entries frame told a may)))
    during
    (resting past unsynced other (seen other) rest.other_synced)
