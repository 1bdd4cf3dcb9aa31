-- What a log keeps while a frame is appended.
use Rattle.std.proofs.Common.{◌≡◌, ℕ, ◌+◌, ◌-◌, ◌<◌, ◌^◌, List, [], ◌∷◌, ◌++◌, length, take, Bool, true, false, refl, sym, ap, subst, ◌∙◌, arith, length-append}
use Rattle.ann_types.specs.declared.entry.Entry.{Entry}
use Rattle.ann_types.specs.declared.params.Params.{Params}
use Rattle.ann_pq.specs.Codebook.{CodebookView}
use Rattle.ann_preamble.specs.declared.base.Base.{Base}
use Rattle.ann_disk.specs.Image.{IsImage}
use Rattle.ann_disk.specs.declared.file.LogFile.{Ghosts}
use Rattle.ann_entry.specs.EntryBytes.{entries_bytes}
use Rattle.ann_frame.specs.Frames.{AreEntries, IsFrame, frame_bytes}
use Rattle.ann_preamble.specs.declared.choice.Side.{Side}
use Rattle.ann_log.specs.Appended.{FitFrame, MayHold, HasStored, with_frame}
use Rattle.ann_log.specs.LogView.{LogView, IsSound, IsAtRest, IsBeforeOrAfter, extended, counted, files_in}
use Rattle.ann_log.specs.Pairs.{EachPair, LeavePairs}
use Rattle.ann_log.specs.Text.{Held, StandsFor, said_in, said_of}
use Rattle.ann_log.specs.Told.{Leaves}
use Rattle.ann_log.proofs.AtRest.{each_stands, ends}
use Rattle.ann_log.proofs.Extending.{during_pairs, list_kept, closed_sound, rested, list_longer, sound_again}

-- what the log holds before the call, and what was put into its room
pub record IsReady {F : Type 0} (D : Ghosts F) (side : Side) (held : Held) (generation : ℕ) (log other : F) (gate count : ℕ) (closed : Bool) (entries : List Entry) (size : ℕ) (bytes : List ℕ) : Type 0 where
  pub list : held.entries ≡ counted (said_of held generation) count (D.seen log)
  pub sound : IsSound D.tells side (said_of held generation) (D.seen log) (D.seen other) (D.unsynced log) (D.unsynced other) gate count closed
  pub open_now : closed ≡ false
  pub fits : FitFrame held.params.d entries
  pub each : AreEntries held.params.d entries
  pub short : length (entries_bytes entries) < 2 ^ 32
  pub size_is : size ≡ length (frame_bytes entries) + 1
  pub bytes_is : bytes ≡ frame_bytes entries ++ 0 ∷ []

-- how a log with these fields is seen
abbrev pub view_then : {F : Type 0} → Ghosts F → Side → Params → CodebookView → Base → ℕ → F → F → ℕ → Bool → LogView F
view_then D side params book base generation log other count closed = record {
  log = log;
  other = other;
  side = side;
  params = params;
  book = book;
  base = base;
  generation = generation;
  list = counted (said_in params book base generation) count (D.seen log);
  count = count;
  is_closed = closed;
}

-- what a log holds with these fields
abbrev pub held_then : Params → CodebookView → Base → ℕ → ℕ → List ℕ → Held
held_then params book base generation count bytes = record { params = params; book = book; base = base; entries = counted (said_in params book base generation) count bytes }

pub ready_in : {F : Type 0} (D : Ghosts F) (side : Side) (params : Params) (book : CodebookView) (base : Base) (generation : ℕ) (log other : F) (gate count : ℕ) (closed : Bool) (view : LogView F)
    → view_then D side params book base generation log other count closed ≡ view
    → IsSound D.tells side (said_in params book base generation) (D.seen log) (D.seen other) (D.unsynced log) (D.unsynced other) gate count closed
    → view.is_closed ≡ false
    → (entries : List Entry) → FitFrame view.params.d entries
    → (size : ℕ) (bytes : List ℕ) → AreEntries params.d entries → length (entries_bytes entries) < 2 ^ 32 → size ≡ length (frame_bytes entries) + 1 → bytes ≡ frame_bytes entries ++ 0 ∷ []
    → IsReady D side (held_then params book base generation count (D.seen log)) generation log other gate count closed entries size bytes
ready_in D side params book base generation log other gate count closed view is sound open_now entries fits size bytes each short size_is bytes_is = record {
  list = refl;
  sound = sound;
  open_now = ap (λ (v : LogView _). v.is_closed) is ∙ open_now;
  fits = subst (λ (v : LogView _). FitFrame v.params.d entries) (sym is) fits;
  each = each;
  short = short;
  size_is = size_is;
  bytes_is = bytes_is;
}

module _ {F : Type 0} (D : Ghosts F) (side : Side) (held : Held) (generation : ℕ) (log other : F) (gate count : ℕ) (closed : Bool) (entries : List Entry) (size : ℕ) (bytes : List ℕ)
    (ready : IsReady D side held generation log other gate count closed entries size bytes) (new : F) where
  abbrev stored : List ℕ
  stored = frame_bytes entries ++ 0 ∷ []

  sound : IsSound D.tells side (said_of held generation) (D.seen log) (D.seen other) (D.unsynced log) (D.unsynced other) gate count false
  sound = subst (IsSound D.tells side (said_of held generation) (D.seen log) (D.seen other) (D.unsynced log) (D.unsynced other) gate count) ready.open_now ready.sound

  frame : IsFrame held.params.d entries
  frame = record { each = ready.each; some = omega (arith, ready.fits.some); short = ready.short }

  long : size ≡ length stored
  long = omega (arith, ready.size_is, length-append (frame_bytes entries) (0 ∷ []))

  -- the gate is the last byte
  last : D.tells → gate ≡ length (D.seen log) - 1
  last told =
      let rest = sound.rest told refl in
      let end = ends side (said_of held generation) (D.seen log) (D.seen other) (D.unsynced log) (D.unsynced other) gate (counted (said_of held generation) count (D.seen log)) rest in
      omega (arith, end)

  module _ (is : HasStored D gate bytes log new) where
    stored_is : D.tells → D.seen new ≡ take gate (D.seen log) ++ 1 ∷ stored
    stored_is told = subst (λ (l : List ℕ). D.seen new ≡ take gate (D.seen log) ++ 1 ∷ l) ready.bytes_is (is.stored told)

    place : gate + size ≡ gate + length stored
    place = ap (λ (n : ℕ). gate + n) long

    pub stored_sound : IsSound D.tells side (said_of held generation) (D.seen new) (D.seen other) (D.unsynced new) (D.unsynced other) (gate + size) (count + length entries) closed
    stored_sound =
        subst (IsSound D.tells side (said_of held generation) (D.seen new) (D.seen other) (D.unsynced new) (D.unsynced other) (gate + size) (count + length entries)) (sym ready.open_now)
        (sound_again D.tells side (said_of held generation) (D.seen log) (D.seen other) (D.unsynced log) (D.unsynced other) gate count sound entries frame
        (D.seen new) (D.unsynced new) (gate + size) stored_is is.rest place
        (subst (λ (l : List ℕ). gate + 1 + length l < 2 ^ 64) ready.bytes_is is.end))

    pub stored_list : D.tells → counted (said_of held generation) (count + length entries) (D.seen new) ≡ held.entries ++ entries
    stored_list told =
        list_longer D.tells side (said_of held generation) (D.seen log) (D.seen other) (D.unsynced log) (D.unsynced other) gate count sound entries frame (D.seen new) (D.unsynced new) (gate + size) stored_is is.rest place told
        ∙ ap (λ l. l ++ entries) (sym ready.list)

    pub stored_after : D.tells → EachPair D.unsynced (StandsFor (record held { entries = counted (said_of held generation) (count + length entries) (D.seen new) })) (files_in side new other)
    stored_after told =
        subst (λ l. EachPair D.unsynced (StandsFor (record held { entries = l })) (files_in side new other)) (sym (stored_list told))
        (each_stands D.seen D.unsynced side new other (extended held entries) generation (gate + size)
        (subst (λ l. IsAtRest side (said_of held generation) (D.seen new) (D.seen other) (D.unsynced new) (D.unsynced other) (gate + size) (l ++ entries)) (sym ready.list)
        (rested D.tells side (said_of held generation) (D.seen log) (D.seen other) (D.unsynced log) (D.unsynced other) gate count sound entries frame (D.seen new) (D.unsynced new) (gate + size) stored_is is.rest place told)))

    pub stored_bytes : D.tells → D.seen new ≡ with_frame (D.seen log) entries
    stored_bytes told = stored_is told ∙ ap (λ (n : ℕ). take n (D.seen log) ++ 1 ∷ stored) (last told)

  module _ (here : D.tells → IsImage (D.unsynced new) (D.seen new)) (left : Leaves D log new (MayHold gate (D.seen log) bytes)) where
    may : D.tells → MayHold gate (D.seen log) stored (D.seen new)
    may told = subst (λ (l : List ℕ). MayHold gate (D.seen log) l (D.seen new)) ready.bytes_is ((left told).now (D.seen new) (here told))

    pub failed_sound : IsSound D.tells side (said_of held generation) (D.seen new) (D.seen other) (D.unsynced new) (D.unsynced other) gate count true
    failed_sound = closed_sound D.tells side (said_of held generation) (D.seen log) (D.seen other) (D.unsynced log) (D.unsynced other) gate count sound entries frame (D.seen new) (D.unsynced new) may

    pub failed_list : D.tells → counted (said_of held generation) count (D.seen new) ≡ held.entries
    failed_list told =
        list_kept D.tells side (said_of held generation) (D.seen log) (D.seen other) (D.unsynced log) (D.unsynced other) gate count sound entries frame told (D.seen new) (may told)
        ∙ sym ready.list

  pub while_stored : Leaves D log new (MayHold gate (D.seen log) bytes) → D.tells → LeavePairs D.past D.unsynced (files_in side log other) (files_in side new other) (IsBeforeOrAfter held entries)
  while_stored left told =
      during_pairs D.past D.unsynced D.seen D.tells side held generation log new other gate count ready.list sound entries frame told
      (subst (λ (l : List ℕ). Leaves D log new (MayHold gate (D.seen log) l)) ready.bytes_is left told)
