-- What two files stand for while the one is written anew and the other is cut to nothing.
use Rattle.std.proofs.Common.{◌≡◌, ◌⊎◌, inl, inr, ℕ, ◌+◌, ◌<◌, Bool, false, nat_lt, if◌then◌else◌, List, [], ◌∷◌, ◌++◌, Some, None, length, take, drop, refl, sym, ap, subst, ◌∙◌, arith, length-append}
use Rattle.std.proofs.lemmas.Bool.{lt-ltb}
use Rattle.std.proofs.lemmas.Bool.Decides.{nat_tests}
use Rattle.std.proofs.lemmas.List.{drop_at, take_all}
use Rattle.ann_types.specs.declared.entry.Entry.{Entry}
use Rattle.ann_disk.specs.File.{Cut, BeginsAnImage}
use Rattle.ann_disk.specs.Image.{Unsynced, IsImage, clean}
use Rattle.ann_disk.proofs.Images.{clean_only}
use Rattle.ann_preamble.specs.Preamble.{Said, preamble_of}
use Rattle.ann_preamble.specs.declared.choice.Side.{Side}
use Rattle.ann_preamble.specs.declared.choice.Side.TheVariants.{First, Second}
use Rattle.ann_preamble.proofs.Agreed.{fronts}
use Rattle.ann_frame.specs.TextOf as framed
use Rattle.ann_frame.proofs.Agrees.{text_stands}
use Rattle.ann_frame.proofs.Growing.{stand_at_gate}
use Rattle.ann_log.specs.Anew.{IsText, HoldsText, IsFrontOrText}
use Rattle.ann_log.specs.LogView.{IsAtRest, IsSaid, IsSound, choice_of, counted, listed, files_in}
use Rattle.ann_log.specs.Pairs.{EachPair}
use Rattle.ann_log.specs.Renewed.{opposite, IsOldOrNew}
use Rattle.ann_log.specs.Text.{Held, StandsFor, said_of, holds, first_gate, file_text}
use Rattle.ann_log.proofs.Pairs.{OnSide}
use Rattle.ann_log.proofs.Standing.{side_text, shut_text}
use Rattle.ann_log.proofs.Writing.{short_unmade}

-- ---- which file is the log

pub choice_none : (side : Side) (s : Said) → choice_of side s None ≡ Some side
choice_none First s = refl
choice_none Second s = refl

not_less : (m n : ℕ) → n < m → nat_lt m n ≡ false
not_less m n less = grind (arith, nat_tests, less)

choice_greater : (side : Side) (s t : Said) → t.fields.generation < s.fields.generation → choice_of side s (Some t) ≡ Some side
choice_greater First s t less = ap (λ (b : Bool). if b then Some Second else Some First) (not_less s.fields.generation t.fields.generation less)
choice_greater Second s t less = ap (λ (b : Bool). if b then Some Second else Some First) (lt-ltb t.fields.generation s.fields.generation less)

-- no preamble, or the same, changes nothing
choice_front : (side : Side) (s : Said) (old new : List ℕ) → choice_of side s (preamble_of old) ≡ Some side → (preamble_of new ≡ None) ⊎ (preamble_of new ≡ preamble_of old) → choice_of side s (preamble_of new) ≡ Some side
choice_front side s old new is (inl none) = ap (choice_of side s) none ∙ choice_none side s
choice_front side s old new is (inr same) = ap (choice_of side s) same ∙ is

-- a front of bytes has no preamble or the same
front_says : (old new : List ℕ) → take (length new) old ≡ new → (preamble_of new ≡ None) ⊎ (preamble_of new ≡ preamble_of old)
front_says old new is = subst (λ (l : List ℕ). (preamble_of l ≡ None) ⊎ (preamble_of l ≡ preamble_of old)) is (fronts old (length new))

-- ---- sides

flip_side : (side : Side) (P : List ℕ → List ℕ → Type 0) (a b : List ℕ) → OnSide (opposite side) P b a → OnSide side P a b
flip_side First P a b is = is
flip_side Second P a b is = is

either_old : (side : Side) (P Q : List ℕ → List ℕ → Type 0) (a b : List ℕ) → OnSide side P a b → OnSide side (λ x y. P x y ⊎ Q x y) a b
either_old First P Q a b is = inl is
either_old Second P Q a b is = inl is

either_new : (side : Side) (P Q : List ℕ → List ℕ → Type 0) (a b : List ℕ) → OnSide side Q a b → OnSide side (λ x y. P x y ⊎ Q x y) a b
either_new First P Q a b is = inr is
either_new Second P Q a b is = inr is

pub files_turned : {F : Type 0} (side : Side) (log other : F) → files_in (opposite side) other log ≡ files_in side log other
files_turned First log other = refl
files_turned Second log other = refl

pub each_on_side : {F : Type 0} (unsynced : F → Unsynced) (P : List ℕ → List ℕ → Type 0) (side : Side) (log other : F) → ((a b : List ℕ) → IsImage (unsynced log) a → IsImage (unsynced other) b → OnSide side P a b) → EachPair unsynced P (files_in side log other)
each_on_side unsynced P First log other each = λ a is_a b is_b. each a b is_a is_b
each_on_side unsynced P Second log other each = λ b is_b a is_a. each a b is_a is_b

-- ---- a text

module _ (s : Said) (entries : List Entry) (bytes : List ℕ) (is : IsText s entries bytes) where
  pub text_here : file_text s bytes ≡ holds s entries
  text_here = ap (file_text s) is.spelled ∙ shut_text s is.head is.front entries is.place is.frames is.shown [] is.shut

  behind_here : drop (first_gate s) bytes ≡ is.front ++ is.shown ∷ []
  behind_here = ap (drop (first_gate s)) is.spelled ∙ drop_at is.head (is.front ++ is.shown ∷ []) (first_gate s) is.place

  pub all_counted : counted s (length entries) bytes ≡ entries
  all_counted =
      ap (λ (t : framed.Text). take (length entries) (listed t))
      (ap (framed.text_of s.fields.d) behind_here
      ∙ text_stands s.fields.d (is.front ++ is.shown ∷ []) entries (length is.front) (stand_at_gate s.fields.d is.front entries is.frames is.shown [] is.shut))
      ∙ take_all (length entries) entries (omega arith)

  pub gate_here : (gate : ℕ) → gate + 1 ≡ length bytes → gate ≡ length is.head + length is.front
  gate_here gate last =
      let long = ap length is.spelled in
      omega (arith, last, long, length-append is.head (is.front ++ is.shown ∷ []), length-append is.front (is.shown ∷ []))

-- two files of which the one is such a text, and is the log
pub stands_on : (side : Side) (held : Held) (generation : ℕ) (log other : List ℕ) → IsText (said_of held generation) held.entries log → choice_of side (said_of held generation) (preamble_of other) ≡ Some side → OnSide side (StandsFor held) log other
stands_on First held generation log other is is_log =
    (generation, side_text First (said_of held generation) log other is.says is_log ∙ text_here (said_of held generation) held.entries log is)
stands_on Second held generation log other is is_log =
    (generation, side_text Second (said_of held generation) log other is.says is_log ∙ text_here (said_of held generation) held.entries log is)

-- ---- a log at rest

module _ (side : Side) (s : Said) (log other : List ℕ) (u v : Unsynced) (gate : ℕ) (list : List Entry) (rest : IsAtRest side s log other u v gate list) where
  rest_text : IsText s list log
  rest_text = record { head = rest.head; front = rest.front; shown = rest.shown; spelled = rest.spelled; place = rest.place; frames = rest.frames; shut = rest.shut; says = rest.says }

  -- the other file is cut to nothing
  pub cut_rest : (new : List ℕ) (w : Unsynced) → new ≡ [] → w ≡ clean new → IsAtRest side s log new u w gate list
  cut_rest new w nothing synced = record {
    head = rest.head;
    front = rest.front;
    shown = rest.shown;
    spelled = rest.spelled;
    place = rest.place;
    frames = rest.frames;
    shut = rest.shut;
    end = rest.end;
    says = rest.says;
    is_log = ap (choice_of side s) (short_unmade new (let long = ap length nothing in omega (arith, long))) ∙ choice_none side s;
    log_synced = rest.log_synced;
    other_synced = synced;
  }

  -- and the log's file is turned over to one written anew
  pub turned_rest : (t : Said) (entries : List Entry) (new : List ℕ) (w : Unsynced) (place : ℕ) → s.fields.generation < t.fields.generation → IsText t entries new → place + 1 ≡ length new → w ≡ clean new → IsAtRest (opposite side) t new log w u place entries
  turned_rest t entries new w place later is last synced = record {
    head = is.head;
    front = is.front;
    shown = is.shown;
    spelled = is.spelled;
    place = is.place;
    frames = is.frames;
    shut = is.shut;
    end = gate_here t entries new is place last;
    says = is.says;
    is_log = ap (choice_of (opposite side) t) rest.says ∙ choice_greater (opposite side) t s later;
    log_synced = synced;
    other_synced = rest.log_synced;
  }

module _ (side : Side) (old : Held) (generation : ℕ) (log other : List ℕ) (u v : Unsynced) (gate : ℕ) (rest : IsAtRest side (said_of old generation) log other u v gate old.entries) where
  abbrev said : Said
  said = said_of old generation

  -- what is left with the front of the other file, or with none of it
  stands_front : (image : List ℕ) → (preamble_of image ≡ None) ⊎ (preamble_of image ≡ preamble_of other) → OnSide side (StandsFor old) log image
  stands_front image front =
      stands_on side old generation log image (rest_text side said log other u v gate old.entries rest) (choice_front side said other image rest.is_log front)

  -- at rest
  pub stands_at_rest : (a b : List ℕ) → IsImage u a → IsImage v b → OnSide side (StandsFor old) a b
  stands_at_rest a b is_a is_b =
      let a_is : a ≡ log = clean_only log a (subst (λ w. IsImage w a) rest.log_synced is_a) in
      let b_is : b ≡ other = clean_only other b (subst (λ w. IsImage w b) rest.other_synced is_b) in
      subst (λ l. OnSide side (StandsFor old) l b) (sym a_is) (stands_front b (inr (ap preamble_of b_is)))

  -- while the other file is cut
  pub stands_cut : (a b : List ℕ) → a ≡ log → Cut 0 other b → OnSide side (StandsFor old) a b
  stands_cut a b is cut = subst (λ l. OnSide side (StandsFor old) l b) (sym is) (stands_front b (front_says other b cut.front))

  begins_front : (image : List ℕ) → BeginsAnImage v image → (preamble_of image ≡ None) ⊎ (preamble_of image ≡ preamble_of other)
  begins_front image (whole, is, begins) =
      let same : whole ≡ other = clean_only other whole (subst (λ w. IsImage w whole) rest.other_synced is) in
      front_says other image (ap (take (length image)) (sym same) ∙ begins)

  -- while the other file is written anew
  module _ (new : Held) where
    abbrev next : Said
    next = said_of new (generation + 1)

    anew : (image : List ℕ) → IsFrontOrText v next new.entries image → OnSide side (IsOldOrNew old new) log image
    anew image (inl begins) = either_old side (StandsFor old) (StandsFor new) log image (stands_front image (begins_front image begins))
    anew image (inr (inl unmade)) = either_old side (StandsFor old) (StandsFor new) log image (stands_front image (inl unmade))
    anew image (inr (inr text)) =
        either_new side (StandsFor old) (StandsFor new) log image
        (flip_side side (StandsFor new) log image
        (stands_on (opposite side) new (generation + 1) image log text
        (ap (choice_of (opposite side) next) rest.says ∙ choice_greater (opposite side) next said (omega arith))))

    pub stands_anew : (a b : List ℕ) → a ≡ log → IsFrontOrText v next new.entries b → OnSide side (IsOldOrNew old new) a b
    stands_anew a b is text = subst (λ l. OnSide side (IsOldOrNew old new) l b) (sym is) (anew b text)

-- ---- what every log keeps

turned_held : (tells : Type 0) (side : Side) (s t : Said) (log other : List ℕ) (u v : Unsynced) (gate count : ℕ) (closed : Bool) → IsSound tells side s log other u v gate count closed → (entries : List Entry) (new : List ℕ) (w : Unsynced) (place : ℕ) → s.fields.generation < t.fields.generation → closed ≡ false → HoldsText tells t entries place new → (tells → w ≡ clean new) → tells → IsAtRest (opposite side) t new log w u place entries
turned_held tells side s t log other u v gate count closed sound entries new w place later open_now text synced told =
    turned_rest side s log other u v gate (counted s count log) (sound.rest told open_now) t entries new w place later (text.text told) (text.last told) (synced told)

pub turned_sound : (tells : Type 0) (side : Side) (s t : Said) (log other : List ℕ) (u v : Unsynced) (gate count : ℕ) (closed : Bool) → IsSound tells side s log other u v gate count closed → (entries : List Entry) (new : List ℕ) (w : Unsynced) (place number : ℕ) → IsSaid t → s.fields.generation < t.fields.generation → closed ≡ false → HoldsText tells t entries place new → (tells → w ≡ clean new) → number ≡ length entries → IsSound tells (opposite side) t new log w u place number closed
turned_sound tells side s t log other u v gate count closed sound entries new w place number said later open_now text synced counts =
    let all = λ (told : tells). ap (λ (n : ℕ). counted t n new) counts ∙ all_counted t entries new (text.text told) in
    record {
      said = said;
      end = text.end;
      few = let few = text.few in omega (arith, few, counts);
      whole = λ told. ap length (all told) ∙ sym counts;
      rest = λ told _. subst (λ l. IsAtRest (opposite side) t new log w u place l) (sym (all told)) (turned_held tells side s t log other u v gate count closed sound entries new w place later open_now text synced told);
    }

-- the same log
pub same_sound : {F : Type 0} (seen : F → List ℕ) (unsynced : F → Unsynced) (tells : Type 0) (s : Said) (gate count : ℕ) (closed : Bool) (side side' : Side) (x x' y y' : F) → side' ≡ side → x' ≡ x → y' ≡ y → IsSound tells side s (seen x) (seen y) (unsynced x) (unsynced y) gate count closed → IsSound tells side' s (seen x') (seen y') (unsynced x') (unsynced y') gate count closed
same_sound seen unsynced tells s gate count closed side side' x x' y y' sides xs ys is =
    subst (λ d. IsSound tells d s (seen x') (seen y') (unsynced x') (unsynced y') gate count closed) (sym sides)
    (subst (λ f. IsSound tells side s (seen f) (seen y') (unsynced f) (unsynced y') gate count closed) (sym xs)
    (subst (λ f. IsSound tells side s (seen x) (seen f) (unsynced x) (unsynced f) gate count closed) (sym ys) is))

pub same_files : {F : Type 0} (side side' : Side) (x x' y y' : F) → side' ≡ opposite side → x' ≡ x → y' ≡ y → files_in side' x' y' ≡ files_in side y x
same_files side side' x x' y y' sides xs ys =
    ap (λ d. files_in d x' y') sides ∙ ap (λ f. files_in (opposite side) f y') xs ∙ ap (λ f. files_in (opposite side) x f) ys ∙ files_turned side y x

-- ---- a log that was just made

module _ (tells : Type 0) (s : Said) (gate : ℕ) (seen other : List ℕ) (u v : Unsynced) (is : HoldsText tells s [] gate seen) (nothing : tells → other ≡ []) (synced : tells → u ≡ clean seen) (other_synced : tells → v ≡ clean other) where
  pub fresh_rest : tells → IsAtRest First s seen other u v gate []
  fresh_rest told =
      let text = is.text told in
      record {
        head = text.head;
        front = text.front;
        shown = text.shown;
        spelled = text.spelled;
        place = text.place;
        frames = text.frames;
        shut = text.shut;
        end = gate_here s [] seen text gate (is.last told);
        says = text.says;
        is_log = ap (choice_of First s) (short_unmade other (let long = ap length (nothing told) in omega (arith, long))) ∙ choice_none First s;
        log_synced = synced told;
        other_synced = other_synced told;
      }

  pub fresh_sound : IsSaid s → IsSound tells First s seen other u v gate 0 false
  fresh_sound said = record {
    said = said;
    end = is.end;
    few = omega arith;
    whole = λ told. refl;
    rest = λ told open_now. fresh_rest told;
  }
