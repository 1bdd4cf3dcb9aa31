-- What opening finds and leaves.
use Rattle.std.proofs.Common.{◌≡◌, inl, inr, ℕ, ◌+◌, ◌-◌, List, [], ◌∷◌, ◌++◌, length, take, drop, Some, refl, sym, ap, subst, ◌∙◌, arith, append_assoc, length-append, take-append-drop}
use Rattle.std.proofs.lemmas.List.{take_at, take_all, take-take, length-take-le}
use Rattle.ann_disk.specs.File.{Cut}
use Rattle.ann_disk.specs.Image.{Unsynced, IsImage, clean}
use Rattle.ann_disk.specs.declared.file.LogFile.{Ghosts}
use Rattle.ann_preamble.specs.Preamble.{Said, preamble_of}
use Rattle.ann_preamble.specs.declared.choice.Side.{Side}
use Rattle.ann_preamble.specs.declared.choice.Side.TheVariants.{First, Second}
use Rattle.ann_frame.specs.TextOf.{text_of}
use Rattle.ann_frame.proofs.Agrees.{text_stands}
use Rattle.ann_frame.specs.declared.reading.Frames.{Frames}
use Rattle.ann_log.specs.Found.{IsFoundIn}
use Rattle.ann_log.specs.LogView.{IsAtRest, choice_of, files_in, on_side, off_side}
use Rattle.ann_log.specs.Pairs.{ReadAsBefore, MayBeCut}
use Rattle.ann_log.specs.Text.{holds, first_gate, file_text, log_text, gate_in, upto_gate}
use Rattle.ann_log.specs.Opened.{AreCut, LeavesHeld, seen_on, seen_off}
use Rattle.ann_log.specs.Told.{HoldSame}
use Rattle.ann_log.specs.declared.files.Files.{Files}
use Rattle.ann_log.specs.declared.refused.OpenWhy.{OpenWhy}
use Rattle.ann_log.specs.declared.refused.OpenWhy.TheVariants.{Disk}
use Rattle.ann_log.proofs.Standing.{side_text, says_same, shut_text, begins_with}

module _ (bytes : List ℕ) (s : Said) (frames : Frames) (end : ℕ) (is : IsFoundIn bytes s frames end) where
  abbrev head : List ℕ
  head = take (first_gate s) bytes

  abbrev front : List ℕ
  front = is.stands.front

  abbrev shown : ℕ
  shown = is.stands.shown

  -- the bytes up to the gate
  abbrev upto : List ℕ
  upto = head ++ (front ++ shown ∷ [])

  head_long : length head ≡ first_gate s
  head_long = length-take-le (first_gate s) bytes (let place = is.place in let inside = is.inside in let end_is = is.end_is in omega (arith, place, inside, end_is))

  gate_is : frames.gate ≡ length head + length front
  gate_is = let long = head_long in let place = is.stands.place in let behind = is.place in omega (arith, long, place, behind)

  upto_long : length upto ≡ frames.gate + 1
  upto_long = let whole = length-append head (front ++ shown ∷ []) in let part = length-append front (shown ∷ []) in let gate = gate_is in omega (arith, whole, part, gate)

  regroup : (rest : List ℕ) → upto ++ rest ≡ head ++ (front ++ shown ∷ rest)
  regroup rest = append_assoc head (front ++ shown ∷ []) rest ∙ ap (λ (l : List ℕ). head ++ l) (append_assoc front (shown ∷ []) rest)

  spelled : bytes ≡ upto ++ is.stands.rest
  spelled = sym (take-append-drop (first_gate s) bytes) ∙ ap (λ (l : List ℕ). head ++ l) is.stands.cut ∙ sym (regroup is.stands.rest)

  cut_here : take (frames.gate + 1) bytes ≡ upto
  cut_here = ap (take (frames.gate + 1)) spelled ∙ take_at upto is.stands.rest (frames.gate + 1) upto_long

  same_head : take (first_gate s) bytes ≡ head
  same_head = refl

  -- bytes that begin so have the same preamble and stand for the same entries
  module _ (image : List ℕ) (begins : take (frames.gate + 1) image ≡ upto) where
    image_is : image ≡ head ++ (front ++ shown ∷ drop (length upto) image)
    image_is = begins_with upto image (ap (λ (k : ℕ). take k image) upto_long ∙ begins) ∙ regroup (drop (length upto) image)

    pub image_says : preamble_of image ≡ Some s
    image_says =
        let whole = length-append front (shown ∷ drop (length upto) image) in
        ap preamble_of image_is ∙ says_same s head front frames.entries head_long is.stands.frames bytes (front ++ shown ∷ drop (length upto) image) is.says refl (omega (arith, whole))

    pub image_text : file_text s image ≡ holds s frames.entries
    image_text = ap (file_text s) image_is ∙ shut_text s head front frames.entries head_long is.stands.frames shown (drop (length upto) image) is.stands.shut

  pub text_here : file_text s bytes ≡ holds s frames.entries
  text_here = image_text bytes cut_here

  cut_begins : (image : List ℕ) → Cut (frames.gate + 1) bytes image → take (frames.gate + 1) image ≡ upto
  cut_begins image cut =
      let long = cut.no_shorter in
      ap (take (frames.gate + 1)) (sym cut.front) ∙ take-take (frames.gate + 1) (length image) bytes (omega (arith, long)) ∙ cut_here

  -- the files at rest behind the cut
  pub rest_here : (side : Side) (log other : List ℕ) (u v : Unsynced) → choice_of side s (preamble_of other) ≡ Some side → log ≡ take (frames.gate + 1) bytes → u ≡ clean log → v ≡ clean other → IsAtRest side s log other u v frames.gate frames.entries
  rest_here side log other u v is_log cut log_synced other_synced = record {
    head = head;
    front = front;
    shown = shown;
    spelled = cut ∙ cut_here;
    place = head_long;
    frames = is.stands.frames;
    shut = is.stands.shut;
    end = gate_is;
    says = image_says log (ap (take (frames.gate + 1)) (cut ∙ cut_here) ∙ take_whole);
    is_log = is_log;
    log_synced = log_synced;
    other_synced = other_synced;
  }
    where
      take_whole : take (frames.gate + 1) upto ≡ upto
      take_whole = let long = upto_long in ap (λ (k : ℕ). take k upto) (sym upto_long) ∙ take_all_of upto
        where
          take_all_of : (l : List ℕ) → take (length l) l ≡ l
          take_all_of l = take_all (length l) l (omega arith)

  -- its bytes up to the last gate
  pub upto_is : upto_gate s bytes ≡ take (frames.gate + 1) bytes
  upto_is =
      let gate : gate_in (text_of s.fields.d (drop (first_gate s) bytes)) ≡ frames.gate - first_gate s =
      ap gate_in (text_stands s.fields.d (drop (first_gate s) bytes) frames.entries (frames.gate - first_gate s) is.stands) in
      let place = is.place in
      ap (λ (k : ℕ). take k bytes) (omega (arith, gate, place))

  pub upto_size : length (upto_gate s bytes) ≡ frames.gate + 1
  upto_size = ap length (upto_is ∙ cut_here) ∙ upto_long

  pub cut_says : (image : List ℕ) → Cut (frames.gate + 1) bytes image → (preamble_of image ≡ Some s) × (file_text s image ≡ holds s frames.entries)
  cut_says image cut = (image_says image (cut_begins image cut), image_text image (cut_begins image cut))

-- what two files stand for in which this was found
pub found_text : (side : Side) (s : Said) (frames : Frames) (end : ℕ) (first second : List ℕ) → choice_of side s (preamble_of (off_side side first second)) ≡ Some side → IsFoundIn (on_side side first second) s frames end → log_text first second ≡ holds s frames.entries
found_text First s frames end first second is_log is = side_text First s first second is.says is_log ∙ text_here first s frames end is
found_text Second s frames end first second is_log is = side_text Second s second first is.says is_log ∙ text_here second s frames end is

-- a cut of the log's file leaves files that read as before
pub cut_reads : (side : Side) (s : Said) (frames : Frames) (end : ℕ) (u v : Unsynced) (first second : List ℕ) → IsImage u first → IsImage v second → choice_of side s (preamble_of (off_side side first second)) ≡ Some side → IsFoundIn (on_side side first second) s frames end → (one two : List ℕ) → MayBeCut side (frames.gate + 1) first second one two → ReadAsBefore u v one two
cut_reads First s frames end u v first second is_first is_second is_log is one two may =
    let cut = cut_says first s frames end is one may.0 in
    record {
      one = first;
      two = second;
      first_image = is_first;
      second_image = is_second;
      same =
          side_text First s one two cut.0 (ap (λ (l : List ℕ). choice_of First s (preamble_of l)) may.1 ∙ is_log) ∙ cut.1
          ∙ sym (found_text First s frames end first second is_log is);
    }
cut_reads Second s frames end u v first second is_first is_second is_log is one two may =
    let cut = cut_says second s frames end is two may.0 in
    record {
      one = first;
      two = second;
      first_image = is_first;
      second_image = is_second;
      same =
          side_text Second s two one cut.0 (ap (λ (l : List ℕ). choice_of Second s (preamble_of l)) may.1 ∙ is_log) ∙ cut.1
          ∙ sym (found_text Second s frames end first second is_log is);
    }

pub on_clean : (side : Side) (u v : Unsynced) (first second : List ℕ) → u ≡ clean first → v ≡ clean second → (on_side side u v ≡ clean (on_side side first second)) × (off_side side u v ≡ clean (off_side side first second))
on_clean First u v first second one two = (one, two)
on_clean Second u v first second one two = (two, one)

-- images read as they do
pub images_read : (u v : Unsynced) (one two : List ℕ) → IsImage u one × IsImage v two → ReadAsBefore u v one two
images_read u v one two are = record { one = one; two = two; first_image = are.0; second_image = are.1; same = refl }

-- where files that read alike were cut
pub may_be_cut : (side : Side) (to : ℕ) (first second first' second' one two : List ℕ) → first' ≡ first → second' ≡ second → MayBeCut side to first' second' one two → MayBeCut side to first second one two
may_be_cut side to first second first' second' one two same_first same_second may =
    subst (λ l. MayBeCut side to first l one two) same_second (subst (λ l. MayBeCut side to l second' one two) same_first may)

-- files that hold what they held, whatever was refused
pub held_still : {F : Type 0} (D : Ghosts F) (old new : Files F) → HoldSame D old new → (why : OpenWhy) → LeavesHeld D old new why
held_still D old new same why = record { held = λ no. same; cut = inl same }

-- files of which the log's was cut behind its last gate
pub are_cut : {F : Type 0} (D : Ghosts F) (old new : Files F) (side : Side) (s : Said) (frames : Frames) (end : ℕ) → choice_of side s (preamble_of (seen_off D side old)) ≡ Some side → IsFoundIn (seen_on D side old) s frames end → MayBeCut side (frames.gate + 1) (D.seen old.first) (D.seen old.second) (D.seen new.first) (D.seen new.second) → AreCut D old new
are_cut D old new side s frames end is_log is may = record {
  side = side;
  s = s;
  says = is.says;
  is_log = is_log;
  cut = subst (λ (k : ℕ). Cut k (seen_on D side old) (seen_on D side new)) (sym (upto_size (seen_on D side old) s frames end is)) may.0;
  other = may.1;
}

-- what reads give of the log's file and of the other one
pub parted_seen : {F : Type 0} (D : Ghosts F) (side : Side) (log other : F) (files : Files F) → files_in side log other ≡ files → (D.seen log ≡ seen_on D side files) × (D.seen other ≡ seen_off D side files)
parted_seen D First log other files is = (ap (λ f. D.seen f.first) is, ap (λ f. D.seen f.second) is)
parted_seen D Second log other files is = (ap (λ f. D.seen f.second) is, ap (λ f. D.seen f.first) is)

pub held_cut : {F : Type 0} (D : Ghosts F) (old new : Files F) → AreCut D old new → LeavesHeld D old new Disk
held_cut D old new cut = record { held = λ no. absurd (no refl); cut = inr cut }
