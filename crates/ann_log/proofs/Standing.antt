-- What the bytes of a log's file stand for.
use Rattle.std.proofs.Common.{◌≡◌, ◌≢◌, ℕ, ◌<◌, List, ◌∷◌, ◌++◌, length, take, drop, Option, Some, sym, ap, subst, ◌∙◌, arith, length-append, take-append-drop}
use Rattle.std.proofs.lemmas.List.{take_at, drop_at}
use Rattle.ann_types.specs.declared.entry.Entry.{Entry}
use Rattle.ann_preamble.specs.Preamble.{Said, preamble_of}
use Rattle.ann_preamble.specs.Choice.{chosen}
use Rattle.ann_preamble.specs.declared.choice.Side.{Side}
use Rattle.ann_preamble.specs.declared.choice.Side.TheVariants.{First, Second}
use Rattle.ann_preamble.proofs.Agreed.{said_before}
use Rattle.ann_frame.specs.Frames.{AreFrames, IsFrame, frame_bytes}
use Rattle.ann_frame.specs.Text.{StandFor}
use Rattle.ann_frame.proofs.Agrees.{text_stands}
use Rattle.ann_frame.proofs.Growing.{frames_grow, stand_at_gate}
use Rattle.ann_log.specs.LogView.{choice_of}
use Rattle.ann_log.specs.Text.{holds, behind, first_gate, file_text, text_with, text_on, log_text}
use Rattle.ann_log.proofs.Pairs.{OnSide}

-- two files stand for what the one stands for that is the log
pub side_text : (side : Side) (s : Said) (log other : List ℕ) → preamble_of log ≡ Some s → choice_of side s (preamble_of other) ≡ Some side → OnSide side (λ first second. log_text first second ≡ file_text s log) log other
side_text First s log other says is_log =
    ap (λ (p : Option Said). text_on (chosen p (preamble_of other)) log other) says
    ∙ ap (λ (c : Option Side). text_on c log other) is_log
    ∙ ap (λ (p : Option Said). text_with p log) says
side_text Second s log other says is_log =
    ap (λ (p : Option Said). text_on (chosen (preamble_of other) p) other log) says
    ∙ ap (λ (c : Option Side). text_on c other log) is_log
    ∙ ap (λ (p : Option Said). text_with p log) says

pub frames_text : (s : Said) (bytes : List ℕ) (entries : List Entry) (gate : ℕ) → StandFor s.fields.d (drop (first_gate s) bytes) entries gate → file_text s bytes ≡ holds s entries
frames_text s bytes entries gate is = ap (behind s) (text_stands s.fields.d (drop (first_gate s) bytes) entries gate is)

-- a file of a preamble, whole frames and what stands behind them
module _ (s : Said) (head front : List ℕ) (list : List Entry) (place : length head ≡ first_gate s) (frames : AreFrames s.fields.d front list) where
  behind_head : (rest : List ℕ) → drop (first_gate s) (head ++ rest) ≡ rest
  behind_head rest = drop_at head rest (first_gate s) place

  -- the preamble is the same, whatever stands behind it
  pub says_same : (log rest : List ℕ) → preamble_of log ≡ Some s → take (first_gate s) log ≡ head → 0 < length rest → preamble_of (head ++ rest) ≡ Some s
  says_same log rest says begins some =
      let whole = length-append head rest in
      said_before log s says (head ++ rest) (take_at head rest (first_gate s) place ∙ sym begins) (omega (arith, whole, place, some))

  -- behind a gate that isn't open anything may stand
  pub shut_text : (shown : ℕ) (rest : List ℕ) → shown ≢ 1 → file_text s (head ++ (front ++ shown ∷ rest)) ≡ holds s list
  shut_text shown rest shut =
      frames_text s (head ++ (front ++ shown ∷ rest)) list (length front)
      (subst (λ bytes. StandFor s.fields.d bytes list (length front)) (sym (behind_head (front ++ shown ∷ rest))) (stand_at_gate s.fields.d front list frames shown rest shut))

  -- with one more frame
  pub grown : (new : List Entry) → IsFrame s.fields.d new → AreFrames s.fields.d (front ++ 1 ∷ frame_bytes new) (list ++ new)
  grown new fits = frames_grow s.fields.d front list frames new fits

-- two lists of which the longer one begins with the shorter
pub begins_with : (front bytes : List ℕ) → take (length front) bytes ≡ front → bytes ≡ front ++ drop (length front) bytes
begins_with front bytes is = sym (take-append-drop (length front) bytes) ∙ ap (λ (l : List ℕ). l ++ drop (length front) bytes) is
