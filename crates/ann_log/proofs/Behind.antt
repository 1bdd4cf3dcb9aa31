-- What reading frames behind a preamble finds.
use Rattle.std.proofs.Common.{◌≡◌, ℕ, ◌-◌, ◌*◌, ◌≤◌, ◌<◌, ◌^◌, List, length, drop, Option, Some, refl, ap, ◌∙◌, arith, length-drop}
use Rattle.ann_preamble.specs.Preamble.{Said, preamble_of}
use Rattle.ann_preamble.proofs.Agreed.{sound_in}
use Rattle.ann_bytes.proofs.Numbered.{IsBytes, drop_bytes}
use Rattle.ann_frame.specs.Text.{StandFor}
use Rattle.ann_frame.specs.Found.{AreRefused}
use Rattle.ann_frame.specs.declared.reading.Frames.{Frames}
use Rattle.ann_frame.specs.declared.frames_refused.FramesRefused.{FramesRefused}
use Rattle.ann_frame.specs.declared.frames_refused.FramesRefused.TheVariants as framed
use Rattle.ann_frame.proofs.Agrees.{text_bad}
use Rattle.ann_log.specs.Found.{IsFoundIn, IsRefused, refusal_of, IsInReach}
use Rattle.ann_log.specs.LogView.{IsSaid}
use Rattle.ann_log.specs.Text.{behind, first_gate, text_with}
use Rattle.ann_log.proofs.Sizes.{stand_few, bad_few, base_small}

module _ (bytes : List ℕ) (s : Said) (says : preamble_of bytes ≡ Some s) where
  pub is_said : IsSaid s
  is_said = let sound = sound_in bytes s says in record { base = sound.base; book = sound.book; sizes = sound.sizes }

  pub gate_there : first_gate s < length bytes
  gate_there = (sound_in bytes s says).gate

  module _ (frames : Frames) (stands : StandFor s.fields.d (drop (first_gate s) bytes) frames.entries (frames.gate - first_gate s)) (place : first_gate s ≤ frames.gate) (inside : frames.gate < length bytes) where
    pub found_in : IsFoundIn bytes s frames (length bytes)
    found_in = record { says = says; sound = is_said; stands = stands; place = place; inside = inside; end_is = refl }

    pub few : 5 * length frames.entries ≤ frames.gate
    few = let less = stand_few s.fields.d (drop (first_gate s) bytes) frames.entries (frames.gate - first_gate s) stands in omega (arith, less, place)

  pub in_reach : (why : FramesRefused) → length bytes < 2 ^ 64 → AreRefused s.fields.d (drop (first_gate s) bytes) why → IsInReach s.fields.base.position why
  in_reach (framed.Bad entry) long refused =
      let small = base_small s.fields.base (sound_in bytes s says).base in
      let less = bad_few s.fields.d (drop (first_gate s) bytes) entry refused in
      let left = length-drop (first_gate s) bytes in
      omega (arith, small, less, left, long)
  in_reach framed.Memory long refused = tt

  pub refused_text : (why : FramesRefused) → IsBytes bytes → AreRefused s.fields.d (drop (first_gate s) bytes) why → IsRefused (text_with (preamble_of bytes) bytes) (refusal_of s.fields.base.position why)
  refused_text (framed.Bad entry) small refused =
      ap (λ (p : Option Said). text_with p bytes) says
      ∙ ap (behind s) (text_bad s.fields.d (drop (first_gate s) bytes) entry (drop_bytes (first_gate s) bytes small) refused)
  refused_text framed.Memory small refused = tt
