use Rattle.std.proofs.Common.{◌≡◌, ◌-◌, ℕ, Some, drop, sym, ap, subst, ◌∙◌, arith}
use Rattle.ann_preamble.specs.Preamble.{preamble_of, said_by, said_by_found}
use Rattle.ann_frame.specs.Text.{StandFor}
use Rattle.ann_frame.specs.Found.{AreRefused}
use Rattle.ann_log.specs.Found.{IsRefused}
use Rattle.ann_log.specs.Text.{text_with}
use Rattle.ann_log.proofs.Behind.{is_said, gate_there, found_in, few, in_reach, refused_text}
use Rattle.ann_log.proofs.Sizes.{frames_components}
use Rattle.ann_log.proofs.read.read_file_text.Goals as goal

pub read_frames-requires : goal.read_frames-requires
read_frames-requires c =
    let bytes = c.args.bytes.now in
    let s = said_by c.in-Some.preamble in
    let says : preamble_of bytes ≡ Some s = sym c.requires ∙ ap said_by_found c.in-Some.is in
    let there = gate_there bytes s says in
    let at = c.gate-gate.ensures in
    omega (arith, there, at)

pub returns-in-Ok-clause-found : goal.returns-in-Ok-clause-found
returns-in-Ok-clause-found c =
    let bytes = c.args.bytes.now in
    let s = said_by c.in-Some.preamble in
    let says : preamble_of bytes ≡ Some s = sym c.requires ∙ ap said_by_found c.in-Some.is in
    let at = c.gate-gate.ensures in
    let place = c.in-Ok.ensures.place in
    found_in bytes s says c.in-Ok.frames
    (subst (λ (k : ℕ). StandFor s.fields.d (drop k bytes) c.in-Ok.frames.entries (c.in-Ok.frames.gate - k)) at c.in-Ok.ensures.stands)
    (omega (arith, at, place.0)) place.1

pub returns-in-Ok-clause-usable : goal.returns-in-Ok-clause-usable
returns-in-Ok-clause-usable c =
    let bytes = c.args.bytes.now in
    let s = said_by c.in-Some.preamble in
    let says : preamble_of bytes ≡ Some s = sym c.requires ∙ ap said_by_found c.in-Some.is in
    let at = c.gate-gate.ensures in
    let place = c.in-Ok.ensures.place in
    record {
      said = is_said bytes s says;
      inside = place.1;
      components = frames_components s.fields.d c.in-Ok.ensures.stands.front c.in-Ok.frames.entries c.in-Ok.ensures.stands.frames;
      few = few bytes s says c.in-Ok.frames
          (subst (λ (k : ℕ). StandFor s.fields.d (drop k bytes) c.in-Ok.frames.entries (c.in-Ok.frames.gate - k)) at c.in-Ok.ensures.stands)
          (omega (arith, at, place.0)) place.1;
    }

pub refusal-requires : goal.refusal-requires
refusal-requires c =
    let bytes = c.args.bytes.now in
    let s = said_by c.in-Some.preamble in
    let says : preamble_of bytes ≡ Some s = sym c.requires ∙ ap said_by_found c.in-Some.is in
    in_reach bytes s says c.in-Err.refused (omega arith)
    (subst (λ (k : ℕ). AreRefused s.fields.d (drop k bytes) c.in-Err.refused) c.gate-gate.ensures c.in-Err.ensures.refused)

pub returns-in-Err-clause-refused : goal.returns-in-Err-clause-refused
returns-in-Err-clause-refused c =
    let bytes = c.args.bytes.now in
    let s = said_by c.in-Some.preamble in
    let says : preamble_of bytes ≡ Some s = sym c.requires ∙ ap said_by_found c.in-Some.is in
    subst (IsRefused (text_with (preamble_of bytes) bytes)) (sym c.refusal.ensures)
    (refused_text bytes s says c.in-Err.refused (λ i. omega (arith, c.type_inv.bytes i))
    (subst (λ (k : ℕ). AreRefused s.fields.d (drop k bytes) c.in-Err.refused) c.gate-gate.ensures c.in-Err.ensures.refused))
