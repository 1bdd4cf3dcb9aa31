use Rattle.std.proofs.Common.{◌≡◌, true, subst, sym}
use Rattle.ann_frame.specs.Frames.{HaveComponents}
use Rattle.ann_preamble.specs.Base.{is_base}
use Rattle.ann_preamble.specs.Preamble.{said_by}
use Rattle.ann_log.specs.Text.{Held, StandsFor}
use Rattle.ann_log.proofs.Opening.{found_text}
use Rattle.ann_log.proofs.inspect.inspect_log.Goals as goal

pub returns-clause-found : goal.returns-clause-found
returns-clause-found g c =
    let D = g.F.LogFile in
    let old = c.args.files.now in
    let found = c.in_ok-found.found in
    let usable = c.in_ok-found.ensures.found.usable in
    record {
      held = λ told.
          let is = c.in_ok-found.ensures.found.found told in
          subst (λ held. StandsFor held (D.seen old.first) (D.seen old.second)) (sym c.of_found.ensures)
          (found.preamble.generation, found_text found.side (said_by found.preamble) found.frames found.end (D.seen old.first) (D.seen old.second) is.is_log is.in_file);
      sizes = subst (λ (held : Held). (held.book.d ≡ held.params.d) × (held.book.m ≡ held.params.m)) (sym c.of_found.ensures) usable.said.sizes;
      valid = subst (λ (held : Held). is_base held.base ≡ true) (sym c.of_found.ensures) usable.said.base;
      components = subst (λ (held : Held). HaveComponents held.params.d held.entries) (sym c.of_found.ensures) usable.components;
    }
