use Rattle.std.proofs.Common.{◌<◌, ◌∙◌, sym, subst, arith}
use Rattle.std.proofs.lemmas.Bool.{false≢true}
use Rattle.ann_disk.specs.Stretch.{unsynced_of}
use Rattle.ann_disk.proofs.Chosen.{byte_by, doubt_small}
use Rattle.ann_disk.proofs.stretch.Stretch.byte.Goals.{else-not-is_covered-via-then-not-is_covered+else-place-len, else-not-is_covered-via-else-not-is_covered}
use Rattle.ann_disk.proofs.stretch.Stretch.byte.Goals as goal

pub returns-else-not-is_covered : goal.returns-else-not-is_covered
returns-else-not-is_covered c =
    let u = unsynced_of c.args.self.now in
    let seen = c.args.seen.now in
    let number = c.args.chooser in
    let place = c.args.place in
    let in_doubt = doubt_small u seen number place c.ranges.chooser.fits (subst (λ n. n < 256) c.filling.ensures c.filling.type_inv) in
    elim c.else-not-is_covered.branch [
      | else-not-is_covered-via-then-not-is_covered+else-place-len w ↦
          c.filling.ensures ∙ sym (byte_by u seen number place _ (λ there free. absurd (omega (arith, there, w.if-place-len.false, w.len.ensures))) in_doubt)
      | else-not-is_covered-via-else-not-is_covered w ↦
          c.filling.ensures ∙ sym (byte_by u seen number place _ (λ there free. absurd (false≢true (sym free ∙ sym c.is_covered.ensures ∙ w.if-not-is_covered.false))) in_doubt)
    ]
