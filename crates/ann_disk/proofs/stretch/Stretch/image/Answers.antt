use Rattle.std.proofs.Common.{◌≡◌, ℕ, List, map, ap, sym, ◌∙◌, subst, arith}
use Rattle.std.specs.List.{range_with_len}
use Rattle.ann_disk.specs.Chosen.{byte_of, end_of}
use Rattle.ann_disk.specs.Image.{IsImage}
use Rattle.ann_disk.specs.Stretch.{unsynced_of}
use Rattle.ann_disk.proofs.Chosen.{image_is, one_more}
use Rattle.ann_disk.proofs.stretch.Stretch.image.Goals as goal

pub loop-place-preserved : goal.loop-place-preserved
loop-place-preserved c = record {
  so_far = one_more (byte_of (unsynced_of c.args.self.now) c.args.seen.now c.args.chooser) c.loop-place.image.items c.push.new.self.items c.loop-place.place c.byte.result
      c.in_ok-push.ensures.items c.loop-place.invariant.so_far c.byte.ensures;
  end = c.loop-place.invariant.end;
}

pub returns-clause-image : goal.returns-clause-image
returns-clause-image c =
    let u = unsynced_of c.args.self.now in
    let at = byte_of u c.args.seen.now c.args.chooser in
    let whole : c.loop-place.place ≡ end_of u c.args.chooser = omega (arith, c.loop-place.auto.place-end, c.loop-place-test.false, c.end-end.ensures) in
    subst (λ (l : List ℕ). IsImage u l) (sym (c.loop-place.invariant.so_far ∙ ap (λ (n : ℕ). map at (range_with_len 0 n)) whole))
    (image_is u c.args.seen.now c.args.chooser c.requires)
