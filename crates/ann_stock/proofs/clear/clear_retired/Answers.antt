use Rattle.std.proofs.Common.{◌≡◌, ◌-◌, ◌+◌, ◌<◌, suc, ◌∷◌, map, length, vec_capacity, refl, sym, ap, subst, ◌∙◌, arith}
use Rattle.std.specs.Arc.{arc_value}
use Rattle.std.specs.FinMap.{remove}
use Rattle.std.proofs.lemmas.List.{length-map, map-append}
use Rattle.ann_vault.specs.Held.{MayBeRemoved}
use Rattle.ann_segment.specs.Segment.{SegmentView}
use Rattle.ann_stock.proofs.Clearing.{IsClearing, starts, front_of, lets_go, keeps, removes_one, fails_one, ends}
use Rattle.ann_stock.proofs.clear.clear_retired.Goals.{then-number-base+in-Ok+in-Ok-remove, then-number-base+in-Ok+in-Err-remove, then-number-base+in-Err, else-number-base}
use Rattle.ann_stock.proofs.clear.clear_retired.Goals as goal

pub loop-init : goal.loop-init
loop-init g c = record {
  room = refl;
  clearing =
      starts g.V.Seal.Sealed.tells c.args.base (map arc_value c.args.retired.now.items) (g.V.Vault.held c.args.vault.now) (g.V.Vault.faults c.args.vault.now) (c.len-end.result - 0)
      (let size = length-map c.args.retired.now.items arc_value in let counted = c.len-end.ensures in let whole = c.args.retired.now.ok in omega (arith, size, counted, whole));
}

pub loop-preserved : goal.loop-preserved
loop-preserved g c =
    let tells = g.V.Seal.Sealed.tells in
    let retired = map arc_value c.args.retired.now.items in
    let held = g.V.Vault.held c.args.vault.now in
    let faults = g.V.Vault.faults c.args.vault.now in
    let x = arc_value c.remove-segment.result in
    let after = map arc_value c.remove-segment.new.self.items in
    let left = c.len-end.result - (c.loop.counter + 1) in
    let some : 0 < length c.loop.retired.items = let longer = c.remove-segment.ensures.len in let whole = c.loop.retired.ok in omega (arith, longer, whole) in
    let front : map arc_value c.loop.retired.items ≡ x ∷ after =
    ap (map arc_value) (front_of c.loop.retired.items c.remove-segment.new.self.items c.remove-segment.result some c.remove-segment.ensures.value c.remove-segment.ensures.items) in
    let one_more : c.len-end.result - c.loop.counter ≡ suc left = let here = c.loop-test.true in omega (arith, here) in
    let clearing : IsClearing tells c.args.base retired held faults (x ∷ after) (suc left) (g.V.Vault.held c.loop.vault) (g.V.Vault.faults c.loop.vault) c.loop.calm =
    rw (front, one_more) at c.loop.invariant.clearing in
    let number : c.number.result ≡ x.number = c.number.ensures ∙ ap (λ (s : SegmentView _). s.number) c.deref.ensures in
    let room : vec_capacity c.remove-segment.new.self ≡ vec_capacity c.args.retired.now = c.remove-segment.ensures.capacity ∙ c.loop.invariant.room in
    elim c.if-number-base.branch [
      | then-number-base+in-Ok+in-Ok-remove w ↦ record {
        room = rw w.retired-is room;
        clearing =
            rw (w.retired-is, w.vault-is, w.calm-is)
            (removes_one tells c.args.base retired held faults x after left (g.V.Vault.held c.loop.vault) (g.V.Vault.faults c.loop.vault) c.loop.calm clearing
            (g.V.Vault.held w.remove.new.vault) (g.V.Vault.faults w.remove.new.vault)
            (λ same. w.if-number-base.true (number ∙ same))
            (λ told. w.in-Ok-remove.ensures.removed told ∙ ap (λ (s : SegmentView _). remove (g.V.Vault.held c.loop.vault) s.number) w.in-Ok.ensures.ok)
            w.in-Ok-remove.ensures.cause.calm);
      }
      | then-number-base+in-Ok+in-Err-remove w ↦ record {
        room = rw w.retired-is room;
        clearing =
            rw (w.retired-is, w.vault-is, w.calm-is)
            (fails_one tells c.args.base retired held faults x after left (g.V.Vault.held c.loop.vault) (g.V.Vault.faults c.loop.vault) c.loop.calm clearing
            (g.V.Vault.held w.remove.new.vault) (g.V.Vault.faults w.remove.new.vault)
            (λ same. w.if-number-base.true (number ∙ same))
            (λ told. subst (λ (s : SegmentView _). MayBeRemoved s.number (g.V.Vault.held c.loop.vault) (g.V.Vault.held w.remove.new.vault)) w.in-Ok.ensures.ok (w.in-Err-remove.ensures.refused told))
            w.in-Err-remove.ensures.cause.failed);
      }
      | then-number-base+in-Err w ↦ record {
        room = rw w.retired-is (w.push_reserved.ensures.capacity ∙ room);
        clearing =
            rw (w.retired-is, w.vault-is, w.calm-is, w.push_reserved.ensures.items, w.in-Err.ensures.err, map-append)
            (keeps tells c.args.base retired held faults x after left (g.V.Vault.held c.loop.vault) (g.V.Vault.faults c.loop.vault) c.loop.calm clearing
            (λ same. w.if-number-base.true (number ∙ same)));
      }
      | else-number-base w ↦ record {
        room = rw w.retired-is room;
        clearing =
            rw (w.retired-is, w.vault-is, w.calm-is)
            (lets_go tells c.args.base retired held faults x after left (g.V.Vault.held c.loop.vault) (g.V.Vault.faults c.loop.vault) c.loop.calm clearing (sym number ∙ w.if-number-base.false));
      }
    ]

pub returns-clause-cleared : goal.returns-clause-cleared
returns-clause-cleared g c =
    let none : c.len-end.result - c.loop.counter ≡ 0 = let over = c.loop-test.false in omega (arith, over) in
    ends g.V.Seal.Sealed.tells c.args.base (map arc_value c.args.retired.now.items) (g.V.Vault.held c.args.vault.now) (g.V.Vault.faults c.args.vault.now)
    (map arc_value c.loop.retired.items) (g.V.Vault.held c.loop.vault) (g.V.Vault.faults c.loop.vault) c.loop.calm
    (rw none at c.loop.invariant.clearing)
