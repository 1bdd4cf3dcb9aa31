use Rattle.std.proofs.Common.{◌≡◌, ◌∙◌, List, take, get_or, sym, ap, arith}
use Rattle.std.proofs.lemmas.List.{take_all}
use Rattle.ann_core.specs.Kept.{texts_of, is_kept_in, without_text}
use Rattle.ann_core.specs.declared.kept.Kept.{Kept}
use Rattle.ann_core.proofs.Taking.{without_one, front_stays, without_none}
use Rattle.ann_core.proofs.kept.take_away.Goals as goal

pub loop-place-preserved-then-index-number : goal.loop-place-preserved-then-index-number
loop-place-preserved-then-index-number c =
    let items = c.remove-gone.ensures.items in
    let at : (get_or c.loop-place.kept.items c.loop-place.place c.index.result.now).number ≡ c.args.number = ap (λ (k : Kept). k.number) (sym c.index.ensures) ∙ c.if-index-number.true in
    let fewer = c.remove-gone.ensures.len in
    let within = c.loop-place-test.true in
    record {
      within = omega (arith, fewer, within);
      front =
          ap (λ (t : List Kept). is_kept_in (texts_of (take c.loop-place.place t)) c.args.number) items
          ∙ ap (λ (t : List Kept). is_kept_in (texts_of t) c.args.number) (front_stays c.loop-place.kept.items c.loop-place.place)
          ∙ c.loop-place.invariant.front;
      same =
          ap (λ (t : List Kept). without_text (texts_of t) c.args.number) items
          ∙ without_one c.loop-place.kept.items c.loop-place.place c.args.number c.index.result.now (omega (arith, within)) at
          ∙ c.loop-place.invariant.same;
    }

pub returns : goal.returns
returns c =
    let whole : take c.loop-place.place c.loop-place.kept.items ≡ c.loop-place.kept.items = take_all c.loop-place.place c.loop-place.kept.items (omega arith) in
    sym (without_none c.loop-place.kept.items c.args.number (ap (λ (t : List Kept). is_kept_in (texts_of t) c.args.number) (sym whole) ∙ c.loop-place.invariant.front))
    ∙ c.loop-place.invariant.same
