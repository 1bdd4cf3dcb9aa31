use Rattle.std.proofs.Common.{◌≡◌, ◌+◌, ◌*◌, map, refl, subst}
use Rattle.std.specs.Arc.{arc_value}
use Rattle.std.specs.Option.{option_map}
use Rattle.ann_types.specs.declared.params.Params.{Params}
use Rattle.ann_merge.specs.Job.{order_of}
use Rattle.ann_mbegin.proofs.Taken.{is_job, is_order, is_taken}
use Rattle.ann_mbegin.proofs.input.MergeInput.of_begin.Goals as goal

pub invariant_of-result : goal.invariant_of-result
invariant_of-result g c =
    let view = c.args.view.now in
    let book = c.args.book.value in
    let position = c.args.position in
    let order = order_of (option_map arc_value c.in_ok-old.old) (map arc_value c.in_ok-frozen.frozen.items) c.in_ok-gone.gone (2 * position + 1) c.args.params.now book in
    let taken = is_taken view book order position c.in_ok-old.ensures c.in_ok-frozen.ensures.graphs c.in_ok-gone.ensures refl c.requires.open_now c.requires.params refl in
    is_order view book order position c.known.ensures.view taken c.requires.open_now c.requires.older
    (subst (λ (p : Params). (book.d ≡ p.d) × (book.m ≡ p.m)) c.requires.params (c.requires.book.0, c.requires.book.1)) c.in_ok-frozen.ensures.params

pub returns-clause-job : goal.returns-clause-job
returns-clause-job g c =
    let view = c.args.view.now in
    let book = c.args.book.value in
    let position = c.args.position in
    let order = order_of (option_map arc_value c.in_ok-old.old) (map arc_value c.in_ok-frozen.frozen.items) c.in_ok-gone.gone (2 * position + 1) c.args.params.now book in
    let taken = is_taken view book order position c.in_ok-old.ensures c.in_ok-frozen.ensures.graphs c.in_ok-gone.ensures refl c.requires.open_now c.requires.params refl in
    is_job view book order taken c.requires.book.2
