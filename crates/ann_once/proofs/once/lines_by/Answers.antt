use Rattle.std.proofs.Common.{List, ◌++◌, ℕ, ◌+◌, ◌≤◌, sym, ap, ◌∙◌, subst, arith, map, drop, refl}
use Rattle.std.proofs.lemmas.List.{length-map}
use Rattle.ann_types.specs.Lists.{BasedList, length_of, empty_list}
use Rattle.ann_types.specs.declared.params.Params.{Params}
use Rattle.ann_script.specs.Order.{Order, order_of}
use Rattle.ann_script.specs.declared.command.Command.{Command}
use Rattle.ann_once.specs.Once.{once_index, reply_to, list_after, lines_from}
use Rattle.ann_script.specs.Allowed.{IsOrderOf}
use Rattle.ann_script.specs.declared.verbs.Verbs.TheVariants.{Once}
use Rattle.ann_once.specs.Session.{Keeps}
use Rattle.ann_once.proofs.Commands.{next_order, text_on, after_long}
use Rattle.ann_once.proofs.Transcribing.{ends}
use Rattle.ann_once.proofs.once.lines_by.Goals as goal

pub reply-requires-clause-room : goal.reply-requires-clause-room
reply-requires-clause-room c = let few = c.loop-command.invariant.few in let short = c.requires.short in let turn = c.loop-command-test.true in omega (arith, few, short, turn)

pub reply-requires-clause-kept : goal.reply-requires-clause-kept
reply-requires-clause-kept c = (c.loop-command.invariant.list, c.loop-command.invariant.keeps)

abbrev pub loop-command-preserved : goal.loop-command-preserved
loop-command-preserved c =
    let params : Params = c.args.session.now.params in
    let i : ℕ = c.loop-command.command-index in
    let h : BasedList = c.loop-command.invariant.list in
    let order : Order = order_of c.command-item.result in
    let one : IsOrderOf Once order = subst (λ (x : Command). IsOrderOf Once (order_of x)) (sym c.command-item.is) (c.requires.verbs i c.command-item.result c.loop-command-test.true) in
    let is = c.in_ok-reply.ensures.reply h c.loop-command.invariant.keeps ∙ ap (λ (p : Params). reply_to (once_index p) h order) c.loop-command.invariant.same in
    let keeps : Keeps (list_after (once_index params) h order) c.reply.new.session = subst (λ (p : Params). Keeps (list_after (once_index p) h order) c.reply.new.session) c.loop-command.invariant.same (c.in_ok-reply.ensures.list h c.loop-command.invariant.keeps) in
    let long : length_of (list_after (once_index params) h order) ≤ length_of h + 64 = after_long Once (once_index params) h order one in
    record {
      list = list_after (once_index params) h order;
      keeps = keeps;
      same = c.reply.ensures.params ∙ c.loop-command.invariant.same;
      counts = omega (arith, c.loop-command.invariant.counts);
      few = (let few = c.loop-command.invariant.few in let before = c.loop-command.invariant.keeps.stands.at in let after = keeps.stands.at in omega (arith, few, long, before, after));
      whole = text_on (once_index params) c.args.name.now c.loop-command.number h (list_after (once_index params) h order) order (drop i (map order_of c.args.commands.now)) (drop (i + 1) (map order_of c.args.commands.now)) c.in_ok-reply.reply _ _ _ (next_order c.args.commands.now i c.command-item.result c.loop-command-test.true c.command-item.is) is refl c.in_ok-line.ensures.ok c.loop-command.invariant.whole;
    }

abbrev pub loop-command-init : goal.loop-command-init
loop-command-init c =
    let params : Params = c.args.session.now.params in
    record {
      list = empty_list;
      keeps = c.requires.fresh;
      same = refl;
      counts = omega arith;
      few = (let none = c.requires.fresh.stands.at in omega (arith, none));
      whole = ap (λ (t : List ℕ). t ++ lines_from (once_index params) c.args.name.now 1 empty_list (map order_of c.args.commands.now)) c.new-transcript.ensures;
    }

pub returns : goal.returns
returns c =
    c.in_ok-last.ensures.ok
    ∙ ends c.args.session.now.params c.args.name.now (map order_of c.args.commands.now) c.loop-command.command-index c.loop-command.number c.loop-command.session c.loop-command.transcript c.entries.result c.live.result (let over = c.loop-command-test.false in let size = length-map c.args.commands.now order_of in omega (arith, over, size)) c.loop-command.invariant c.entries.ensures (c.live.ensures c.loop-command.invariant.list c.loop-command.invariant.keeps)
