use Rattle.std.proofs.Common.{rules, sym, subst, ap, ◌∙◌, arith, set}
use Rattle.std.specs.Prelude.{slice_get}
use Rattle.ann_tally.specs.declared.numbers.Numbers.{Numbers}
use Rattle.ann_tally.specs.Rule.{half, numbered, numbers_of, HasAll}
use Rattle.ann_tally.specs.Tally.{Book}
use Rattle.ann_tally.proofs.Chits.{joined, stays, agreed}
use Rattle.ann_tally.proofs.Lists.{one_each, length_numbers_set}
use Rattle.ann_tally.proofs.Steps.{splits, joins, puts}
use Rattle.ann_tally.proofs.tally.Tally.exchange.Goals as goal

pub join_seat-requires : goal.join_seat-requires
join_seat-requires g c = (search rules, c.requires.own ∙ sym (ap (λ (b : Book). b.roll.table_id) c.self.view_is), ap (λ m. m.1) c.requires.one, search rules, joins _ _ _ _ _)

pub load-requires : goal.load-requires
load-requires g c =
    let ns = c.self.inside.numbers.items in
    let told = numbers_of c.args.half.me.0 in
    let j = joined ns c.self.inside.seat.me c.args.half.me.0 c.join_seat.new.seat.me c.args.self.now.roll.clients c.args.client told c.self.invariant.2 (ap (λ m. m.0) c.requires.one) c.join_seat.ensures.2 in
    let key = ap (λ (b : Book). b.roll.clients) c.self.view_is in
    let below = c.requires.below in
    let long = c.self.invariant.3 in
    (search rules, search rules, puts _ _ _ _ (half c.args.client told) (numbered 0 ns) g.N.Setting.numbers (ap (λ m. m.0.halves) j) (one_each c.args.client 0 ns (omega arith) (omega arith)))

pub split_seat-requires : goal.split_seat-requires
split_seat-requires g c = (search rules, search rules, splits _ _ _)

pub invariant_of-self : goal.invariant_of-self
invariant_of-self g c =
    let ns = c.self.inside.numbers.items in
    let told = numbers_of c.args.half.me.0 in
    let m = g.N.Setting.numbers in
    let j = joined ns c.self.inside.seat.me c.args.half.me.0 c.join_seat.new.seat.me c.args.self.now.roll.clients c.args.client told c.self.invariant.2 (ap (λ m. m.0) c.requires.one) c.join_seat.ensures.2 in
    let left = stays ns c.join_seat.new.seat.me c.load.new.seat.me c.split_seat.new.seat.me c.args.client told m j c.load.ensures.2.0 c.split_seat.ensures.2 in (
      c.self.invariant.0,
      c.split_seat.ensures.0 ∙ c.load.ensures.0 ∙ c.join_seat.ensures.0 ∙ c.self.invariant.1,
      subst (λ (x : Numbers). HasAll (set ns c.args.client x) c.split_seat.new.seat.me) (sym c.requires.setting) left,
      length_numbers_set ns c.args.client c.args.numbers ∙ c.self.invariant.3,
    )

pub returns-clause-agree : goal.returns-clause-agree
returns-clause-agree g c =
    let ns = c.self.inside.numbers.items in
    let told = numbers_of c.args.half.me.0 in
    let j = joined ns c.self.inside.seat.me c.args.half.me.0 c.join_seat.new.seat.me c.args.self.now.roll.clients c.args.client told c.self.invariant.2 (ap (λ m. m.0) c.requires.one) c.join_seat.ensures.2 in
    let key = ap (λ (b : Book). b.roll.clients) c.self.view_is in
    let below = c.requires.below in
    let long = c.self.invariant.3 in
    ap (λ (b : Book). slice_get b.numbers c.args.client) (sym c.self.view_is) ∙ agreed ns c.join_seat.new.seat.me c.args.client told j c.load.ensures.2.1 (omega arith)
