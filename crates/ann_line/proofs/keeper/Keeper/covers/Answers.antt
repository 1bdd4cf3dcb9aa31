use Rattle.std.proofs.Common.{ℕ, sym, ◌∙◌, ap}
use Rattle.ann_types.specs.Lists.{BasedList, length_of}
use Rattle.ann_line.specs.History.{line}
use Rattle.ann_line.proofs.Begins.{begins_on}
use Rattle.ann_line.proofs.Lines.{line_prefix}
use Rattle.ann_line.proofs.Listed.{whole_list, whole_key}
use Rattle.ann_line.proofs.Prefixes.{prefix_trans}
use Rattle.ann_line.proofs.Steps.{stays}
use Rattle.ann_line.proofs.keeper.Keeper.covers.Goals as goal

pub compare_exchange-found-requires : goal.compare_exchange-found-requires
compare_exchange-found-requires g c =
    let h = c.self.invariant.5 in
    let offer = c.plain-offer.ensures in
    let i = c.self.invariant in (
      ap (λ w. w.tracked) h,
      c.learn.ensures.0 ∙ (i.1 ∙ sym (ap (λ w. w.book) h)),
      i.2 ∙ sym (ap (λ w. w.book) h),
      offer.0,
      rw (ap (λ w. w.key) h, offer.3) (stays c.learn.new.self.log c.plain-offer.result.ask c.self.inside.pen.nib i.3),
    )

pub invariant_of-self : goal.invariant_of-self
invariant_of-self g c =
    let opening : BasedList = g.N.ListName.opening in
    let root : ℕ = g.N.ListName.origin.root in
    let i = c.self.invariant in
    let mine = c.self.inside.seen.log in
    let learned = c.learn.new.self.log in
    let new = c.compare_exchange-found.new.seen.log in
    let e = c.compare_exchange-found.ensures in (
      i.0 ∙ ap length_of (sym (whole_list root mine learned new c.self.inside.pen.nib.key i.4 c.learn.ensures.2 e.6 e.7.1 opening)),
      e.0 ∙ (c.learn.ensures.0 ∙ i.1),
      e.5 ∙ i.2,
      ap (λ p. p.right) e.7.0 ∙ i.3,
      ap (λ p. p.key) e.7.0 ∙ whole_key root mine learned new c.self.inside.pen.nib.key i.4 c.learn.ensures.2 e.6 e.7.1,
      i.5,
    )

pub returns-clause-same : goal.returns-clause-same
returns-clause-same g c =
    let e = c.compare_exchange-found.ensures in
    whole_list g.N.ListName.origin.root c.self.inside.seen.log c.learn.new.self.log c.compare_exchange-found.new.seen.log c.self.inside.pen.nib.key c.self.invariant.4 c.learn.ensures.2 e.6 e.7.1 g.N.ListName.opening ∙ c.self.view_is

pub returns-clause-begins : goal.returns-clause-begins
returns-clause-begins g c =
    let root : ℕ = g.N.ListName.origin.root in
    let new = c.compare_exchange-found.new.seen.log in
    let theirs = c.front.inside.seen.log in
    rw (← c.front.view_is) (begins_on g.N.ListName.opening (line root theirs) (line root new) (line_prefix root theirs new (prefix_trans theirs c.learn.new.self.log new c.learn.ensures.3 c.compare_exchange-found.ensures.6)))
