use Rattle.std.proofs.Common.{◌≡◌, ◌++◌, ◌∷◌, [], ℕ, sym, ◌∙◌, ap}
use Rattle.ann_types.specs.Lists.{BasedList, with_entry}
use Rattle.ann_line.specs.History.{line, key_after, listed}
use Rattle.ann_line.proofs.Listed.{added_line, added_key, listed_more, length_more}
use Rattle.ann_line.proofs.Steps.{goes_on}
use Rattle.ann_line.proofs.keeper.Keeper.add_noted.Goals as goal

pub compare_exchange-found-requires : goal.compare_exchange-found-requires
compare_exchange-found-requires g c =
    let h = c.self.invariant.5 in
    let offer = c.plain-offer.ensures in
    let i = c.self.invariant in (
      ap (λ w. w.tracked) h,
      c.new_key-next.ensures.seen.0 ∙ (i.1 ∙ sym (ap (λ w. w.book) h)),
      i.2 ∙ sym (ap (λ w. w.book) h),
      offer.0,
      rw (ap (λ w. w.key) h, offer.3) (goes_on c.new_key-next.new.seen.log c.plain-offer.result.ask c.self.inside.pen.nib i.3),
    )

pub invariant_of-self : goal.invariant_of-self
invariant_of-self g c =
    let opening : BasedList = g.N.ListName.opening in
    let root : ℕ = g.N.ListName.origin.root in
    let i = c.self.invariant in
    let mine = c.self.inside.seen.log in
    let new = c.compare_exchange-found.new.seen.log in
    let e = c.compare_exchange-found.ensures.7 in
    let key = c.self.inside.pen.nib.key in
    let next = c.new_key-next.result.nib.key in
    let ask = c.plain-offer.result.ask in
    let entry = c.args.entry.now.value in
    let long : line root new ≡ line root mine ++ entry ∷ [] = added_line root mine c.new_key-next.new.seen.log e.0 new key next entry ask i.4 c.new_key-next.ensures.seen.1 e.1 e.2 c.plain-offer.ensures.1 e.3 in
    let last : key_after root new ≡ next = added_key root mine c.new_key-next.new.seen.log e.0 new key next entry ask i.4 c.new_key-next.ensures.seen.1 e.1 e.2 c.plain-offer.ensures.1 e.3 in (
      length_more (listed opening root mine) (listed opening root new) entry c.self.inside.at (listed_more opening root mine new entry long) i.0,
      c.compare_exchange-found.ensures.0 ∙ (c.new_key-next.ensures.seen.0 ∙ i.1),
      c.new_key-next.ensures.pen.0 ∙ i.1,
      c.new_key-next.ensures.pen.1,
      sym last,
      i.5,
    )

pub returns : goal.returns
returns g c =
    let opening : BasedList = g.N.ListName.opening in
    let root : ℕ = g.N.ListName.origin.root in
    let mine = c.self.inside.seen.log in
    let new = c.compare_exchange-found.new.seen.log in
    let e = c.compare_exchange-found.ensures.7 in
    let entry = c.args.entry.now.value in
    let long : line root new ≡ line root mine ++ entry ∷ [] =
    added_line root mine c.new_key-next.new.seen.log e.0 new c.self.inside.pen.nib.key c.new_key-next.result.nib.key entry c.plain-offer.result.ask c.self.invariant.4 c.new_key-next.ensures.seen.1 e.1 e.2
    c.plain-offer.ensures.1 e.3 in
    listed_more opening root mine new entry long ∙ ap (λ (h : BasedList). with_entry h entry) c.self.view_is
