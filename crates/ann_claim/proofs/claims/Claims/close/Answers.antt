use Rattle.std.proofs.Common.{rules, true, ◌≡◌, ℕ, ◌+◌, ◌++◌, List, sym, ap, ◌∙◌, append_assoc, arith}
use Rattle.ann_claim.specs.Claims.{Lot, Drawer, all_drawn}
use Rattle.ann_claim.proofs.Claimers.{popped, length_last, one_ended, all_drawn_last}
use Rattle.ann_claim.proofs.Steps.{joins, settles}
use Rattle.ann_claim.proofs.claims.Claims.close.Goals as goal

pub loop-next-init : goal.loop-next-init
loop-next-init c =
    let items = c.in-Some.ensures.items in
    let own = popped (λ (d : Drawer). d.lot ≡ c.args.self) c.args.claimers.items c.pop.new.self.items c.in-Some.last items c.requires.own in
    let done = popped (λ (d : Drawer). d.ended ≡ true) c.args.claimers.items c.pop.new.self.items c.in-Some.last items c.requires.ended in
    let is = c.last.view_is in
    let lot = ap (λ (d : Drawer). d.lot) is ∙ own.1 ∙ sym c.self.view_is in
    let ended = one_ended _ _ c.last.invariant.2 (ap (λ (d : Drawer). d.ended) is ∙ done.1) in
    let share = c.last.invariant.1 in
    let seats = ap (λ (l : Lot). l.seats) c.self.view_is in
    let count = length_last _ _ _ items in
    let all = c.requires.all in (
      ap (λ (l : Lot). l.table_id) lot,
      c.last.invariant.0,
      ap (λ (l : Lot). l.numbers) lot,
      ap (λ (l : Lot). l.seats) lot,
      ended ∙ sym share,
      omega arith,
      omega arith,
      ap (λ (d : Drawer). all_drawn c.pop.new.self.items ++ d.drawn) is ∙ sym (ap all_drawn items ∙ all_drawn_last c.pop.new.self.items c.in-Some.last),
      own.0,
      done.0,
    )

pub join_seat-requires : goal.join_seat-requires
join_seat-requires c =
    let own = popped (λ (d : Drawer). d.lot ≡ c.args.self) c.loop-next.rest.items c.pop-in-loop-next.new.self.items c.in-Some-pop.next c.in-Some-pop.ensures.items c.loop-next.invariant.8 in
    let lot = ap (λ (d : Drawer). d.lot) c.next.view_is ∙ own.1 ∙ sym c.self.view_is in
    (search rules, ap (λ (l : Lot). l.table_id) lot, search rules, search rules, joins _ _ _ _ _ c.loop-next.invariant.6)

pub loop-next-preserved : goal.loop-next-preserved
loop-next-preserved c =
    let items = c.in-Some-pop.ensures.items in
    let was = c.loop-next.invariant in
    let rest = c.pop-in-loop-next.new.self.items in
    let own = popped (λ (d : Drawer). d.lot ≡ c.args.self) c.loop-next.rest.items rest c.in-Some-pop.next items was.8 in
    let done = popped (λ (d : Drawer). d.ended ≡ true) c.loop-next.rest.items rest c.in-Some-pop.next items was.9 in
    let is = c.next.view_is in
    let now = c.join_seat.ensures.2 in
    let ended = one_ended _ _ c.next.invariant.2 (ap (λ (d : Drawer). d.ended) is ∙ done.1) in
    let share = c.next.invariant.1 in
    let count = length_last _ _ _ items in
    let shares : c.join_seat.new.seat.me.0.shares ≡ c.next.inside.seat.me.0.shares + c.loop-next.seat.me.0.shares = ap (λ m. m.0.shares) now in
    let ends : c.join_seat.new.seat.me.0.ended ≡ c.next.inside.seat.me.0.ended + c.loop-next.seat.me.0.ended = ap (λ m. m.0.ended) now in
    let drawn : c.join_seat.new.seat.me.0.drawn ≡ c.next.inside.seat.me.0.drawn ++ c.loop-next.seat.me.0.drawn = ap (λ m. m.0.drawn) now in (
      c.join_seat.ensures.0 ∙ was.0,
      ap (λ m. m.1) now ∙ was.1,
      ap (λ m. m.0.numbers) now ∙ was.2,
      ap (λ m. m.0.seats) now ∙ was.3,
      omega arith,
      omega arith,
      omega arith,
      ap (λ (l : List ℕ). all_drawn rest ++ l) (drawn ∙ ap (λ (d : Drawer). d.drawn ++ c.loop-next.seat.me.0.drawn) is) ∙ sym (append_assoc (all_drawn rest) _ _)
          ∙ ap (λ (l : List ℕ). l ++ c.loop-next.seat.me.0.drawn) (sym (ap all_drawn items ∙ all_drawn_last rest c.in-Some-pop.next)) ∙ was.7,
      own.0,
      done.0,
    )

pub load-requires : goal.load-requires
load-requires c = (search rules, search rules, settles _ _ _ _ c.loop-next.invariant.6)
