use Rattle.std.proofs.Common.{◌≡◌, ◌∙◌, ◌+◌, ◌++◌, ◌∷◌, [], ℕ, List, false, length, take, sym, ap, subst, arith, length-append}
use Rattle.ann_types.specs.Order.{has}
use Rattle.ann_dead.specs.Pids.{with_pid, union_of, IsAscending}
use Rattle.ann_dead.specs.Dead.{total, AreDigits}
use Rattle.ann_dead.proofs.Sets.{with_present, ascending_union_of}
use Rattle.ann_dead.proofs.Runs.{one_more, union_of_one_more, grown, runs_append, runs_take}
use Rattle.ann_dead.proofs.dead.Dead.add.Goals as goal

pub returns-then-contains-clause-added : goal.returns-then-contains-clause-added
returns-then-contains-clause-added c =
    let up : IsAscending c.args.self.now = subst IsAscending c.self.view_is (ascending_union_of c.self.inside.runs.items) in
    sym (with_present c.args.pid c.args.self.now (sym c.contains.ensures ∙ c.if-contains.true) up)

pub carry-requires-clause-new : goal.carry-requires-clause-new
carry-requires-clause-new c =
    let rs = c.self.inside.runs.items in
    let absent : has (union_of rs) c.args.pid ≡ false = ap (λ l. has l c.args.pid) c.self.view_is ∙ sym c.contains.ensures ∙ c.if-contains.false in
    subst (λ (l : List (List ℕ)). length (union_of (l ++ (c.args.pid ∷ []) ∷ [])) ≡ total l + 1) (sym c.as_slice.ensures) (one_more rs c.args.pid c.self.invariant.apart absent)

pub push_reserved-requires : goal.push_reserved-requires
push_reserved-requires c =
    let cap = c.self.inside.runs.capacity in
    let rs = c.as_slice.result.now in
    let h : AreDigits cap rs = subst (AreDigits cap) (sym c.as_slice.ensures) c.self.invariant in
    let absent : has (union_of rs) c.args.pid ≡ false = ap (λ l. has (union_of l) c.args.pid) c.as_slice.ensures ∙ ap (λ l. has l c.args.pid) c.self.view_is ∙ sym c.contains.ensures ∙ c.if-contains.false in
    let made = c.in_ok-kept.ensures in
    let front = take c.in_ok-kept.kept rs in
    let runs = runs_append front (c.in_ok-kept.last ∷ []) (runs_take c.in_ok-kept.kept rs h.sorted) (made.run, tt) in
    let few = (grown cap cap c.args.pid rs (front ++ c.in_ok-kept.last ∷ []) h h.room absent runs made.pids made.total made.sizes).1 in
    let count : length c.truncate.new.self.items ≡ length front = ap length c.truncate.ensures.items ∙ ap (λ l. length (take c.in_ok-kept.kept l)) (sym c.as_slice.ensures) in
    let room = h.room in
    let same = c.truncate.ensures.capacity in
    let long = length-append front (c.in_ok-kept.last ∷ []) in
    (omega arith, omega arith)

pub invariant_of-self : goal.invariant_of-self
invariant_of-self c =
    let cap = c.self.inside.runs.capacity in
    let rs = c.as_slice.result.now in
    let h : AreDigits cap rs = subst (AreDigits cap) (sym c.as_slice.ensures) c.self.invariant in
    let absent : has (union_of rs) c.args.pid ≡ false = ap (λ l. has (union_of l) c.args.pid) c.as_slice.ensures ∙ ap (λ l. has l c.args.pid) c.self.view_is ∙ sym c.contains.ensures ∙ c.if-contains.false in
    let made = c.in_ok-kept.ensures in
    let front = take c.in_ok-kept.kept rs in
    let new = front ++ c.in_ok-kept.last ∷ [] in
    let runs = runs_append front (c.in_ok-kept.last ∷ []) (runs_take c.in_ok-kept.kept rs h.sorted) (made.run, tt) in
    let digits = (grown cap cap c.args.pid rs new h h.room absent runs made.pids made.total made.sizes).0 in
    let items : c.push_reserved.new.self.items ≡ new = c.push_reserved.ensures.items ∙ ap (λ l. l ++ c.in_ok-kept.last ∷ []) (c.truncate.ensures.items ∙ ap (take c.in_ok-kept.kept) (sym c.as_slice.ensures)) in
    subst (AreDigits c.push_reserved.new.self.capacity) (sym items) (subst (λ (n : ℕ). AreDigits n new) (sym (c.push_reserved.ensures.capacity ∙ c.truncate.ensures.capacity)) digits)

pub returns-clause-added : goal.returns-clause-added
returns-clause-added c =
    let rs = c.as_slice.result.now in
    let items = c.push_reserved.ensures.items ∙ ap (λ l. l ++ c.in_ok-kept.last ∷ []) (c.truncate.ensures.items ∙ ap (take c.in_ok-kept.kept) (sym c.as_slice.ensures)) in
    ap union_of items ∙ c.in_ok-kept.ensures.pids ∙ union_of_one_more rs c.args.pid ∙ ap (λ l. with_pid c.args.pid (union_of l)) c.as_slice.ensures ∙ ap (with_pid c.args.pid) c.self.view_is
