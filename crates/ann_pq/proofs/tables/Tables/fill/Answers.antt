use Rattle.std.proofs.Common.{◌≤◌, ℕ, List, length, get_or, arith, sym, ap, subst, ◌∙◌}
use Rattle.std.specs.Vec.{with_items}
use Rattle.std.proofs.lemmas.List.{with_items_is}
use Rattle.ann_pq.specs.Tables.{AreTablesOf}
use Rattle.ann_pq.specs.Tabled.{tables_in}
use Rattle.ann_pq.proofs.Sums.{length_tables_in}
use Rattle.ann_pq.proofs.tables.Tables.fill.Goals as goal

pub invariant_of-self : goal.invariant_of-self
invariant_of-self c =
    let room = c.fill_each.ensures.room in
    let size = c.self.invariant.1 in
    let same = c.self.inside.sums.ok.0 in
    let few = c.known.ensures.sizes.parts.1 in
    let m = c.m-self-inside.ensures in
    let items = with_items_is c.self.inside.sums c.fill_each.new.sums (omega arith) in
    (omega arith, ap length items ∙ room, λ place. subst (λ (xs : List ℕ). get_or xs place 0 ≤ 66585600) (sym items) (c.fill_each.ensures.small place))

pub returns-clause-tables : goal.returns-clause-tables
returns-clause-tables c =
    let room = c.fill_each.ensures.room in
    let size = c.self.invariant.1 in
    let same = c.self.inside.sums.ok.0 in
    let items = with_items_is c.self.inside.sums c.fill_each.new.sums (omega arith) in
    subst (λ (xs : List ℕ). AreTablesOf c.args.book.now.book c.args.query.now (tables_in c.m-self-inside.result xs)) (sym items)
    (subst (λ (m : ℕ). AreTablesOf c.args.book.now.book c.args.query.now (tables_in m c.fill_each.new.sums)) (sym c.m-self-inside.ensures) c.fill_each.ensures.tables)

pub returns-clause-parts : goal.returns-clause-parts
returns-clause-parts c = length_tables_in c.m-self-inside.result (with_items c.self.inside.sums c.fill_each.new.sums).items ∙ c.m-self-inside.ensures
