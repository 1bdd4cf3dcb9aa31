use Rattle.std.proofs.Common.{sym, ap, ◌∙◌}
use Rattle.ann_pool.specs.Pool.{PoolView}
use Rattle.ann_beam.proofs.Beams.{searched_by}
use Rattle.ann_beam.proofs.search.beam.Goals as goal

pub returns-in-Some-clause-searched : goal.returns-in-Some-clause-searched
returns-in-Some-clause-searched g c =
    searched_by _ _ c.args.segment.now c.args.params.now c.args.book.now (g.D.Deleted.pids c.args.dead.now) c.args.ask.now.vector c.bytes-query.result.now c.args.ask.now.l c.clear.new.self.limit c.in-Some.entry c.fill.new.self _ _ c.make_rounds.result
    (c.known.ensures.book.count ∙ c.requires.book.1) (sym c.in-Some.ensures) c.bytes-query.ensures.components (ap (λ (p : PoolView). p.limit) c.clear.ensures)
    c.fill.ensures.tables (c.fill.ensures.parts ∙ sym c.known.ensures.book.count) c.make_rounds.ensures.gone c.make_rounds.ensures.visits
