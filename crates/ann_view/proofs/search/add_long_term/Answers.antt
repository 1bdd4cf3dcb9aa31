use Rattle.std.proofs.Common.{refl}
use Rattle.std.specs.Arc.{arc_value}
use Rattle.std.specs.Option.{option_map}
use Rattle.ann_beam.proofs.Searches.{searched_none}
use Rattle.ann_view.proofs.search.add_long_term.Goals as goal

-- with no segment there is no long-term point
pub returns-in_default-clause-searched : goal.returns-in_default-clause-searched
returns-in_default-clause-searched g c =
    searched_none _ _ c.args.params.now c.args.book.now (g.D.Deleted.pids c.args.dead.now) c.args.ask.now.vector c.args.ask.now.l (option_map arc_value c.args.segment.now) _ tt (rw c.in_default.is refl)
