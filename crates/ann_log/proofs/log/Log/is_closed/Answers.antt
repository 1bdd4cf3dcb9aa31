use Rattle.std.proofs.Common.{subst}
use Rattle.ann_log.specs.LogView.{held_of, files_of, counted}
use Rattle.ann_log.specs.Pairs.{EachPair}
use Rattle.ann_log.specs.Text.{StandsFor, said_in}
use Rattle.ann_log.proofs.AtRest.{each_stands}
use Rattle.ann_log.proofs.log.Log.is_closed.Goals as goal

pub returns-clause-images : goal.returns-clause-images
returns-clause-images g c told is_open =
    let D = g.F.LogFile in
    let i = c.self.inside in
    let sound = c.self.invariant.0 in
    subst (λ view. EachPair D.unsynced (StandsFor (held_of view)) (files_of view)) c.self.view_is
    (each_stands D.seen D.unsynced i.side i.log i.other
    (record { params = i.params; book = i.book; base = i.base; entries = counted (said_in i.params i.book i.base i.generation) i.count (D.seen i.log) }) i.generation i.gate (sound.rest told is_open))
