use Rattle.std.proofs.Common.{refl, ap, ◌∙◌, map}
use Rattle.ann_beam.specs.Ranking.{RankingView, hit_of}
use Rattle.ann_once.proofs.Searching.{reply_is}
use Rattle.ann_once.proofs.session.Session.search.Goals as goal

pub returns-in_ok-copied-in-Ok-clause-reply : goal.returns-in_ok-copied-in-Ok-clause-reply
returns-in_ok-copied-in-Ok-clause-reply c h keeps =
    reply_is h c.args.self.now c.args.ask.now c.entries.result c.in_ok-copied-in-Ok.field-0 keeps c.known.ensures.memory.lti (c.in-Ok.ensures.fits.0 refl) c.entries.ensures
    (c.in_ok-copied-in-Ok.ensures ∙ c.hits.ensures.hits ∙ ap (λ (r : RankingView). map hit_of r.points) c.in-Ok.ensures.near)
