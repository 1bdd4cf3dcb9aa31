use Rattle.std.proofs.Common.{◌∙◌}
use Rattle.ann_once.proofs.Sessions.{live_count}
use Rattle.ann_once.proofs.session.Session.live.Goals as goal

pub returns : goal.returns
returns c h keeps = c.count.ensures ∙ live_count h c.args.self.now keeps
