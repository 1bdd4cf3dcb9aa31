use Rattle.ann_kept.proofs.Ends.{kept_ended}
use Rattle.ann_kept.proofs.ended.ending.Goals as goal

pub returns : goal.returns
returns g c index h order segment held by told book legal small job lti done =
    kept_ended g.S.Sealed.tells g.S.Sealed.bytes index h order segment held by told book legal small job lti done
