use Rattle.ann_mlaws.proofs.Merged.{is_merge_plan}
use Rattle.ann_mlaws.proofs.Planned.{is_plan}
use Rattle.ann_mlaws.proofs.planning.Goals as goal

pub returns-clause-sound : goal.returns-clause-sound
returns-clause-sound g c index dead old points plan entry may planned =
    is_plan g.S.Sealed.tells g.S.Sealed.bytes index dead old points plan entry may planned

pub returns-clause-merged : goal.returns-clause-merged
returns-clause-merged g c told index dead old points plan entry lti may planned held =
    is_merge_plan g.S.Sealed.tells g.S.Sealed.bytes index dead old points plan entry may planned lti told held
