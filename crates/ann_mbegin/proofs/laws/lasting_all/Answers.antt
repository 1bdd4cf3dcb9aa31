use Rattle.ann_mbegin.proofs.Lasts.{job_lasts_all, lti_lasts_all}
use Rattle.ann_mbegin.proofs.laws.lasting_all.Goals as goal

pub returns-clause-job : goal.returns-clause-job
returns-clause-job g c index h es order = job_lasts_all index h es order

pub returns-clause-lti : goal.returns-clause-lti
returns-clause-lti g c index h es order = lti_lasts_all g.S.Sealed.bytes index h es order
