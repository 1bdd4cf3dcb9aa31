use Rattle.std.proofs.Common.{refl}
use Rattle.ann_commands.proofs.Sound.{soundly}
use Rattle.ann_commands.proofs.run.make_index.Goals as goal

pub returns-clause-ended : goal.returns-clause-ended
returns-clause-ended g c = record {
  before = record { first = c.in-Some-Some.first; second = c.in-Some-Some.second };
  after = c.init-result.result.files;
  files = record {
    log_was = cc (c.take.ensures.value, c.in-Some-Some.is-0, c.in-Some-Some.ensures.value, c.in-Some-Some.first-is);
    second_was = cc (c.take-2.ensures.value, c.in-Some-Some.is-1, c.in-Some-Some.ensures'.value);
    is = refl;
  };
  made = c.init-result.ensures.made;
  sound = soundly g.F.LogFile c.args.params.now _ _ _ c.init-result.result.files c.init-result.result.result c.init-result.ensures.made;
  refused = c.init-result.ensures.refused;
  stores = c.init-result.ensures.stores;
}
