use Rattle.std.proofs.Common.{◌≡◌, refl}
use Rattle.std.specs.Prelude.{Some, drop}
use Rattle.std.specs.Vec.{with_item}
use Rattle.ann_commands.proofs.Eyes.{first_of, first_set, eyes_of}
use Rattle.ann_commands.proofs.check.check_index.Goals as goal

pub returns-clause-ended : goal.returns-clause-ended
returns-clause-ended g c =
    let eyes = c.in-Some-Some-2.eyes in
    let were : c.args.place.now.worker_eyes ≡ Some eyes = cc (c.take-4.ensures.value, c.in-Some-Some-2.is-1, c.in-Some-Some-2.ensures'.value, c.in-Some-Some-2.vault-is) in
    let many = eyes_of c.args.place.now.worker_eyes eyes were c.requires.worker_eyes in
    record {
      before = record { first = c.in-Some-Some.first; second = c.in-Some-Some.second };
      after = c.inspect-result.new.files;
      vault = c.in-Some-Some-2.vault;
      vault' = c.inspect-result.new.vault;
      eye = c.index_mut.result.now;
      eye' = c.inspect-result.new.eye;
      parts = record {
        rest = drop 1 eyes.items;
        eyes = eyes;
        eyes' = with_item eyes 0 c.inspect-result.new.eye;
        log_was = cc (c.take.ensures.value, c.in-Some-Some.is-0, c.in-Some-Some.ensures.value, c.in-Some-Some.first-is);
        second_was = cc (c.take-2.ensures.value, c.in-Some-Some.is-1, c.in-Some-Some.ensures'.value, c.in-Some-Some.first-is);
        vault_was = cc (c.take-3.ensures.value, c.in-Some-Some-2.is-0, c.in-Some-Some-2.ensures.value, c.in-Some-Some-2.vault-is);
        eyes_were = were;
        first_was = first_of eyes.items c.index_mut.result.now many c.index_mut.ensures.value;
        first_is = first_set eyes.items c.inspect-result.new.eye many;
        is = refl;
      };
      inspected = c.inspect-result.ensures.inspected;
      refused = c.inspect-result.ensures.refused;
      never_bad = c.inspect-result.ensures.never_bad;
      same = c.inspect-result.ensures.same;
      held = c.inspect-result.ensures.held;
      stores = c.inspect-result.ensures.cause;
    }
