use Rattle.std.proofs.Common.{◌≡◌, length}
use Rattle.std.specs.List.{AllByRecursion}
use Rattle.ann_commands.proofs.place.doors.Given as goal

abbrev pub invariant-loop : goal.invariant-loop
invariant-loop l = record {
  count : length l.doors.items ≡ l.counter;
  unrefused : AllByRecursion (λ refused. refused ≡ 0) l.doors.items;
}
