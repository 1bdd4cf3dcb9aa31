use Rattle.ann_types.specs.Lists.{empty_list}
use Rattle.ann_line.proofs.tests.a_front_stays_while_the_list_grows.Given as goal

abbrev pub ghosts-lengths : goal.ghosts-lengths
ghosts-lengths g a = record { origin = a.opened; opening = empty_list }
