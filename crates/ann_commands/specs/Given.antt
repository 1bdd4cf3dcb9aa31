-- What the words of a command give, as the code holds it.
use Rattle.ann_commands.specs.Words.{Setting, Keeping}
use Rattle.ann_commands.specs.declared.words.Graph.{Graph}
use Rattle.ann_commands.specs.declared.words.Kept.{Kept}

abbrev pub setting_in : Graph → Setting
setting_in g = record { d = g.d; r = g.r; l_build = g.l_build; a = g.a; b = g.b }

abbrev pub keeping_in : Kept → Keeping
keeping_in k = record { w = k.w; m = k.m; freeze_at = k.freeze_at }
