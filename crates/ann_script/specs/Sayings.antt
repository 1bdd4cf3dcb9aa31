-- What reading a line gives.
use Rattle.std.specs.Prelude.{◌≡◌, true, Result, Ok, Err}
use Rattle.std.specs.List.{list_all}
use Rattle.ann_script.specs.Order.{order_of}
use Rattle.ann_script.specs.Grammar as grammar
use Rattle.ann_script.specs.declared.parse.Saying.{Saying}
use Rattle.ann_script.specs.declared.parse.Saying.TheVariants.{Silent, Says}
use Rattle.ann_script.specs.declared.parse_refused.ParseRefused.{ParseRefused}
use Rattle.ann_script.specs.declared.parse_refused.ParseRefused.TheVariants.{Fault, Memory}

-- what was read of a line is what the grammar says of it; the bytes of a name are those of names
abbrev pub SaysLine : Result Saying ParseRefused → grammar.Line → Type 0
SaysLine (Ok Silent) line = line ≡ grammar.Silent
SaysLine (Ok (Says name command)) line = (line ≡ grammar.Says name.now (order_of command)) × (list_all grammar.is_name_byte name.now ≡ true)
SaysLine (Err Fault) line = line ≡ grammar.Bad
SaysLine (Err (Memory e)) line = Unit {0}
