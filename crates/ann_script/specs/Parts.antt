-- The client that a part of a script in memory stands for.
use Rattle.std.specs.Prelude.{map, string_bytes}
use Rattle.ann_script.specs.Order.{order_of}
use Rattle.ann_script.specs.Script.{Client}
use Rattle.ann_script.specs.declared.script.Part.{Part}

-- the client that a part of a script stands for
abbrev pub client_of : Part → Client
client_of part = record { name = string_bytes part.name; orders = map order_of part.commands.items }
