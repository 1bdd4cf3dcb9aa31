-- The commands of a client of a script are such as are served.
use Rattle.std.proofs.Common.{◌≡◌, ℕ, zero, suc, ◌<◌, ◌≤◌, List, [], ◌∷◌, ap, sym, subst, arith, length, map, All}
use Rattle.std.specs.Prelude.{IfSome}
use Rattle.std.specs.List.{AllByRecursion, slice_get}
use Rattle.std.proofs.lemmas.List.{length-map}
use Rattle.ann_script.specs.Allowed.{IsOrderOf, IsClientOf}
use Rattle.ann_script.specs.Order.{order_of}
use Rattle.ann_script.specs.Script.{Client}
use Rattle.ann_script.specs.declared.command.Command.{Command}
use Rattle.ann_script.specs.declared.verbs.Verbs.{Verbs}

-- these commands are a client's
abbrev AreOf : List Command → Client → Type 0
AreOf commands client = map order_of commands ≡ client.orders

each_order : (verbs : Verbs) (commands : List Command) → AllByRecursion (IsOrderOf verbs) (map order_of commands) → All (λ command. IsOrderOf verbs (order_of command)) commands
each_order verbs [] all i d within = absurd (omega arith)
each_order verbs (command ∷ commands) all zero d within = all.0
each_order verbs (command ∷ commands) all (suc i) d within = each_order verbs commands all.1 i d (omega arith)

pub client_orders : (verbs : Verbs) (most : ℕ) (script : List Client) (i : ℕ) (commands : List Command) → i < length script → AllByRecursion (IsClientOf verbs most) script → IfSome (slice_get script i) (AreOf commands) → All (λ command. IsOrderOf verbs (order_of command)) commands
client_orders verbs most [] i commands within clients is = absurd (omega arith)
client_orders verbs most (client ∷ others) zero commands within clients is = each_order verbs commands (subst (AllByRecursion (IsOrderOf verbs)) (sym is) clients.0.orders)
client_orders verbs most (client ∷ others) (suc i) commands within clients is = client_orders verbs most others i commands (omega arith) clients.1 is

pub client_short : (verbs : Verbs) (most : ℕ) (script : List Client) (i : ℕ) (commands : List Command) → i < length script → AllByRecursion (IsClientOf verbs most) script → IfSome (slice_get script i) (AreOf commands) → length commands ≤ most
client_short verbs most [] i commands within clients is = absurd (omega arith)
client_short verbs most (client ∷ others) zero commands within clients is = omega (arith, length-map commands order_of, ap length is, clients.0.short)
client_short verbs most (client ∷ others) (suc i) commands within clients is = client_short verbs most others i commands (omega arith) clients.1 is
