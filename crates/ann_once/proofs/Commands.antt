-- The commands of a client, one after the other.
use Rattle.std.proofs.Common.{◌≡◌, ℕ, zero, suc, ◌+◌, ◌<◌, ◌≤◌, List, [], ◌∷◌, ◌++◌, refl, sym, ap, subst, ◌∙◌, arith, length, map, drop, get_or, All}
use Rattle.std.specs.List.{AllByRecursion, slice_get}
use Rattle.std.specs.Prelude.{Option, None, Some, IfSome}
use Rattle.std.proofs.lemmas.List.{drop_more, get_or-map, length-map, length-append, append_assoc}
use Rattle.ann_types.specs.Index.{Index}
use Rattle.ann_types.specs.Judge.{Refusal, judge_all, entry_of}
use Rattle.ann_types.specs.Lists.{BasedList, length_of}
use Rattle.ann_types.specs.declared.change.Change.{Change}
use Rattle.ann_script.specs.Order.{Order, Apply, Find, Merge, Fill, order_of}
use Rattle.ann_script.specs.Script.{Client}
use Rattle.ann_transcript.specs.Transcript.{line_text}
use Rattle.ann_script.specs.declared.command.Command.{Command}
use Rattle.ann_transcript.specs.declared.reply.Reply.{Reply}
use Rattle.ann_once.specs.Once.{reply_to, updated, list_after, lines_from}
use Rattle.ann_script.specs.Allowed.{IsOrderOf, IsClientOf}
use Rattle.ann_script.specs.declared.verbs.Verbs.{Verbs}

-- the next order and those behind it
pub next_order : (commands : List Command) (i : ℕ) (command : Command) → i < length commands → command ≡ get_or commands i command → drop i (map order_of commands) ≡ order_of command ∷ drop (i + 1) (map order_of commands)
next_order commands i command within is =
    drop_more (map order_of commands) i (order_of command) (omega (arith, length-map commands order_of))
    ∙ ap (λ (order : Order). order ∷ drop (i + 1) (map order_of commands)) (get_or-map order_of commands i command (order_of command) within ∙ ap order_of (sym is))

lines_next : (index : Index) (name : List ℕ) (number : ℕ) (h : BasedList) (order : Order) (rest : List Order) → line_text name number (reply_to index h order) ++ lines_from index name (number + 1) (list_after index h order) rest ≡ lines_from index name number h (order ∷ rest)
lines_next index name number h order rest = refl

text_next : (index : Index) (name : List ℕ) (number : ℕ) (h : BasedList) (order : Order) (orders rest : List Order) (text : List ℕ) → orders ≡ order ∷ rest → text ++ (line_text name number (reply_to index h order) ++ lines_from index name (number + 1) (list_after index h order) rest) ≡ text ++ lines_from index name number h orders
text_next index name number h order orders rest text next = ap (λ (t : List ℕ). text ++ t) (lines_next index name number h order rest ∙ ap (lines_from index name number h) (sym next))

-- the text so far and that of the orders to come, one order on
pub text_on : (index : Index) (name : List ℕ) (number : ℕ) (h h' : BasedList) (order : Order) (orders rest : List Order) (reply : Reply) (text text' whole : List ℕ) → orders ≡ order ∷ rest → reply ≡ reply_to index h order → h' ≡ list_after index h order → text' ≡ text ++ line_text name number reply → text ++ lines_from index name number h orders ≡ whole → text' ++ lines_from index name (number + 1) h' rest ≡ whole
text_on index name number h h' order orders rest reply text text' whole next is after grown all =
    ap (λ (t : List ℕ). t ++ lines_from index name (number + 1) h' rest) (grown ∙ ap (λ (r : Reply). text ++ line_text name number r) is)
    ∙ append_assoc text (line_text name number (reply_to index h order)) (lines_from index name (number + 1) h' rest)
    ∙ ap (λ (l : BasedList). text ++ (line_text name number (reply_to index h order) ++ lines_from index name (number + 1) l rest)) after
    ∙ text_next index name number h order orders rest text next
    ∙ all

-- a brief command makes the list longer by 64 at most
updated_long : (h : BasedList) (changes : List Change) (o : Option (ℕ × Refusal)) → length changes ≤ 64 → length_of (updated h changes o) ≤ length_of h + 64
updated_long h changes None few = let size = length-append h.entries (map (entry_of 0) changes) in let made = length-map changes (entry_of 0) in omega (arith, size, made, few)
updated_long h changes (Some r) few = omega arith

pub after_long : (verbs : Verbs) (index : Index) (h : BasedList) (order : Order) → IsOrderOf verbs order → length_of (list_after index h order) ≤ length_of h + 64
after_long verbs index h (Apply changes batch) one = updated_long h changes (judge_all index.params h 0 changes) one.within.1
after_long verbs index h (Find k l vector) one = omega arith
after_long verbs index h Merge one = omega arith
after_long verbs index h (Fill seed count first) one = omega arith

-- what the commands of a client are
all_orders : (verbs : Verbs) (commands : List Command) → AllByRecursion (IsOrderOf verbs) (map order_of commands) → All (λ command. IsOrderOf verbs (order_of command)) commands
all_orders verbs [] all i d within = absurd (omega arith)
all_orders verbs (command ∷ commands) all zero d within = all.0
all_orders verbs (command ∷ commands) all (suc i) d within = all_orders verbs commands all.1 i d (omega arith)

-- the first client of a script
abbrev pub IsFirst : List Command → Client → Type 0
IsFirst commands client = map order_of commands ≡ client.orders

pub first_orders : (verbs : Verbs) (most : ℕ) (script : List Client) (commands : List Command) → 0 < length script → AllByRecursion (IsClientOf verbs most) script → IfSome (slice_get script 0) (IsFirst commands) → All (λ command. IsOrderOf verbs (order_of command)) commands
first_orders verbs most [] commands some clients is = absurd (omega arith)
first_orders verbs most (client ∷ others) commands some clients is = all_orders verbs commands (subst (AllByRecursion (IsOrderOf verbs)) (sym is) clients.0.orders)

pub first_short : (verbs : Verbs) (most : ℕ) (script : List Client) (commands : List Command) → 0 < length script → AllByRecursion (IsClientOf verbs most) script → IfSome (slice_get script 0) (IsFirst commands) → length commands ≤ most
first_short verbs most [] commands some clients is = absurd (omega arith)
first_short verbs most (client ∷ others) commands some clients is = omega (arith, length-map commands order_of, ap length is, clients.0.short)
