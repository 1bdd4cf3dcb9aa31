-- What the grammar lets into a script: commands of its verbs, each within its limits, and no more than lines.
use Rattle.std.proofs.Common.{◌≡◌, ℕ, ◌+◌, ◌-◌, ◌<◌, ◌≤◌, Bool, true, false, cond, suc, List, [], ◌∷◌, ◌++◌, ◌&&◌, refl, sym, ap, subst, ◌∙◌, arith, length, ◌⊎◌, inl, inr}
use Rattle.std.specs.Prelude.{Option, None, Some, Result, Ok, Err, take, nat_lt, nat_le, codes, IfOk, ◌^◌}
use Rattle.std.specs.List.{AllByRecursion}
use Rattle.std.specs.Str.{bytes_eq}
use Rattle.std.specs.Str.Lines.{strip_carriage_return}
use Rattle.std.proofs.lemmas.Bool.{leb-true}
use Rattle.std.proofs.lemmas.List.Splits.{length-slice_split}
use Rattle.std.proofs.lemmas.List.Sums.{count_by-le-length}
use Rattle.ann_types.specs.declared.change.Change.{Change}
use Rattle.ann_script.specs.Words.{number_of, numeral, at_most, words}
use Rattle.ann_script.specs.Order.{Order, Apply, Find, Merge, Fill}
use Rattle.ann_script.specs.Grammar as grammar
use Rattle.ann_script.specs.Grammar.{Line, Silent, Says, Bad}
use Rattle.ann_script.specs.Script.{Client, added, said, line_said, Whole, Long, lines_said, lines, is_line_feed, text_said, script_of, limit}
use Rattle.ann_script.specs.Allowed.{IsWithin, IsOrderOf, IsClientOf, IsScriptOf}
use Rattle.ann_script.specs.Reading.{Reads}
use Rattle.ann_script.specs.declared.script_refused.ScriptRefused.{ScriptRefused}
use Rattle.ann_script.specs.declared.verbs.Rules.{Rules}
use Rattle.ann_script.specs.declared.verbs.Verbs.{Verbs}
use Rattle.ann_types.proofs.Booleans.{both}
use Rattle.ann_types.proofs.Options.{none_some, some_is}

-- what a step and the next one gave
bound : {A B : Type 0} (o : Option A) (f : A → Option B) (y : B) → grammar.◌>>=◌ o f ≡ Some y → (x : A) × (o ≡ Some x) × (f x ≡ Some y)
bound None f y e = absurd (none_some y e)
bound (Some x) f y e = (x, refl, e)

-- which branch gave it
chosen : {A : Type 0} (b : Bool) (x y : Option A) (z : A) → cond b x y ≡ Some z → (x ≡ Some z) ⊎ (y ≡ Some z)
chosen true x y z e = inl e
chosen false x y z e = inr e

by_limit : (b : Bool) (x y : List Change) → cond b (Some x) None ≡ Some y → ((b ≡ true) × (x ≡ y)) ⊎ ⊥
by_limit true x y e = inl (refl, some_is x y e)
by_limit false x y e = absurd (none_some y e)

by_number : (b : Bool) (x y : ℕ) → cond b (Some x) None ≡ Some y → ((b ≡ true) × (x ≡ y)) ⊎ ⊥
by_number true x y e = inl (refl, cc)
by_number false x y e = absurd (none_some y e)

by_bytes : (b : Bool) (x y : List ℕ) → cond b (Some x) None ≡ Some y → ((b ≡ true) × (x ≡ y)) ⊎ ⊥
by_bytes true x y e = inl (refl, some_is x y e)
by_bytes false x y e = absurd (none_some y e)

by_order : (b : Bool) (x y : Order) → cond b (Some x) None ≡ Some y → ((b ≡ true) × (x ≡ y)) ⊎ ⊥
by_order true x y e = inl (refl, some_is x y e)
by_order false x y e = absurd (none_some y e)

-- ---- Commands are within their limits

single_within : (operands : List (List ℕ)) (changes : List Change) → grammar.single operands ≡ Some changes → length changes ≡ 1
single_within operands changes e =
    let c = bound (grammar.change operands) _ changes e in
    ap length (sym (some_is (c.0 ∷ []) changes c.2))

apply_single : (operands : List (List ℕ)) (order : Order) → grammar.◌>>=◌ (grammar.single operands) (λ changes. Some (Apply changes false)) ≡ Some order → IsWithin order
apply_single operands order e =
    let c = bound (grammar.single operands) _ order e in
    let one = single_within operands c.0 c.1 in
    subst IsWithin (some_is (Apply c.0 false) order c.2) (omega (arith, one), omega (arith, one))

parts_some : (operands : List (List ℕ)) → 0 < length (grammar.parts operands)
parts_some operands = omega (arith, length-slice_split grammar.is_separator operands)

changes_long : (parts : List (List (List ℕ))) (changes : List Change) → grammar.changes parts ≡ Some changes → length changes ≡ length parts
changes_long [] changes e = ap length (sym (some_is [] changes e))
changes_long (part ∷ parts) changes e =
    let c = bound (grammar.change part) _ changes e in
    let cs = bound (grammar.changes parts) _ changes c.2 in
    let rest = changes_long parts cs.0 cs.1 in
    ap length (sym (some_is (c.0 ∷ cs.0) changes cs.2)) ∙ ap suc rest

batch_within : (operands : List (List ℕ)) (changes : List Change) → grammar.batch operands ≡ Some changes → IsWithin (Apply changes true)
batch_within operands changes e =
    let cs = bound (grammar.changes (grammar.parts operands)) _ changes e in
    let long = changes_long (grammar.parts operands) cs.0 cs.1 in
    let some = parts_some operands in
    elim (by_limit (nat_le (length cs.0) 64) cs.0 changes cs.2) [
      | inl is ↦ let same = ap length is.1 in let few = leb-true (length cs.0) 64 is.0 in (omega (arith, long, some, same), omega (arith, few, same))
      | inr none ↦ absurd none
    ]

apply_batch : (operands : List (List ℕ)) (order : Order) → grammar.◌>>=◌ (grammar.batch operands) (λ changes. Some (Apply changes true)) ≡ Some order → IsWithin order
apply_batch operands order e =
    let c = bound (grammar.batch operands) _ order e in
    subst IsWithin (some_is (Apply c.0 true) order c.2) (batch_within operands c.0 c.1)

number_least : (n : ℕ) (word : List ℕ) (most : ℕ) → number_of most word ≡ Some n → n ≤ most
number_least n word most e = at_most_least most (numeral word) n e
  where
    at_most_least : (most : ℕ) (o : Option ℕ) (n : ℕ) → at_most most o ≡ Some n → n ≤ most
    at_most_least most None n e = absurd (none_some n e)
    at_most_least most (Some m) n e =
        elim (by_number (nat_le m most) m n e) [
          | inl is ↦ omega (arith, leb-true m most is.0, is.1)
          | inr none ↦ absurd none
        ]

vector_within : (operands : List (List ℕ)) (v : List ℕ) → grammar.vector operands ≡ Some v → (1 ≤ length v) × (length v ≤ 1024)
vector_within operands v e =
    let cs = bound (grammar.components operands) _ v e in
    elim (by_bytes (nat_le 1 (length cs.0) && nat_le (length cs.0) 1024) cs.0 v cs.2) [
      | inl is ↦
          let two = both (nat_le 1 (length cs.0)) (nat_le (length cs.0) 1024) is.0 in
          let same = ap length is.1 in
          (omega (arith, leb-true 1 (length cs.0) two.0, same), omega (arith, leb-true (length cs.0) 1024 two.1, same))
      | inr none ↦ absurd none
    ]

search_within : (operands : List (List ℕ)) (order : Order) → grammar.search_of operands ≡ Some order → IsWithin order
search_within [] order e = absurd (none_some order e)
search_within (k ∷ []) order e = absurd (none_some order e)
search_within (k ∷ l ∷ rest) order e =
    let wanted = bound (number_of 1000 k) _ order e in
    let width = bound (number_of 1000 l) _ order wanted.2 in
    let v = bound (grammar.vector rest) _ order width.2 in
    elim (by_order (nat_le 1 wanted.0 && nat_le wanted.0 width.0) (Find wanted.0 width.0 v.0) order v.2) [
      | inl found ↦
          let two = both (nat_le 1 wanted.0) (nat_le wanted.0 width.0) found.0 in
          let long = vector_within rest v.0 v.1 in
          subst IsWithin found.1 (leb-true 1 wanted.0 two.0, leb-true wanted.0 width.0 two.1, number_least width.0 l 1000 width.1, long.0, long.1)
      | inr none ↦ absurd none
    ]

merge_within : (operands : List (List ℕ)) (order : Order) → grammar.merge_of operands ≡ Some order → IsWithin order
merge_within [] order e = subst IsWithin (some_is Merge order e) tt
merge_within (word ∷ rest) order e = absurd (none_some order e)

fill_within : (operands : List (List ℕ)) (order : Order) → grammar.fill_of operands ≡ Some order → IsWithin order
fill_within [] order e = absurd (none_some order e)
fill_within (s ∷ []) order e = absurd (none_some order e)
fill_within (s ∷ n ∷ []) order e = absurd (none_some order e)
fill_within (s ∷ n ∷ t ∷ []) order e =
    let seed = bound (number_of (2 ^ 31 - 1) s) _ order e in
    let count = bound (number_of 1000000 n) _ order seed.2 in
    let first = bound (grammar.tag t) _ order count.2 in
    elim (by_order (nat_le 1 count.0 && nat_le (first.0 + count.0) (2 ^ 64)) (Fill seed.0 count.0 first.0) order first.2) [
      | inl found ↦
          let two = both (nat_le 1 count.0) (nat_le (first.0 + count.0) (2 ^ 64)) found.0 in
          subst IsWithin found.1 (omega (arith, number_least seed.0 s (2 ^ 31 - 1) seed.1), leb-true 1 count.0 two.0, number_least count.0 n 1000000 count.1, leb-true (first.0 + count.0) (2 ^ 64) two.1)
      | inr none ↦ absurd none
    ]
fill_within (s ∷ n ∷ t ∷ u ∷ rest) order e = absurd (none_some order e)

command_within : (rest : List (List ℕ)) (order : Order) → grammar.command rest ≡ Some order → IsWithin order
command_within [] order e = absurd (none_some order e)
command_within (verb ∷ operands) order e =
    elim (chosen (bytes_eq verb (codes "search")) _ _ order e) [
      | inl search ↦ search_within operands order search
      | inr other ↦ elim (chosen (bytes_eq verb (codes "batch")) _ _ order other) [
        | inl batch ↦ apply_batch operands order batch
        | inr other ↦ elim (chosen (bytes_eq verb (codes "merge")) _ _ order other) [
          | inl merge ↦ merge_within operands order merge
          | inr other ↦ elim (chosen (bytes_eq verb (codes "fill")) _ _ order other) [
            | inl fill ↦ fill_within operands order fill
            | inr single ↦ apply_single (verb ∷ operands) order single
          ]
        ]
      ]
    ]

order_of_verbs : (verbs : Verbs) (rest : List (List ℕ)) (order : Order) → grammar.command_of verbs rest ≡ Some order → IsOrderOf verbs order
order_of_verbs verbs rest order e =
    let given = bound (grammar.command rest) _ order e in
    elim (by_order (grammar.has verbs given.0) given.0 order given.2) [
      | inl is ↦ subst (IsOrderOf verbs) is.1 (record { allowed = is.0; within = command_within rest given.0 given.1 })
      | inr none ↦ absurd none
    ]

-- ---- A command more

all_last : (verbs : Verbs) (orders : List Order) (order : Order) → AllByRecursion (IsOrderOf verbs) orders → IsOrderOf verbs order → AllByRecursion (IsOrderOf verbs) (orders ++ order ∷ [])
all_last verbs [] order all one = (one, tt)
all_last verbs (first ∷ orders) order all one = (all.0, all_last verbs orders order all.1 one)

length_last : (orders : List Order) (order : Order) → length (orders ++ order ∷ []) ≡ length orders + 1
length_last [] order = refl
length_last (first ∷ orders) order = omega (arith, length_last orders order)

-- clients of a script, each with at most so many commands
abbrev AreClients : Verbs → ℕ → List Client → Type 0
AreClients verbs most clients = AllByRecursion (IsClientOf verbs most) clients

-- a client with one more command
client_more : (verbs : Verbs) (most : ℕ) (client : Client) (order : Order) → IsOrderOf verbs order → IsClientOf verbs most client → IsClientOf verbs (most + 1) (record client { orders = client.orders ++ order ∷ [] })
client_more verbs most client order one s = record {
  orders = all_last verbs client.orders order s.orders one;
  short = omega (arith, length_last client.orders order, s.short);
}

client_new : (verbs : Verbs) (most : ℕ) (name : List ℕ) (order : Order) → IsOrderOf verbs order → IsClientOf verbs (most + 1) (record { name = name; orders = order ∷ [] })
client_new verbs most name order one = record { orders = (one, tt); short = omega arith }

all_within : (verbs : Verbs) (most more : ℕ) (clients : List Client) → most ≤ more → AreClients verbs most clients → AreClients verbs more clients
all_within verbs most more [] within s = tt
all_within verbs most more (client ∷ clients) within s = (record { orders = s.0.orders; short = omega (arith, s.0.short) }, all_within verbs most more clients within s.1)

client_weaker : (verbs : Verbs) (most : ℕ) (client : Client) → IsClientOf verbs most client → IsClientOf verbs (most + 1) client
client_weaker verbs most client s = record { orders = s.orders; short = omega (arith, s.short) }

all_weaker : (verbs : Verbs) (most : ℕ) (clients : List Client) → AreClients verbs most clients → AreClients verbs (most + 1) clients
all_weaker verbs most clients s = all_within verbs most (most + 1) clients (omega arith) s

added_allowed : (verbs : Verbs) (most room : ℕ) (clients : List Client) (name : List ℕ) (order : Order) (more : List Client) → added room clients name order ≡ Some more → IsOrderOf verbs order → AreClients verbs most clients → AreClients verbs (most + 1) more
added_allowed verbs most room [] name order more e one s =
    elim (chosen (nat_lt 0 room) (Some (record { name = name; orders = order ∷ [] } ∷ [])) None more e) [
      | inl is ↦ subst (AreClients verbs (most + 1)) (some_is (record { name = name; orders = order ∷ [] } ∷ []) more is) (client_new verbs most name order one, tt)
      | inr none ↦ absurd (none_some more none)
    ]
added_allowed verbs most room (client ∷ others) name order more e one s =
    elim (chosen (bytes_eq client.name name) _ _ more e) [
      | inl is ↦ subst (AreClients verbs (most + 1)) (some_is (record client { orders = client.orders ++ order ∷ [] } ∷ others) more is) (client_more verbs most client order one s.0, all_weaker verbs most others s.1)
      | inr other ↦
          let rest = bound (added (room - 1) others name order) _ more other in
          subst (AreClients verbs (most + 1)) (some_is (client ∷ rest.0) more rest.2) (client_weaker verbs most client s.0, added_allowed verbs most (room - 1) others name order rest.0 rest.1 one s.1)
    ]

-- ---- A line more

-- a line that says nothing, or a command of these verbs
abbrev IsLineOf : Verbs → Line → Type 0
IsLineOf verbs line = (name : List ℕ) (order : Order) → line ≡ Says name order → IsOrderOf verbs order

line_allowed : (rules : Rules) (most : ℕ) (clients : List Client) (line : Line) (more : List Client) → IsLineOf rules.verbs line → line_said rules clients line ≡ Some more → AreClients rules.verbs most clients → AreClients rules.verbs (most + 1) more
line_allowed rules most clients Silent more is e s = subst (AreClients rules.verbs (most + 1)) (some_is clients more e) (all_weaker rules.verbs most clients s)
line_allowed rules most clients (Says name order) more is e s =
    added_allowed rules.verbs most rules.clients clients name order more e (is name order refl) s
line_allowed rules most clients Bad more is e s = absurd (none_some more e)

line_if : (b : Bool) (x y : Line) (P : Line → Type 0) → P x → P y → P (cond b x y)
line_if true x y P p q = p
line_if false x y P p q = q

silent_is : (verbs : Verbs) → IsLineOf verbs Silent
silent_is verbs name order e = absurd cc

bad_is : (verbs : Verbs) → IsLineOf verbs Bad
bad_is verbs name order e = absurd cc

says_is : (name name' : List ℕ) (order order' : Order) → Says name order ≡ Says name' order' → order ≡ order'
says_is name name' order order' e = cc

command_is : (verbs : Verbs) (word : List ℕ) (o : Option Order) → ((order : Order) → o ≡ Some order → IsOrderOf verbs order) → IsLineOf verbs (elim o [ None ↦ Bad | Some order ↦ Says word order ])
command_is verbs word None is = bad_is verbs
command_is verbs word (Some order) is = λ name order' e. subst (IsOrderOf verbs) (says_is word name order order' e) (is order refl)

words_are : (verbs : Verbs) (words : List (List ℕ)) → IsLineOf verbs (grammar.line_of_words verbs words)
words_are verbs [] = silent_is verbs
words_are verbs (word ∷ rest) =
    line_if (grammar.is_comment word) Silent _ (IsLineOf verbs) (silent_is verbs)
    (line_if (grammar.is_name word) _ Bad (IsLineOf verbs) (command_is verbs word (grammar.command_of verbs rest) (order_of_verbs verbs rest)) (bad_is verbs))

said_allowed : (rules : Rules) (most : ℕ) (clients : List Client) (line : List ℕ) (more : List Client) → said rules clients line ≡ Some more → AreClients rules.verbs most clients → AreClients rules.verbs (most + 1) more
said_allowed rules most clients line more e s = line_allowed rules most clients (grammar.line_of rules.verbs line) more (words_are rules.verbs (words (strip_carriage_return line))) e s

-- ---- A script

went_on : (o : Option (List Client)) (number : ℕ) (f : List Client → Result (List Client) ℕ) (script : List Client) → (elim o as (λ _. Result (List Client) ℕ) [ None ↦ Err number | Some more ↦ f more ]) ≡ Ok script → (more : List Client) × (o ≡ Some more) × (f more ≡ Ok script)
went_on None number f script e = absurd cc
went_on (Some more) number f script e = (more, refl, e)

ok_is : (x y : List Client) (result : Result (List Client) ℕ) → result ≡ Ok x → result ≡ Ok y → x ≡ y
ok_is x y result first second = cc

lines_allowed : (rules : Rules) (most : ℕ) (clients : List Client) (number : ℕ) (lines : List (List ℕ)) (script : List Client) → lines_said rules Whole clients number lines ≡ Ok script → AreClients rules.verbs most clients → AreClients rules.verbs (most + length lines) script
lines_allowed rules most clients number [] script e s = subst (λ (m : ℕ). AreClients rules.verbs m script) (omega arith) (subst (AreClients rules.verbs most) (ok_is clients script (Ok clients) refl e) s)
lines_allowed rules most clients number (line ∷ []) script e s =
    let more = went_on (said rules clients line) number (λ more. Ok more) script e in
    subst (AreClients rules.verbs (most + 1)) (ok_is more.0 script (Ok more.0) refl more.2) (said_allowed rules most clients line more.0 more.1 s)
lines_allowed rules most clients number (line ∷ next ∷ others) script e s =
    let more = went_on (said rules clients line) number (λ more. lines_said rules Whole more (number + 1) (next ∷ others)) script e in
    subst (λ (m : ℕ). AreClients rules.verbs m script) (omega arith) (lines_allowed rules (most + 1) more.0 (number + 1) (next ∷ others) script more.2 (said_allowed rules most clients line more.0 more.1 s))

-- a text with a byte past the limit is at fault in some line
long_faulty : (rules : Rules) (clients : List Client) (number : ℕ) (line : List ℕ) (others : List (List ℕ)) (script : List Client) → lines_said rules Long clients number (line ∷ others) ≡ Ok script → ⊥
long_faulty rules clients number line [] script e = cc
long_faulty rules clients number line (next ∷ others) script e =
    let more = went_on (said rules clients line) number (λ more. lines_said rules Long more (number + 1) (next ∷ others)) script e in
    long_faulty rules more.0 (number + 1) next others script more.2

long_text_faulty : (rules : Rules) (parts : List (List ℕ)) (script : List Client) → 0 < length parts → lines_said rules Long [] 1 parts ≡ Ok script → ⊥
long_text_faulty rules [] script some e = absurd (omega arith)
long_text_faulty rules (line ∷ others) script some e = long_faulty rules [] 1 line others script e

by_test : (b : Bool) (x y z : Result (List Client) ℕ) → cond b x y ≡ z → ((b ≡ true) × (x ≡ z)) ⊎ (y ≡ z)
by_test true x y z e = inl (refl, e)
by_test false x y z e = inr e

lines_few : (input : List ℕ) → length (lines input) ≤ length input + 1
lines_few input = omega (arith, length-slice_split is_line_feed input, count_by-le-length is_line_feed input)

lines_some : (input : List ℕ) → 0 < length (lines input)
lines_some input = omega (arith, length-slice_split is_line_feed input)

-- what a text says as a script has commands of its verbs, and no more than lines
pub script_allowed : (rules : Rules) (input : List ℕ) (script : List Client) → script_of rules input ≡ Ok script → IsScriptOf rules.verbs script
script_allowed rules input script e =
    elim (by_test (nat_le (length input) limit) (text_said rules Whole input) (text_said rules Long (take limit input)) (Ok script) e) [
      | inl whole ↦ all_within rules.verbs (0 + length (lines input)) (limit + 1) script (omega (arith, lines_few input, leb-true (length input) limit whole.0)) (lines_allowed rules 0 [] 1 (lines input) script whole.1 tt)
      | inr long ↦ absurd (long_text_faulty rules (lines (take limit input)) script (lines_some (take limit input)) long)
    ]

-- so a script that was read has
pub reads_allowed : (rules : Rules) (left left' : Option (List ℕ)) (result : Result (List Client) ScriptRefused) → Reads rules left left' result → IfOk result (IsScriptOf rules.verbs)
reads_allowed rules left left' (Ok script) reads = script_allowed rules reads.bytes script reads.says
reads_allowed rules left left' (Err refused) reads = tt
