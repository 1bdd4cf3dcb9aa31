-- Clients of a script, and the parts in memory that stand for them.
use Rattle.std.proofs.Common.{◌≡◌, ◌≤◌, ◌<◌, ℕ, ◌+◌, ◌-◌, List, [], ◌∷◌, ◌++◌, length, refl, sym, ap, subst, ◌∙◌, map, get_or, set, arith, true, false, not, cond, Bool, nat_lt, ◌||◌, suc, string_bytes}
use Rattle.std.proofs.lemmas.Grind.{common_steps}
use Rattle.std.proofs.lemmas.List.{map-append}
use Rattle.std.specs.Prelude.{Some, None}
use Rattle.std.specs.List.{position_or_len, list_any}
use Rattle.std.specs.Str.{bytes_eq}
use Rattle.ann_script.specs.Order.{Order, order_of}
use Rattle.ann_script.specs.Grammar.{◌>>=◌}
use Rattle.ann_script.specs.Script.{Client, added}
use Rattle.ann_script.specs.Parts.{client_of}
use Rattle.ann_script.specs.declared.script.Part.{Part}
use Rattle.ann_script.specs.declared.command.Command.{Command}

-- a client of this name, with these commands
abbrev pub client : List ℕ → List Order → Client
client name orders = record { name = name; orders = orders }

abbrev pub with_order : Client → Order → Client
with_order c order = record c { orders = c.orders ++ order ∷ [] }

-- the part has this name
abbrev pub named : List ℕ → Part → Bool
named name part = bytes_eq (string_bytes part.name) name

-- a command was pushed behind those of a part
pub pushed : (part part' : Part) (command : Command) → string_bytes part'.name ≡ string_bytes part.name → part'.commands.items ≡ part.commands.items ++ command ∷ [] → client_of part' ≡ with_order (client_of part) (order_of command)
pushed part part' command name commands =
    ap (λ n. client n (map order_of part'.commands.items)) name ∙ ap (λ cs. client (string_bytes part.name) (map order_of cs)) commands ∙ ap (client (string_bytes part.name)) (map-append order_of part.commands.items (command ∷ []))

-- the client of the name gets the command
abbrev Gets : ℕ → List Part → List ℕ → Order → Part → Part → ℕ → Type 0
Gets room parts name order d part' at = client_of part' ≡ with_order (client_of (get_or parts at d)) order → added room (map client_of parts) name order ≡ Some (map client_of (set parts at part'))

pub added-there : (room : ℕ) (parts : List Part) (name : List ℕ) (order : Order) (d part' : Part) → position_or_len (named name) parts < length parts → Gets room parts name order d part' (position_or_len (named name) parts)
added-there room [] name order d part' = λ inside. absurd (omega arith)
added-there room (q ∷ qs) name order d part' =
    elim (named name q) as (λ t. cond (not t) (1 + position_or_len (named name) qs) 0 < length (q ∷ qs) → client_of part' ≡ with_order (client_of (get_or (q ∷ qs) (cond (not t) (1 + position_or_len (named name) qs) 0) d)) order → cond t (Some (with_order (client_of q) order ∷ map client_of qs)) (added (room - 1) (map client_of qs) name order >>= λ more. Some (client_of q ∷ more)) ≡ Some (map client_of (set (q ∷ qs) (cond (not t) (1 + position_or_len (named name) qs) 0) part'))) [
      | true ↦ λ inside is. ap (λ c. Some (c ∷ map client_of qs)) (sym is)
      | false ↦
          let P : ℕ → Type 0 = λ at. at < length (q ∷ qs) → client_of part' ≡ with_order (client_of (get_or (q ∷ qs) at d)) order → (added (room - 1) (map client_of qs) name order >>= λ more. Some (client_of q ∷ more)) ≡ Some (map client_of (set (q ∷ qs) at part')) in
          let one : suc (position_or_len (named name) qs) ≡ 1 + position_or_len (named name) qs = omega arith in
          subst P one (λ inside is. ap (λ o. o >>= λ more. Some (client_of q ∷ more)) (added-there (room - 1) qs name order d part' (omega arith) is))
    ]

-- a new client gets the command, where there is room
pub added-new : (room : ℕ) (parts : List Part) (name : List ℕ) (order : Order) → list_any (named name) parts ≡ false → added room (map client_of parts) name order ≡ cond (nat_lt (length parts) room) (Some (map client_of parts ++ client name (order ∷ []) ∷ [])) None
added-new room [] name order = λ none. refl
added-new room (q ∷ qs) name order =
    elim (named name q) as (λ t. (t || list_any (named name) qs) ≡ false → cond t (Some (with_order (client_of q) order ∷ map client_of qs)) (added (room - 1) (map client_of qs) name order >>= λ more. Some (client_of q ∷ more)) ≡ cond (nat_lt (length (q ∷ qs)) room) (Some (map client_of (q ∷ qs) ++ client name (order ∷ []) ∷ [])) None) [
      | true ↦ λ none. absurd (cc)
      | false ↦ λ none.
          ap (λ o. o >>= λ more. Some (client_of q ∷ more)) (added-new (room - 1) qs name order none) ∙ shifted (nat_lt (length qs) (room - 1)) (nat_lt (length (q ∷ qs)) room) (one_less (length qs) room)
    ]
  where
    one_less : (m r : ℕ) → nat_lt m (r - 1) ≡ nat_lt (suc m) r
    one_less m r = grind (arith, common_steps)

    shifted : (s t : Bool) → s ≡ t → (cond s (Some (map client_of qs ++ client name (order ∷ []) ∷ [])) None >>= λ more. Some (client_of q ∷ more)) ≡ cond t (Some (map client_of (q ∷ qs) ++ client name (order ∷ []) ∷ [])) None
    shifted true true e = refl
    shifted true false e = absurd (cc)
    shifted false true e = absurd (cc)
    shifted false false e = refl

-- the client at a place that was found gets the command
pub added-at : (room : ℕ) (parts : List Part) (name : List ℕ) (order : Order) (d part' : Part) (at : ℕ) → (at ≡ position_or_len (named name) parts) × (position_or_len (named name) parts < length parts) → d ≡ get_or parts at d → client_of part' ≡ with_order (client_of d) order → added room (map client_of parts) name order ≡ Some (map client_of (set parts at part'))
added-at room parts name order d part' at first is pushed =
    let P : ℕ → Type 0 = λ k. d ≡ get_or parts k d → added room (map client_of parts) name order ≡ Some (map client_of (set parts k part')) in
    subst P (sym first.0) (λ there. added-there room parts name order d part' first.1 (pushed ∙ ap (λ q. with_order (client_of q) order) there)) is

none_less : (m n : ℕ) → n ≤ m → nat_lt m n ≡ false
none_less m n le = grind (arith, common_steps)

less : (m n : ℕ) → m < n → nat_lt m n ≡ true
less m n lt = grind (arith, common_steps)

pub added-full : (room : ℕ) (parts : List Part) (name : List ℕ) (order : Order) → list_any (named name) parts ≡ false → room ≤ length parts → added room (map client_of parts) name order ≡ None
added-full room parts name order none full = added-new room parts name order none ∙ ap (λ t. cond t (Some (map client_of parts ++ client name (order ∷ []) ∷ [])) None) (none_less (length parts) room full)

-- a part with the command was pushed
pub added-last : (room : ℕ) (parts parts' : List Part) (part : Part) (name : List ℕ) (command : Command) → list_any (named name) parts ≡ false → length parts < room → parts' ≡ parts ++ part ∷ [] → string_bytes part.name ≡ name → part.commands.items ≡ command ∷ [] → added room (map client_of parts) name (order_of command) ≡ Some (map client_of parts')
added-last room parts parts' part name command none some more is commands =
    added-new room parts name (order_of command) none ∙ ap (λ t. cond t (Some (map client_of parts ++ client name (order_of command ∷ []) ∷ [])) None) (less (length parts) room some) ∙ ap (λ c. Some (map client_of parts ++ c ∷ [])) (sym (ap (λ n. client n (map order_of part.commands.items)) is ∙ ap (λ cs. client name (map order_of cs)) commands)) ∙ ap Some (sym (map-append client_of parts (part ∷ [])) ∙ ap (map client_of) (sym more))
