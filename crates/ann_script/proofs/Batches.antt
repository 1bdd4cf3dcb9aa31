-- The changes of a batch, taken one after another.
use Rattle.std.proofs.Common.{◌≡◌, ◌≤◌, ◌<◌, ℕ, List, [], ◌∷◌, ◌++◌, length, refl, sym, ap, ◌∙◌, arith, true, false, cond, nat_le}
use Rattle.std.proofs.lemmas.List.{length-append}
use Rattle.std.proofs.lemmas.Bool.Decides.{nat_tests}
use Rattle.std.specs.Prelude.{Option, Some, None, Err}
use Rattle.std.specs.List.{onto_first}
use Rattle.ann_types.specs.declared.change.Change.{Change}
use Rattle.ann_script.specs.Grammar.{◌>>=◌, change, changes, is_separator, parts, batch}
use Rattle.ann_script.specs.Operands.{front, later}
use Rattle.ann_script.specs.Parsed.{Parses}
use Rattle.ann_script.specs.declared.parse_refused.ParseRefused.{ParseRefused}
use Rattle.ann_script.specs.declared.parse_refused.ParseRefused.TheVariants.{Fault, Memory}
use Rattle.ann_script.proofs.Behind.{behind, behind-push}

-- the first part, and those behind it
pub parts_first : (ws : List (List ℕ)) → parts ws ≡ front ws ∷ later ws
parts_first [] = refl
parts_first (w ∷ ws) =
    elim (is_separator w) as (λ t. cond t ([] ∷ parts ws) (onto_first w (parts ws)) ≡ cond t [] (w ∷ front ws) ∷ cond t (parts ws) (later ws)) [
      | true ↦ refl
      | false ↦ ap (onto_first w) (parts_first ws)
    ]

-- at most 64 of them
abbrev few : List Change → Option (List Change)
few cs = cond (nat_le (length cs) 64) (Some cs) None

-- a part that is no change
pub batch_stops : (all rest : List (List ℕ)) (done : List Change) → behind done (changes (parts rest)) ≡ changes (parts all) → change (front rest) ≡ None → batch all ≡ None
batch_stops all rest done so_far none =
    ap (λ cs. cs >>= few) (sym so_far ∙ ap (λ ps. behind done (changes ps)) (parts_first rest) ∙ ap (λ c. behind done (c >>= λ x. changes (later rest) >>= λ xs. Some (x ∷ xs))) none)

-- one change more, with parts behind it
pub batch_goes_on : (all rest next : List (List ℕ)) (done : List Change) (c : Change) → behind done (changes (parts rest)) ≡ changes (parts all) → change (front rest) ≡ Some c → later rest ≡ parts next → behind (done ++ c ∷ []) (changes (parts next)) ≡ changes (parts all)
batch_goes_on all rest next done c so_far some more =
    sym (behind-push done c (changes (parts next)))
    ∙ ap (λ ps. behind done (changes ps >>= λ xs. Some (c ∷ xs))) (sym more)
    ∙ ap (λ o. behind done (o >>= λ x. changes (later rest) >>= λ xs. Some (x ∷ xs))) (sym some)
    ∙ ap (λ ps. behind done (changes ps)) (sym (parts_first rest))
    ∙ so_far

few_some : (cs : List Change) → length cs ≤ 64 → few cs ≡ Some cs
few_some cs le = let b : nat_le (length cs) 64 ≡ true = grind (nat_tests, arith) in ap (λ t. cond t (Some cs) None) b

few_none : (cs : List Change) → 64 < length cs → few cs ≡ None
few_none cs more = let b : nat_le (length cs) 64 ≡ false = grind (nat_tests, arith) in ap (λ t. cond t (Some cs) None) b

-- the last change
pub batch_ends : (all rest : List (List ℕ)) (done : List Change) (c : Change) → behind done (changes (parts rest)) ≡ changes (parts all) → change (front rest) ≡ Some c → later rest ≡ [] → length done < 64 → batch all ≡ Some (done ++ c ∷ [])
batch_ends all rest done c so_far some none short =
    ap (λ cs. cs >>= few) (
    sym so_far
    ∙ ap (λ ps. behind done (changes ps)) (parts_first rest)
    ∙ ap (λ o. behind done (o >>= λ x. changes (later rest) >>= λ xs. Some (x ∷ xs))) some
    ∙ ap (λ ps. behind done (changes ps >>= λ xs. Some (c ∷ xs))) none
    )
    ∙ few_some (done ++ c ∷ []) (let size = length-append done (c ∷ []) in omega (arith, size, short))

changes_more : (c : Option Change) (rest : Option (List Change)) (done : List Change) → length done ≡ 64 → (behind done (c >>= λ x. rest >>= λ xs. Some (x ∷ xs)) >>= few) ≡ None
changes_more None rest done full = refl
changes_more (Some x) None done full = refl
changes_more (Some x) (Some xs) done full = few_none (done ++ x ∷ xs) (let size = length-append done (x ∷ xs) in omega (arith, size, full))

-- a part behind 64 changes
pub batch_is_long : (all rest : List (List ℕ)) (done : List Change) → behind done (changes (parts rest)) ≡ changes (parts all) → length done ≡ 64 → batch all ≡ None
batch_is_long all rest done so_far full =
    ap (λ cs. cs >>= few) (sym so_far ∙ ap (λ ps. behind done (changes ps)) (parts_first rest))
    ∙ changes_more (change (front rest)) (changes (later rest)) done full

-- a refused part refuses the batch
pub batch_refused : (why : ParseRefused) (all rest given : List (List ℕ)) (done : List Change) → behind done (changes (parts rest)) ≡ changes (parts all) → given ≡ front rest → Parses {T = Change} {S = Change} (λ c. c) (Err why) (change given) → Parses {T = List Change} {S = List Change} (λ l. l) (Err why) (batch all)
batch_refused Fault all rest given done so_far same none = batch_stops all rest done so_far (ap change (sym same) ∙ none)
batch_refused (Memory e) all rest given done so_far same none = tt
