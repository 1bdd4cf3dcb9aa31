-- A list of what came so far, and what is to come behind it.
use Rattle.std.proofs.Common.{◌≡◌, List, [], ◌∷◌, ◌++◌, refl, sym, ap, append_assoc}
use Rattle.std.specs.Prelude.{Option, Some, None}
use Rattle.ann_script.specs.Grammar.{◌>>=◌}

abbrev pub behind : {A : Type 0} → List A → Option (List A) → Option (List A)
behind front rest = rest >>= λ xs. Some (front ++ xs)

-- the next one goes behind those so far
pub behind-push : {A : Type 0} (front : List A) (x : A) (rest : Option (List A)) → behind front (rest >>= λ xs. Some (x ∷ xs)) ≡ behind (front ++ x ∷ []) rest
behind-push front x None = refl
behind-push front x (Some xs) = ap Some (sym (append_assoc front (x ∷ []) xs))

pub behind-none : {A : Type 0} (rest : Option (List A)) → behind [] rest ≡ rest
behind-none None = refl
behind-none (Some xs) = refl

pub ruleset behind_steps = (behind-push, behind-none)
