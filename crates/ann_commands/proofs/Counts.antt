-- How many words a command has.
use Rattle.std.proofs.Common.{◌≡◌, ℕ, ◌<◌, true, false, List, [], ◌∷◌, length, get_or, map, refl, ap, ◌∙◌, arith}
use Rattle.std.specs.Prelude.{Option, Some, None, IfSome, IfNone, codes, if◌then◌else◌}
use Rattle.std.specs.Str.{bytes_eq}
use Rattle.ann_types.specs.declared.params.Params.{Params}
use Rattle.ann_commands.specs.Words.{Setting, given_setting, once_setting, IsMade, IsOnce}

-- fewer than five words, or more, are no command
pub too_few : (words : List (List ℕ)) → length words < 5 → once_setting words ≡ None
too_few [] few = refl
too_few (a ∷ []) few = refl
too_few (a ∷ b ∷ []) few = refl
too_few (a ∷ b ∷ c ∷ []) few = refl
too_few (a ∷ b ∷ c ∷ d ∷ []) few = refl
too_few (a ∷ b ∷ c ∷ d ∷ e ∷ rest) few = absurd (omega arith)

pub too_many : (words : List (List ℕ)) → 5 < length words → once_setting words ≡ None
too_many [] many = refl
too_many (a ∷ []) many = refl
too_many (a ∷ b ∷ []) many = refl
too_many (a ∷ b ∷ c ∷ []) many = refl
too_many (a ∷ b ∷ c ∷ d ∷ []) many = refl
too_many (a ∷ b ∷ c ∷ d ∷ e ∷ []) many = absurd (omega arith)
too_many (a ∷ b ∷ c ∷ d ∷ e ∷ f ∷ rest) many = refl

-- five of them, one by one
pub five : {A B : Type 0} (f : A → B) (xs : List A) (a b c d e : A) → length xs ≡ 5 → a ≡ get_or xs 0 a → b ≡ get_or xs 1 b → c ≡ get_or xs 2 c → d ≡ get_or xs 3 d → e ≡ get_or xs 4 e → map f xs ≡ f a ∷ f b ∷ f c ∷ f d ∷ f e ∷ []
five f [] a b c d e size p q r s t = absurd (omega arith)
five f (v ∷ []) a b c d e size p q r s t = absurd (omega arith)
five f (v ∷ w ∷ []) a b c d e size p q r s t = absurd (omega arith)
five f (v ∷ w ∷ x ∷ []) a b c d e size p q r s t = absurd (omega arith)
five f (v ∷ w ∷ x ∷ y ∷ []) a b c d e size p q r s t = absurd (omega arith)
five f (v ∷ w ∷ x ∷ y ∷ z ∷ []) a b c d e size p q r s t = cc
five f (u ∷ v ∷ w ∷ x ∷ y ∷ z ∷ rest) a b c d e size p q r s t = absurd (omega arith)

-- the first of five words says whether they are the command
pub other_name : (words : List (List ℕ)) (name d r l alpha : List ℕ) → words ≡ name ∷ d ∷ r ∷ l ∷ alpha ∷ [] → bytes_eq name (codes "once") ≡ false → once_setting words ≡ None
other_name words name d r l alpha five other =
    ap once_setting five ∙ ap (λ b. if b then given_setting d r l alpha else None) other

its_name : (words : List (List ℕ)) (name d r l alpha : List ℕ) → words ≡ name ∷ d ∷ r ∷ l ∷ alpha ∷ [] → bytes_eq name (codes "once") ≡ true → once_setting words ≡ given_setting d r l alpha
its_name words name d r l alpha five once =
    ap once_setting five ∙ ap (λ b. if b then given_setting d r l alpha else None) once

-- what the four words behind the name give is what the command gives
pub once_given : (words : List (List ℕ)) (name d r l alpha : List ℕ) (o : Option Params) → words ≡ name ∷ d ∷ r ∷ l ∷ alpha ∷ [] → bytes_eq name (codes "once") ≡ true → IfSome o (λ p. (setting : Setting) × (given_setting d r l alpha ≡ Some setting) × IsMade setting p) → IfSome o (IsOnce words)
once_given words name d r l alpha (Some p) five once given = record { setting = given.0; given = its_name words name d r l alpha five once ∙ given.1; made = given.2 }
once_given words name d r l alpha None five once given = tt

pub once_refused : (words : List (List ℕ)) (name d r l alpha : List ℕ) (o : Option Params) → words ≡ name ∷ d ∷ r ∷ l ∷ alpha ∷ [] → bytes_eq name (codes "once") ≡ true → IfNone o (given_setting d r l alpha ≡ None) → IfNone o (once_setting words ≡ None)
once_refused words name d r l alpha (Some p) five once given = tt
once_refused words name d r l alpha None five once given = its_name words name d r l alpha five once ∙ given
