-- What tests tell.
use Rattle.std.proofs.Common.{◌≡◌, ◌≢◌, ℕ, Bool, true, false, List, ◌∷◌, ◌==◌, Option, Some, None, Result, Ok, Err, IfOk, refl, sym, ap, ◌∙◌, if◌then◌else◌, []}
use Rattle.std.proofs.lemmas.Bool.Decides.{Decides-eqb}
use Rattle.ann_types.proofs.Booleans.{same_true}
use Rattle.ann_block.specs.Block.{first_broken}
use Rattle.ann_block.specs.declared.refused.BlockRefused.{BlockRefused}

pub same : (x y : ℕ) → (x == y) ≡ true → x ≡ y
same x y is = (Decides-eqb x y).0 is

pub other : (x y : ℕ) → (x == y) ≡ false → x ≢ y
other x y is = λ (equal : x ≡ y). absurd (true_is_false (sym (same_true x y equal) ∙ is))
  where
    true_is_false : true ≡ false → ⊥
    true_is_false p = cc

-- each rule is met
abbrev pub AreMet : List (Bool × BlockRefused) → Type 0
AreMet [] = Unit {0}
AreMet (rule ∷ rules) = (rule.0 ≡ true) × AreMet rules

pub first_of : (rule : Bool) (why : BlockRefused) (rest : Option BlockRefused) → (if rule then rest else Some why) ≡ None → (rule ≡ true) × (rest ≡ None)
first_of true why rest is = (refl, is)
first_of false why rest is = cc

-- no rule is broken where each is met
pub all_met : (rules : List (Bool × BlockRefused)) → first_broken rules ≡ None → AreMet rules
all_met [] is = tt
all_met (rule ∷ rules) is = let here = first_of rule.0 rule.1 (first_broken rules) is in (here.0, all_met rules here.1)

pub none_broken : (rules : List (Bool × BlockRefused)) → AreMet rules → first_broken rules ≡ None
none_broken [] met = refl
none_broken (rule ∷ rules) met = ap (λ (b : Bool). if b then first_broken rules else Some rule.1) met.0 ∙ none_broken rules met.1

-- what is known of a result that is Ok
pub when_ok : {A E : Type 0} {P Q : A → Type 0} (r : Result A E) → ((x : A) → P x → Q x) → IfOk r P → IfOk r Q
when_ok (Ok x) step is = step x is
when_ok (Err e) step is = is
