-- How many words the command `init` has.
use Rattle.std.proofs.Common.{◌≡◌, ℕ, ◌<◌, true, false, List, [], ◌∷◌, length, get_or, map, refl, ap, ◌∙◌, arith}
use Rattle.std.specs.Prelude.{Option, None, codes, if◌then◌else◌}
use Rattle.std.specs.Str.{bytes_eq}
use Rattle.ann_commands.specs.Words.{KeptSetting, graph_of, keeping_of, kept_given, init_setting}

-- fewer than eight words, or more, are not the command
pub init_few : (words : List (List ℕ)) → length words < 8 → init_setting words ≡ None
init_few [] few = refl
init_few (a ∷ []) few = refl
init_few (a ∷ b ∷ []) few = refl
init_few (a ∷ b ∷ c ∷ []) few = refl
init_few (a ∷ b ∷ c ∷ d ∷ []) few = refl
init_few (a ∷ b ∷ c ∷ d ∷ e ∷ []) few = refl
init_few (a ∷ b ∷ c ∷ d ∷ e ∷ f ∷ []) few = refl
init_few (a ∷ b ∷ c ∷ d ∷ e ∷ f ∷ g ∷ []) few = refl
init_few (a ∷ b ∷ c ∷ d ∷ e ∷ f ∷ g ∷ h ∷ rest) few = absurd (omega arith)

pub init_many : (words : List (List ℕ)) → 8 < length words → init_setting words ≡ None
init_many [] many = refl
init_many (a ∷ []) many = refl
init_many (a ∷ b ∷ []) many = refl
init_many (a ∷ b ∷ c ∷ []) many = refl
init_many (a ∷ b ∷ c ∷ d ∷ []) many = refl
init_many (a ∷ b ∷ c ∷ d ∷ e ∷ []) many = refl
init_many (a ∷ b ∷ c ∷ d ∷ e ∷ f ∷ []) many = refl
init_many (a ∷ b ∷ c ∷ d ∷ e ∷ f ∷ g ∷ []) many = refl
init_many (a ∷ b ∷ c ∷ d ∷ e ∷ f ∷ g ∷ h ∷ []) many = absurd (omega arith)
init_many (a ∷ b ∷ c ∷ d ∷ e ∷ f ∷ g ∷ h ∷ i ∷ rest) many = refl

-- eight of them, one by one
pub eight : {A B : Type 0} (fn : A → B) (xs : List A) (a b c d e f g h : A) → length xs ≡ 8 → a ≡ get_or xs 0 a → b ≡ get_or xs 1 b → c ≡ get_or xs 2 c → d ≡ get_or xs 3 d → e ≡ get_or xs 4 e → f ≡ get_or xs 5 f → g ≡ get_or xs 6 g → h ≡ get_or xs 7 h → map fn xs ≡ fn a ∷ fn b ∷ fn c ∷ fn d ∷ fn e ∷ fn f ∷ fn g ∷ fn h ∷ []
eight fn [] a b c d e f g h size p0 p1 p2 p3 p4 p5 p6 p7 = absurd (omega arith)
eight fn (x0 ∷ []) a b c d e f g h size p0 p1 p2 p3 p4 p5 p6 p7 = absurd (omega arith)
eight fn (x0 ∷ x1 ∷ []) a b c d e f g h size p0 p1 p2 p3 p4 p5 p6 p7 = absurd (omega arith)
eight fn (x0 ∷ x1 ∷ x2 ∷ []) a b c d e f g h size p0 p1 p2 p3 p4 p5 p6 p7 = absurd (omega arith)
eight fn (x0 ∷ x1 ∷ x2 ∷ x3 ∷ []) a b c d e f g h size p0 p1 p2 p3 p4 p5 p6 p7 = absurd (omega arith)
eight fn (x0 ∷ x1 ∷ x2 ∷ x3 ∷ x4 ∷ []) a b c d e f g h size p0 p1 p2 p3 p4 p5 p6 p7 = absurd (omega arith)
eight fn (x0 ∷ x1 ∷ x2 ∷ x3 ∷ x4 ∷ x5 ∷ []) a b c d e f g h size p0 p1 p2 p3 p4 p5 p6 p7 = absurd (omega arith)
eight fn (x0 ∷ x1 ∷ x2 ∷ x3 ∷ x4 ∷ x5 ∷ x6 ∷ []) a b c d e f g h size p0 p1 p2 p3 p4 p5 p6 p7 = absurd (omega arith)
eight fn (x0 ∷ x1 ∷ x2 ∷ x3 ∷ x4 ∷ x5 ∷ x6 ∷ x7 ∷ []) a b c d e f g h size p0 p1 p2 p3 p4 p5 p6 p7 = cc
eight fn (x0 ∷ x1 ∷ x2 ∷ x3 ∷ x4 ∷ x5 ∷ x6 ∷ x7 ∷ x8 ∷ rest) a b c d e f g h size p0 p1 p2 p3 p4 p5 p6 p7 = absurd (omega arith)

-- the first of eight words says whether they are the command
pub other_init : (words : List (List ℕ)) (name d r l alpha w m freeze : List ℕ) → words ≡ name ∷ d ∷ r ∷ l ∷ alpha ∷ w ∷ m ∷ freeze ∷ [] → bytes_eq name (codes "init") ≡ false → init_setting words ≡ None
other_init words name d r l alpha w m freeze eight other =
    ap init_setting eight ∙ ap (λ b. if b then kept_given (graph_of d r l alpha) (keeping_of w m freeze) else None) other

pub its_init : (words : List (List ℕ)) (name d r l alpha w m freeze : List ℕ) → words ≡ name ∷ d ∷ r ∷ l ∷ alpha ∷ w ∷ m ∷ freeze ∷ [] → bytes_eq name (codes "init") ≡ true → init_setting words ≡ kept_given (graph_of d r l alpha) (keeping_of w m freeze)
its_init words name d r l alpha w m freeze eight is =
    ap init_setting eight ∙ ap (λ b. if b then kept_given (graph_of d r l alpha) (keeping_of w m freeze) else None) is
