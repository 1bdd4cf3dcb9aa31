-- Lists of claimers, taken from the back.
use Rattle.std.proofs.Common.{◌≡◌, ℕ, zero, suc, ◌+◌, true, List, [], ◌∷◌, ◌++◌, length, All, Bool, cond, length-append, sym, ap, ◌∙◌, append_assoc, arith}
use Rattle.std.proofs.lemmas.List.{append-nil}
use Rattle.ann_claim.specs.Claims.{Drawer, all_drawn}

all_front : (P : Drawer → Type 0) (xs ys : List Drawer) → All P (xs ++ ys) → All P xs
all_front P [] ys h k d less = absurd (omega arith)
all_front P (x ∷ xs) ys h zero d less = h zero d (omega arith)
all_front P (x ∷ xs) ys h (suc k) d less = all_front P xs ys (λ j e l. h (suc j) e (omega arith)) k d (omega arith)

all_last : (P : Drawer → Type 0) (xs : List Drawer) (x : Drawer) → All P (xs ++ x ∷ []) → P x
all_last P [] x h = h zero x (omega arith)
all_last P (y ∷ xs) x h = all_last P xs x (λ j e l. h (suc j) e (omega arith))

-- what holds of all holds of the others and of the last
pub popped : (P : Drawer → Type 0) (all xs : List Drawer) (c : Drawer) → all ≡ xs ++ c ∷ [] → All P all → All P xs × P c
popped P all xs c e h = let h' : All P (xs ++ c ∷ []) = rw e at h in (all_front P xs (c ∷ []) h', all_last P xs c h')

pub all_drawn_last : (xs : List Drawer) (c : Drawer) → all_drawn (xs ++ c ∷ []) ≡ all_drawn xs ++ c.drawn
all_drawn_last [] c = simp (append-nil)
all_drawn_last (x ∷ xs) c = ap (λ l. x.drawn ++ l) (all_drawn_last xs c) ∙ sym (append_assoc x.drawn (all_drawn xs) c.drawn)

pub length_last : (all xs : List Drawer) (c : Drawer) → all ≡ xs ++ c ∷ [] → length all ≡ length xs + 1
length_last all xs c e = ap length e ∙ simp length-append (omega arith)

pub one_ended : (n : ℕ) (b : Bool) → n ≡ cond b 1 0 → b ≡ true → n ≡ 1
one_ended n b e t = e ∙ ap (λ (x : Bool). cond x 1 0) t
