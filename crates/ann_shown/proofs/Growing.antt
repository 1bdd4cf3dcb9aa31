-- The steps on what is published keep its rule.
use Rattle.std.proofs.Common.{◌≡◌, ℕ, ◌≢◌, Bool, true, false, nat_lt, cond, [], ◌∷◌, set, refl, sym, subst, ⊎_elim, arith}
use Rattle.std.proofs.lemmas.Bool.Decides.{nat_tests}
use Rattle.std.specs.Prelude.{Result, Ok, Err, MatchResult}
use mathlib.Core.Option.{some}
use lib.ListN.{get_elem?}
use Rattle.crossbeam_utils.specs.Register.{Admits, TurnsAt, Forks, Merges}
use Rattle.atomic_table.proofs.Lists.{at_set, at_snoc}
use Rattle.ann_types.specs.Lists.{BasedList, BeginsWith, length_of}
use Rattle.ann_line.proofs.Begins.{begins_self, begins_trans, begins_whole}
use Rattle.ann_pen.specs.Published.{Published}
use Rattle.ann_shown.specs.Rising.{Risen, longer}
use Rattle.ann_shown.specs.Publishing.{last_of}

-- what is published knows itself
pub opens : (h : BasedList) → Risen h h (h ∷ [])
opens h = record { opened = begins_self h; each = λ seat v at. ⊎_elim (λ (t : get_elem? [] seat ≡ some v). absurd cc) (λ (is : h ≡ v). subst (λ (z : BasedList). BeginsWith h z) is (begins_self h)) (at_snoc [] h v seat at) }

pub admits : (h : BasedList) → Admits (λ (x : BasedList). Risen h x) h
admits h x views r = record { opened = r.opened; each = λ seat v at. ⊎_elim (r.each seat v) (λ (is : h ≡ v). subst (λ (z : BasedList). BeginsWith x z) is r.opened) (at_snoc views h v seat at) }

-- what is published grows, and the one whose step it is knows it then
pub rises : (h : BasedList) (seat : ℕ) (v x y : BasedList) → BeginsWith y x → TurnsAt (λ (p : BasedList). Risen h p) seat v x y (λ v x y w. BeginsWith x v × (w ≡ y))
rises h seat v x y up views r at = (
  y,
  record {
    opened = begins_trans h x y r.opened up;
    each =
        λ j u e. ⊎_elim (λ (t : (j ≡ seat) × (y ≡ u)). subst (λ (z : BasedList). BeginsWith y z) t.1 (begins_self y)) (λ (t : (j ≢ seat) × (get_elem? views j ≡ some u)). begins_trans u x y (r.each j u t.1) up)
        (at_set views seat j y u e);
  },
  (r.each seat v at, refl),
)

-- the writer tells what it knows
pub forks : (h : BasedList) (id : ℕ) (v : BasedList) → Forks (λ (x : BasedList). Risen h x) id v v v
forks h id v x views r at =
    let known : BeginsWith x v = r.each id v at in
    record {
      opened = r.opened;
      each =
          λ seat u e. ⊎_elim (λ (a : get_elem? (set views id v) seat ≡ some u). ⊎_elim (λ (t : (seat ≡ id) × (v ≡ u)). subst (λ (z : BasedList). BeginsWith x z) t.1 known) (λ (t : (seat ≢ id) × (get_elem? views seat ≡ some u)). r.each seat u t.1) (at_set views id seat v u a))
          (λ (is : v ≡ u). subst (λ (z : BasedList). BeginsWith x z) is known) (at_snoc (set views id v) v u seat e);
    }

either_begins : (b : Bool) (v w x : BasedList) → BeginsWith x v → BeginsWith x w → BeginsWith x (cond b w v)
either_begins true v w x p q = q
either_begins false v w x p q = p

-- a reader takes it in
pub merges : (h : BasedList) (id other : ℕ) (w : BasedList) → Merges (λ (x : BasedList). Risen h x) id h other w (longer h w) h
merges h id other w x views r at apart there =
    let both : BasedList = longer h w in
    let known : BeginsWith x w = ⊎_elim (λ (t : (other ≡ id) × (both ≡ w)). absurd (apart t.0)) (λ (t : (other ≢ id) × (get_elem? views other ≡ some w)). r.each other w t.1) (at_set views id other both w there) in
    let known' : BeginsWith x both = either_begins (nat_lt (length_of h) (length_of w)) h w x r.opened known in
    record {
      opened = r.opened;
      each =
          λ seat u e. ⊎_elim (λ (t : (seat ≡ other) × (h ≡ u)). subst (λ (z : BasedList). BeginsWith x z) t.1 r.opened)
          (λ (t : (seat ≢ other) × (get_elem? (set views id both) seat ≡ some u)). ⊎_elim (λ (q : (seat ≡ id) × (both ≡ u)). subst (λ (z : BasedList). BeginsWith x z) q.1 known') (λ (q : (seat ≢ id) × (get_elem? views seat ≡ some u)). r.each seat u q.1)
          (at_set views id seat both u t.1))
          (at_set (set views id both) other seat h u e);
    }

either_same : (b : Bool) (v w : BasedList) → (b ≡ false → w ≡ v) → cond b w v ≡ w
either_same true v w same = refl
either_same false v w same = sym (same refl)

-- of a list and one that begins with it, that one is the longer
pub longer_is : (h w : BasedList) → BeginsWith w h → longer h w ≡ w
longer_is h w p = either_same (nat_lt (length_of h) (length_of w)) h w (λ no. begins_whole w h p (grind (arith, nat_tests)))

-- ---- the writer, after it has published

-- it knows what is published, or all is as before
abbrev pub HasPublished : {E : Type 0} → Result (Unit {0}) E → Published BasedList BasedList BasedList → Published BasedList BasedList BasedList → Type 0
HasPublished r old new =
    MatchResult r
    (λ _. (new.value ≡ last_of old.value old.waiting) × (new.waiting ≡ []) × (BeginsWith old.value old.knows × (new.knows ≡ new.value)))
    (λ _. new ≡ old)

abbrev pub Knows : BasedList → Published BasedList BasedList BasedList → Type 0
Knows opening p = (p.knows ≡ p.value) × BeginsWith p.value opening

pub knows_still : {E : Type 0} (r : Result (Unit {0}) E) (opening : BasedList) (old new : Published BasedList BasedList BasedList) → Knows opening old → BeginsWith (last_of old.value old.waiting) old.value → HasPublished r old new → Knows opening new
knows_still (Ok x) opening old new before up after = (after.2.1, subst (λ (z : BasedList). BeginsWith z opening) (sym after.0) (begins_trans opening old.value (last_of old.value old.waiting) before.1 up))
knows_still (Err e) opening old new before up after = subst (λ p. Knows opening p) (sym after) before
