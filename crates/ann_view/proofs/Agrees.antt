-- A point has the same vector and tag among more points.
use Rattle.std.proofs.Common.{◌≡◌, ℕ, true, false, cond, eqb, List, [], ◌∷◌, ◌++◌, refl, sym, ap, ◌∙◌, subst, arith, map, inl, inr, eq-eqb}
use Rattle.std.proofs.lemmas.Bool.{false≢true, eqb-true, ne_eqb}
use Rattle.ann_types.specs.Order.{has}
use Rattle.ann_types.specs.Distance.{distance}
use Rattle.ann_types.specs.Graph.{Point, pids_of, vector_of, tag_of, far_from}
use Rattle.ann_types.proofs.Ordered.{has_cases, has_here, has_later}
use Rattle.ann_types.proofs.Sets.{Rises, rises_across, not_among}
use Rattle.ann_types.proofs.Named.{pids_append}
use Rattle.ann_beam.specs.Ranking.{Ranked, rank}

-- each of some points is the same among all
abbrev pub Agrees : List Point → List Point → Type 0
Agrees some all = (p : ℕ) → has (pids_of some) p ≡ true → (vector_of all p ≡ vector_of some p) × (tag_of all p ≡ tag_of some p)

pub agrees_left : (xs ys : List Point) → Agrees xs (xs ++ ys)
agrees_left [] ys p h = absurd (false≢true h)
agrees_left (x ∷ xs) ys p h =
    elim (eqb x.pid p) as (λ t. eqb x.pid p ≡ t → (cond t x.vector (vector_of (xs ++ ys) p) ≡ cond t x.vector (vector_of xs p)) × (cond t x.tag (tag_of (xs ++ ys) p) ≡ cond t x.tag (tag_of xs p))) [
      | true ↦ λ e. (refl, refl)
      | false ↦ λ e. agrees_left xs ys p (elim (has_cases x.pid p (pids_of xs) h) [
        | inl s ↦ absurd (false≢true (sym e ∙ eq-eqb x.pid p (sym (eqb-true p x.pid s))))
        | inr later ↦ later
      ])
    ] refl

skipped : (xs ys : List Point) (p : ℕ) → has (pids_of xs) p ≡ false → (vector_of (xs ++ ys) p ≡ vector_of ys p) × (tag_of (xs ++ ys) p ≡ tag_of ys p)
skipped [] ys p h = (refl, refl)
skipped (x ∷ xs) ys p h =
    let other : eqb x.pid p ≡ false = ne_eqb x.pid p (λ e. false≢true (sym h ∙ has_here x.pid p (pids_of xs) (eq-eqb p x.pid (sym e)))) in
    let rest : has (pids_of xs) p ≡ false = not_among (pids_of xs) p (λ k. false≢true (sym h ∙ has_later x.pid p (pids_of xs) k)) in
    let later = skipped xs ys p rest in
    (ap (λ t. cond t x.vector (vector_of (xs ++ ys) p)) other ∙ later.0, ap (λ t. cond t x.tag (tag_of (xs ++ ys) p)) other ∙ later.1)

pub agrees_right : (xs ys : List Point) → Rises (pids_of (xs ++ ys)) → Agrees ys (xs ++ ys)
agrees_right xs ys r p h =
    skipped xs ys p (not_among (pids_of xs) p (λ k. let below = rises_across (pids_of xs) (pids_of ys) p p (subst Rises (pids_append xs ys) r) k h in absurd (omega arith)))

pub agrees_trans : (xs ys zs : List Point) → ((p : ℕ) → has (pids_of xs) p ≡ true → has (pids_of ys) p ≡ true) → Agrees xs ys → Agrees ys zs → Agrees xs zs
agrees_trans xs ys zs inside one two p h =
    let first = one p h in
    let then = two p (inside p h) in
    (then.0 ∙ first.0, then.1 ∙ first.1)

-- the ranks of such points
pub ranks_agree : (some all : List Point) (query pids : List ℕ) → Agrees some all → ((p : ℕ) → has pids p ≡ true → has (pids_of some) p ≡ true) → map (rank (far_from some query) (tag_of some)) pids ≡ map (rank (far_from all query) (tag_of all)) pids
ranks_agree some all query [] agrees inside = refl
ranks_agree some all query (p ∷ pids) agrees inside =
    let same = agrees p (inside p (has_here p p pids (eq-eqb p p refl))) in
    ap (λ (v : List ℕ). (let x : Ranked = record { pid = p; tag = tag_of some p; distance = distance query v } in x) ∷ map (rank (far_from some query) (tag_of some)) pids) (sym same.0)
    ∙ ap (λ t. (let x : Ranked = record { pid = p; tag = t; distance = far_from all query p } in x) ∷ map (rank (far_from some query) (tag_of some)) pids) (sym same.1)
    ∙ ap (λ t. rank (far_from all query) (tag_of all) p ∷ t) (ranks_agree some all query pids agrees (λ q h. inside q (has_later p q pids h)))
