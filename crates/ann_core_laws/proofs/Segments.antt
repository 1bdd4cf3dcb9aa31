-- The kept segments: what is found in them after one more, and after one less.
use Rattle.std.proofs.Common.{◌≡◌, ◌∙◌, ◌≢◌, ℕ, ◌+◌, ◌*◌, ◌<◌, Bool, true, false, cond, eqb, eqb-true, not, ◌&&◌, ◌||◌, List, [], ◌∷◌, ◌++◌, filter, flat_map, length, slice_get, refl, sym, ap, subst, arith}
use Rattle.std.specs.Prelude.{Option, Some, None, MatchOption, All, IsTrue}
use Rattle.std.specs.List.{list_any}
use Rattle.std.proofs.lemmas.Bool.{false≢true, or_parts}
use Rattle.std.proofs.lemmas.List.Elements.{All-head, All-tail}
use Rattle.std.proofs.lemmas.Option.{slice_get_within}
use Rattle.ann_types.specs.Graph.{Graph, empty_graph}
use Rattle.ann_types.specs.Order.{has}
use Rattle.ann_types.specs.Index.{Index}
use Rattle.ann_types.specs.Fold.{State, fold_of}
use Rattle.ann_types.specs.declared.entry.Entry.{Entry}
use Rattle.ann_types.proofs.Booleans.{same_true, not_same}
use Rattle.ann_core_laws.specs.State.{Kept, logged, last_end, graph_in, named_graph, held_or_empty, held_state, of_end}
use Rattle.ann_core_laws.specs.Facts.{HoldsEnd, IsOfBegin}
use Rattle.ann_core_laws.proofs.Logged.{lti_none}

-- ---- one more

pub found_stays : (kept : List Kept) (x : Kept) (n : ℕ) (g : Graph) → graph_in kept n ≡ Some g → graph_in (kept ++ x ∷ []) n ≡ Some g
found_stays [] x n g f = cc
found_stays (k ∷ ks) x n g f =
    elim (eqb k.number n) as (λ t. cond t (Some k.graph) (graph_in ks n) ≡ Some g → cond t (Some k.graph) (graph_in (ks ++ x ∷ []) n) ≡ Some g) [ true ↦ λ e. e | false ↦ λ e. found_stays ks x n g e ] f

pub found_new : (kept : List Kept) (n : ℕ) (g : Graph) → graph_in kept n ≡ None → graph_in (kept ++ (record { number = n; graph = g }) ∷ []) n ≡ Some g
found_new [] n g f = ap (λ t. cond t (Some g) None) (same_true n n refl)
found_new (k ∷ ks) n g f =
    elim (eqb k.number n) as (λ t. cond t (Some k.graph) (graph_in ks n) ≡ None → cond t (Some k.graph) (graph_in (ks ++ (record { number = n; graph = g }) ∷ []) n) ≡ Some g) [ true ↦ λ e. cc | false ↦ λ e. found_new ks n g e ] f

-- ---- one less

abbrev pub lacking : List Kept → ℕ → List Kept
lacking kept n = filter (λ k. not (eqb k.number n)) kept

pub others_stay : (kept : List Kept) (n m : ℕ) → m ≢ n → graph_in (lacking kept n) m ≡ graph_in kept m
others_stay [] n m d = refl
others_stay (k ∷ ks) n m d =
    elim (eqb k.number n) as (λ t. eqb k.number n ≡ t → graph_in (cond (not t) (k ∷ lacking ks n) (lacking ks n)) m ≡ graph_in (k ∷ ks) m) [
      | true ↦ λ e. others_stay ks n m d ∙ sym (ap (λ t. cond t (Some k.graph) (graph_in ks m)) (not_same k.number m (λ same. d (sym same ∙ eqb-true k.number n e))))
      | false ↦ λ e. ap (cond (eqb k.number m) (Some k.graph)) (others_stay ks n m d)
    ] refl

-- ---- a number that no kept segment has

pub absent : (list : List Entry) (kept : List Kept) (n : ℕ) → All (λ (k : Kept). IsOfBegin list k.number) kept → 2 * length list < n → graph_in kept n ≡ None
absent list [] n a big = refl
absent list (k ∷ ks) n a big =
    let first : IsOfBegin list k.number = All-head (λ (x : Kept). IsOfBegin list x.number) k ks a in
    let within = slice_get_within list first.position _ first.begin in
    let number = first.is in
    ap (λ t. cond t (Some k.graph) (graph_in ks n)) (not_same k.number n (λ same. omega (arith, same, within, number, big)))
    ∙ absent list ks n (All-tail (λ (x : Kept). IsOfBegin list x.number) k ks a) big

-- ---- what a list's last End names

ends_by : (index : Index) (kept kept' : List Kept) (entries : List Entry) → ((n : ℕ) → last_end entries ≡ Some n → graph_in kept n ≡ Some (fold_of index (logged entries)).lti → graph_in kept' n ≡ Some (fold_of index (logged entries)).lti) → HoldsEnd index kept entries → HoldsEnd index kept' entries
ends_by index kept kept' entries each =
    elim (last_end entries) as (λ o. last_end entries ≡ o → MatchOption o (Unit {0}) (λ n. graph_in kept n ≡ Some (fold_of index (logged entries)).lti) → MatchOption o (Unit {0}) (λ n. graph_in kept' n ≡ Some (fold_of index (logged entries)).lti)) [
      | None ↦ λ e w. tt
      | Some n ↦ λ e w. each n e w
    ] refl

pub holds_more : (index : Index) (kept : List Kept) (x : Kept) (entries : List Entry) → HoldsEnd index kept entries → HoldsEnd index (kept ++ x ∷ []) entries
holds_more index kept x entries = ends_by index kept (kept ++ x ∷ []) entries (λ n e w. found_stays kept x n (fold_of index (logged entries)).lti w)

or_second : (a b : Bool) → (a || b) ≡ false → a ≡ false
or_second true b e = e
or_second false b e = refl

not_named : (o : Option ℕ) (n m : ℕ) → has (of_end o) n ≡ false → o ≡ Some m → m ≢ n
not_named o n m h e same =
    false≢true (sym h ∙ ap (λ (t : Option ℕ). has (of_end t) n) e ∙ ap (λ t. t || false) (same_true n m (sym same)))

pub holds_less : (index : Index) (kept : List Kept) (n : ℕ) (entries : List Entry) → has (of_end (last_end entries)) n ≡ false → HoldsEnd index kept entries → HoldsEnd index (lacking kept n) entries
holds_less index kept n entries h = ends_by index kept (lacking kept n) entries (λ m e w. others_stay kept n m (not_named (last_end entries) n m h e) ∙ w)

-- so the state that is held is the list's
held_lti : (index : Index) (kept : List Kept) (entries : List Entry) → HoldsEnd index kept entries → named_graph kept (last_end entries) ≡ (fold_of index (logged entries)).lti
held_lti index kept entries =
    elim (last_end entries) as (λ o. last_end entries ≡ o → MatchOption o (Unit {0}) (λ n. graph_in kept n ≡ Some (fold_of index (logged entries)).lti) → named_graph kept o ≡ (fold_of index (logged entries)).lti) [
      | None ↦ λ e w. sym (lti_none index entries e)
      | Some n ↦ λ e w. ap held_or_empty w
    ] refl

pub held_is : (index : Index) (kept : List Kept) (entries : List Entry) → HoldsEnd index kept entries → held_state index kept entries ≡ fold_of index (logged entries)
held_is index kept entries w = ap (λ (g : Graph). record (fold_of index (logged entries)) { lti = g }) (held_lti index kept entries w)
