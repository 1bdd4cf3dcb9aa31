-- The law of live tags: the points that aren't deleted are exactly those of the live tags, and each stands
-- in one graph.
use Rattle.std.proofs.Common.{◌≡◌, ℕ, ◌+◌, ◌≤◌, ◌<◌, Bool, true, false, cond, eqb, not, List, [], ◌∷◌, ◌++◌, ◌||◌, ◌&&◌, refl, sym, ap, ◌∙◌, subst, arith, map, filter, flat_map, take, drop, length, append_assoc, append-nil, eqb-true, eq-eqb}
use Rattle.std.specs.Prelude.{Option, Some, None}
use Rattle.std.specs.List.{AllByRecursion}
use Rattle.std.specs.List.Sorted.{IsStrictlyIncreasing}
use Rattle.std.proofs.lemmas.Bool.{and_parts, not-true, ne_eqb, or_left, or_parts}
use Rattle.std.proofs.lemmas.List.{map-append, take-append-drop, drop-append-le, drop_all, nil_from_length, length_push}
use Rattle.std.proofs.lemmas.List.Elements.{filter-append, recursion_from_All}
use Rattle.ann_types.specs.Order.{has, ascending}
use Rattle.ann_types.specs.Graph.{Point, Graph, is_empty, pids_of}
use Rattle.ann_types.specs.Put.{put}
use Rattle.ann_types.specs.Index.{Index}
use Rattle.ann_types.specs.Merge.{without, survivors}
use Rattle.ann_types.specs.Lists.{ListBase, BasedList, bare, length_of, with_entry, with_entries, IsBaseOf, makes_point, next_pid, Names, names_of, is_live, pids_at, unmapped, mapped, live_after, live_of}
use Rattle.ann_types.specs.Fold.{Begun, State, all_points, alive_of, start, frozen, grown, inserted, deleted, opened, begun_at, merge_of, switched, step, fold_from, fold_of}
use Rattle.ann_types.specs.Legal.{fits, may_follow, legal_from, is_legal}
use Rattle.ann_types.specs.declared.params.Params.{Params}
use Rattle.ann_types.specs.declared.entry.Entry.{Entry}
use Rattle.ann_types.specs.declared.entry.Entry.TheVariants.{Insert, Delete, Begin, End, Replace}
use Rattle.ann_types.proofs.Ordered.{has_append}
use Rattle.ann_types.proofs.Walks.{Inside}
use Rattle.ann_types.proofs.Sets.{Rises, increasing_from_rises, rises_from_increasing, has_ascending, has_below, below_from_has, none_from_below, all_append, all_weaker, all_filter, all_map, all_of_map, rises_push}
use Rattle.ann_types.proofs.Named.{name, pids_are, names_append, names_put, names_merge_of}
use Rattle.ann_types.proofs.Folds.{entries_none, entries_then, next_pid_push, live_push}
use Rattle.ann_types.proofs.Booleans.{and_comm}
use Rattle.std.proofs.lemmas.Grind.{flat_map-append}

-- ---- filters

filter_true : {A : Type 0} (xs : List A) → filter (λ _. true) xs ≡ xs
filter_true [] = refl
filter_true (x ∷ xs) = ap (λ t. x ∷ t) (filter_true xs)

filter_along : {A : Type 0} (p q : A → Bool) (xs : List A) → AllByRecursion (λ x. p x ≡ q x) xs → filter p xs ≡ filter q xs
filter_along p q [] a = refl
filter_along p q (x ∷ xs) (b, a) = ap (λ t. cond t (x ∷ filter p xs) (filter p xs)) b ∙ ap (λ t. cond (q x) (x ∷ t) t) (filter_along p q xs a)

filter_same : {A : Type 0} (p q : A → Bool) (xs : List A) → ((x : A) → p x ≡ q x) → filter p xs ≡ filter q xs
filter_same {A = A} p q xs same = filter_along p q xs (each xs)
  where
    each : (ys : List A) → AllByRecursion (λ x. p x ≡ q x) ys
    each [] = tt
    each (y ∷ ys) = (same y, each ys)

filter_twice : {A : Type 0} (p q : A → Bool) (xs : List A) → filter q (filter p xs) ≡ filter (λ x. p x && q x) xs
filter_twice p q [] = refl
filter_twice p q (x ∷ xs) =
    elim (p x) as (λ t. filter q (cond t (x ∷ filter p xs) (filter p xs)) ≡ cond (t && q x) (x ∷ filter (λ y. p y && q y) xs) (filter (λ y. p y && q y) xs)) [
      | true ↦ ap (λ t. cond (q x) (x ∷ t) t) (filter_twice p q xs)
      | false ↦ filter_twice p q xs
    ]

filter_map_comm : {A B : Type 0} (f : A → B) (q : B → Bool) (xs : List A) → map f (filter (λ x. q (f x)) xs) ≡ filter q (map f xs)
filter_map_comm f q [] = refl
filter_map_comm f q (x ∷ xs) = elim (q (f x)) as (λ t. map f (cond t (x ∷ filter (λ y. q (f y)) xs) (filter (λ y. q (f y)) xs)) ≡ cond t (f x ∷ filter q (map f xs)) (filter q (map f xs))) [ true ↦ ap (λ t. f x ∷ t) (filter_map_comm f q xs) | false ↦ filter_map_comm f q xs ]

pub has_filter_is : (q : ℕ → Bool) (xs : List ℕ) (p : ℕ) → has (filter q xs) p ≡ (has xs p && q p)
has_filter_is q [] p = refl
has_filter_is q (x ∷ xs) p =
    elim (q x) as (λ t. q x ≡ t → has (cond t (x ∷ filter q xs) (filter q xs)) p ≡ ((eqb p x || has xs p) && q p)) [
      | true ↦ λ e. ap (λ t. eqb p x || t) (has_filter_is q xs p) ∙ elim (eqb p x) as (λ t. eqb p x ≡ t → (t || (has xs p && q p)) ≡ ((t || has xs p) && q p)) [
        | true ↦ λ s. sym (ap q (eqb-true p x s) ∙ e)
        | false ↦ λ s. refl
      ] refl
      | false ↦ λ e. has_filter_is q xs p ∙ elim (eqb p x) as (λ t. eqb p x ≡ t → (has xs p && q p) ≡ ((t || has xs p) && q p)) [
        | true ↦ λ s. and_comm (has xs p) (q p) ∙ ap (λ t. t && has xs p) (ap q (eqb-true p x s) ∙ e) ∙ sym (ap q (eqb-true p x s) ∙ e)
        | false ↦ λ s. refl
      ] refl
    ] refl

-- ---- names with Pids that rise

abbrev pub pids : Names → List ℕ
pids es = map (λ e. e.1) es

abbrev pub NamesRise : Names → Type 0
NamesRise es = Rises (pids es)

names_rise_filter : (q : ℕ × ℕ → Bool) (es : Names) → NamesRise es → NamesRise (filter q es)
names_rise_filter q [] r = tt
names_rise_filter q (e ∷ es) (a, r) =
    elim (q e) as (λ t. NamesRise (cond t (e ∷ filter q es) (filter q es))) [
      | true ↦ (all_map (λ y. e.1 < y) (λ x. x.1) (filter q es) (all_filter (λ x. e.1 < x.1) q es (all_of_map (λ y. e.1 < y) (λ x. x.1) es a)), names_rise_filter q es r)
      | false ↦ names_rise_filter q es r
    ]

pids_filter : (P : ℕ → Type 0) (q : ℕ × ℕ → Bool) (es : Names) → AllByRecursion P (pids es) → AllByRecursion P (pids (filter q es))
pids_filter P q es a = all_map P (λ x. x.1) (filter q es) (all_filter (λ x. P x.1) q es (all_of_map P (λ x. x.1) es a))

-- the Pids of a tag are Pids of the map
pids_at_all : (P : ℕ → Type 0) (es : Names) (tag : ℕ) → AllByRecursion P (pids es) → AllByRecursion P (pids_at es tag)
pids_at_all P es tag a = pids_filter P (λ e. eqb e.0 tag) es a

-- taking away the Pids of a tag takes away the tag
pub untagged : (tag : ℕ) (es : Names) → NamesRise es → filter (λ e. not (has (pids_at es tag) e.1)) es ≡ unmapped es tag
untagged tag [] r = refl
untagged tag (e ∷ es) (a, r) =
    elim (eqb e.0 tag) as (λ t. filter (λ x. not (has (pids (cond t (e ∷ filter (λ y. eqb y.0 tag) es) (filter (λ y. eqb y.0 tag) es))) x.1)) (e ∷ es) ≡ cond (not t) (e ∷ unmapped es tag) (unmapped es tag)) [
      | true ↦
          ap (λ t. cond (not (t || has (pids_at es tag) e.1)) (e ∷ filter (λ x. not (has (e.1 ∷ pids_at es tag) x.1)) es) (filter (λ x. not (has (e.1 ∷ pids_at es tag) x.1)) es)) (eq-eqb e.1 e.1 refl)
          ∙ filter_along (λ x. not (has (e.1 ∷ pids_at es tag) x.1)) (λ x. not (has (pids_at es tag) x.1)) es (all_weaker (λ x. e.1 < x.1) (λ x. not (has (e.1 ∷ pids_at es tag) x.1) ≡ not (has (pids_at es tag) x.1)) es (λ x h. ap (λ t. not (t || has (pids_at es tag) x.1)) (ne_eqb x.1 e.1 (λ k. absurd (omega arith)))) (all_of_map (λ y. e.1 < y) (λ x. x.1) es a))
          ∙ untagged tag es r
      | false ↦
          ap (λ t. cond (not t) (e ∷ filter (λ x. not (has (pids_at es tag) x.1)) es) (filter (λ x. not (has (pids_at es tag) x.1)) es)) (none_above e.1 (pids_at es tag) (pids_at_all (λ y. e.1 < y) es tag a))
          ∙ ap (λ t. e ∷ t) (untagged tag es r)
    ]
  where
    none_above : (n : ℕ) (xs : List ℕ) → AllByRecursion (λ y. n < y) xs → has xs n ≡ false
    none_above n [] a = refl
    none_above n (x ∷ xs) (h, a) = ap (λ t. t || has xs n) (ne_eqb n x (λ e. absurd (omega arith))) ∙ none_above n xs a

-- a tag that isn't live needs no taking out
pub unmapped_none : (es : Names) (tag : ℕ) → is_live es tag ≡ false → unmapped es tag ≡ es
unmapped_none [] tag h = refl
unmapped_none (e ∷ es) tag h =
    let both = or_parts (eqb e.0 tag) (is_live es tag) h in
    ap (λ t. cond (not t) (e ∷ unmapped es tag) (unmapped es tag)) both.0 ∙ ap (λ t. e ∷ t) (unmapped_none es tag both.1)

pub names_survivors : (gone : List ℕ) (points : List Point) → names_of (survivors gone points) ≡ filter (λ e. not (has gone e.1)) (names_of points)
names_survivors gone points = filter_map_comm name (λ e. not (has gone e.1)) points

-- ---- what holds of the state of each legal list

-- the points behind those that the open merge takes
abbrev pub behind : State → Begun → List Point
behind s b = flat_map (λ (g : Graph). g.points) (drop b.frozen s.ros) ++ s.rw.points

-- what a merge takes is there: its graphs, its deleted points, and these are older than all points behind
pub record Holds (next : ℕ) (s : State) (b : Begun) : Type 0 where
  pub frozen : b.frozen ≤ length s.ros
  pub gone : Inside (has s.dead) b.gone
  pub bound : ℕ
  pub older : AllByRecursion (λ p. p < bound) b.gone
  pub newer : AllByRecursion (λ e. bound ≤ e.1) (names_of (behind s b))
  pub near : bound ≤ next

abbrev pub OpenHolds : ℕ → State → Option Begun → Type 0
OpenHolds next s None = Unit {0}
OpenHolds next s (Some b) = Holds next s b

-- Pids rise through the graphs and are below the next one, the deleted ones too; the points that aren't
-- deleted are the live tags
pub record Good (next : ℕ) (live : Names) (s : State) : Type 0 where
  pub rises : NamesRise (names_of (all_points s))
  pub below : AllByRecursion (λ p. p < next) (pids (names_of (all_points s)))
  pub dead : AllByRecursion (λ p. p < next) s.dead
  pub merge : OpenHolds next s s.begun
  pub alive : live ≡ alive_of s

-- ---- a graph freezes

abbrev pub frozen_points : List Graph → List Point
frozen_points gs = flat_map (λ (g : Graph). g.points) gs

pub frozen_push : (gs : List Graph) (g : Graph) → frozen_points (gs ++ g ∷ []) ++ [] ≡ frozen_points gs ++ g.points
frozen_push gs g =
    append-nil (frozen_points (gs ++ g ∷ []))
    ∙ flat_map-append (λ (x : Graph). x.points) gs (g ∷ [])
    ∙ ap (λ t. frozen_points gs ++ t) (append-nil g.points)

pub all_points_frozen : (s : State) (g : Graph) → all_points (frozen s g) ≡ all_points (record s { rw = g })
all_points_frozen s g =
    append_assoc s.lti.points (frozen_points (s.ros ++ g ∷ [])) []
    ∙ ap (λ t. s.lti.points ++ t) (frozen_push s.ros g)
    ∙ sym (append_assoc s.lti.points (frozen_points s.ros) g.points)

pub behind_frozen : (s : State) (g : Graph) (b : Begun) → b.frozen ≤ length s.ros → behind (frozen s g) b ≡ behind (record s { rw = g }) b
behind_frozen s g b l = ap (λ t. frozen_points t ++ []) (drop-append-le b.frozen s.ros (g ∷ []) l) ∙ frozen_push (drop b.frozen s.ros) g

freeze_open : (next : ℕ) (s : State) (g : Graph) (o : Option Begun) → OpenHolds next (record s { rw = g }) o → OpenHolds next (frozen s g) o
freeze_open next s g None w = tt
freeze_open next s g (Some b) w = record {
  frozen = (let size = length_push s.ros g in let more = w.frozen in omega arith);
  gone = w.gone;
  bound = w.bound;
  older = w.older;
  newer = subst (λ (t : List Point). AllByRecursion (λ e. w.bound ≤ e.1) (names_of t)) (sym (behind_frozen s g b w.frozen)) w.newer;
  near = w.near;
}

freeze_good : (next : ℕ) (live : Names) (s : State) (g : Graph) → Good next live (record s { rw = g }) → Good next live (frozen s g)
freeze_good next live s g w = record {
  rises = subst (λ (t : List Point). NamesRise (names_of t)) (sym (all_points_frozen s g)) w.rises;
  below = subst (λ (t : List Point). AllByRecursion (λ p. p < next) (pids (names_of t))) (sym (all_points_frozen s g)) w.below;
  dead = w.dead;
  merge = freeze_open next s g s.begun w.merge;
  alive = w.alive ∙ ap (λ (t : List Point). filter (λ e. not (has s.dead e.1)) (names_of t)) (sym (all_points_frozen s g));
}

grow_good : (params : Params) (next : ℕ) (live : Names) (s : State) (g : Graph) → Good next live (record s { rw = g }) → Good next live (grown params s g)
grow_good params next live s g w =
    elim (eqb (length g.points) params.freeze_at) as (λ t. Good next live (cond t (frozen s g) (record s { rw = g }))) [ true ↦ freeze_good next live s g w | false ↦ w ]

-- ---- a point is put

names_put_all : (params : Params) (s : State) (n tag : ℕ) (vector : List ℕ) → names_of (all_points (record s { rw = put params s.rw n tag vector })) ≡ names_of (all_points s) ++ (tag, n) ∷ []
names_put_all params s n tag vector =
    let older : List Point = s.lti.points ++ frozen_points s.ros in
    names_append older (put params s.rw n tag vector).points
    ∙ ap (λ t. names_of older ++ t) (names_put params s.rw n tag vector)
    ∙ sym (append_assoc (names_of older) (names_of s.rw.points) ((tag, n) ∷ []))
    ∙ ap (λ t. t ++ (tag, n) ∷ []) (sym (names_append older s.rw.points))

names_put_behind : (params : Params) (s : State) (b : Begun) (n tag : ℕ) (vector : List ℕ) → names_of (behind (record s { rw = put params s.rw n tag vector }) b) ≡ names_of (behind s b) ++ (tag, n) ∷ []
names_put_behind params s b n tag vector =
    let older : List Point = frozen_points (drop b.frozen s.ros) in
    names_append older (put params s.rw n tag vector).points
    ∙ ap (λ t. names_of older ++ t) (names_put params s.rw n tag vector)
    ∙ sym (append_assoc (names_of older) (names_of s.rw.points) ((tag, n) ∷ []))
    ∙ ap (λ t. t ++ (tag, n) ∷ []) (sym (names_append older s.rw.points))

put_open : (params : Params) (next : ℕ) (s : State) (tag : ℕ) (vector : List ℕ) (o : Option Begun) → OpenHolds next s o → OpenHolds (next + 1) (record s { rw = put params s.rw next tag vector }) o
put_open params next s tag vector None w = tt
put_open params next s tag vector (Some b) w = record {
  frozen = w.frozen;
  gone = w.gone;
  bound = w.bound;
  older = w.older;
  newer = subst (AllByRecursion (λ e. w.bound ≤ e.1)) (sym (names_put_behind params s b next tag vector)) (all_append (λ e. w.bound ≤ e.1) (names_of (behind s b)) ((tag, next) ∷ []) w.newer (w.near, tt));
  near = (let l = w.near in omega arith);
}

pids_push : (es : Names) (e : ℕ × ℕ) → pids (es ++ e ∷ []) ≡ pids es ++ e.1 ∷ []
pids_push es e = map-append (λ x. x.1) es (e ∷ [])

put_good : (params : Params) (next : ℕ) (live : Names) (s : State) (tag : ℕ) (vector : List ℕ) → Good next live s → Good (next + 1) (live ++ (tag, next) ∷ []) (record s { rw = put params s.rw next tag vector })
put_good params next live s tag vector w =
    let names = names_put_all params s next tag vector in
    let all : Names = names_of (all_points s) in
    record {
      rises = subst NamesRise (sym names) (subst Rises (sym (pids_push all (tag, next))) (rises_push (pids all) next w.rises w.below));
      below = subst (λ (t : Names). AllByRecursion (λ p. p < next + 1) (pids t)) (sym names) (subst (AllByRecursion (λ p. p < next + 1)) (sym (pids_push all (tag, next))) (all_append (λ p. p < next + 1) (pids all) (next ∷ []) (all_weaker (λ p. p < next) (λ p. p < next + 1) (pids all) (λ p h. omega arith) w.below) (omega arith, tt)));
      dead = all_weaker (λ p. p < next) (λ p. p < next + 1) s.dead (λ p h. omega arith) w.dead;
      merge = put_open params next s tag vector s.begun w.merge;
      alive =
          ap (λ t. t ++ (tag, next) ∷ []) w.alive
          ∙ sym (
          ap (filter (λ e. not (has s.dead e.1))) names
          ∙ filter-append (λ e. not (has s.dead e.1)) all ((tag, next) ∷ [])
          ∙ ap (λ t. alive_of s ++ cond (not t) ((tag, next) ∷ []) []) (none_from_below next next s.dead w.dead (omega arith)));
    }

-- ---- a tag is deleted

delete_open : (next : ℕ) (s : State) (ps : List ℕ) (o : Option Begun) → OpenHolds next s o → OpenHolds next (deleted s ps) o
delete_open next s ps None w = tt
delete_open next s ps (Some b) w = record {
  frozen = w.frozen;
  gone = λ p h. has_ascending p (s.dead ++ ps) ∙ has_append s.dead ps p ∙ or_left (has s.dead p) (has ps p) (w.gone p h);
  bound = w.bound;
  older = w.older;
  newer = w.newer;
  near = w.near;
}

not_or : (a b : Bool) → not (a || b) ≡ (not a && not b)
not_or true b = refl
not_or false b = refl

delete_good : (next : ℕ) (live : Names) (s : State) (tag : ℕ) → Good next live s → Good next (unmapped live tag) (deleted s (pids_at live tag))
delete_good next live s tag w =
    let ps : List ℕ = pids_at live tag in
    let all : Names = names_of (all_points s) in
    let rises : NamesRise live = subst NamesRise (sym w.alive) (names_rise_filter (λ e. not (has s.dead e.1)) all w.rises) in
    let below : AllByRecursion (λ p. p < next) (pids live) = subst (λ (t : Names). AllByRecursion (λ p. p < next) (pids t)) (sym w.alive) (pids_filter (λ p. p < next) (λ e. not (has s.dead e.1)) all w.below) in
    record {
      rises = w.rises;
      below = w.below;
      dead = below_from_has next (ascending (s.dead ++ ps)) (λ p h. has_below next p (s.dead ++ ps) (all_append (λ x. x < next) s.dead ps w.dead (pids_at_all (λ x. x < next) live tag below)) (sym (has_ascending p (s.dead ++ ps)) ∙ h));
      merge = delete_open next s ps s.begun w.merge;
      alive =
          sym (untagged tag live rises)
          ∙ ap (filter (λ e. not (has ps e.1))) w.alive
          ∙ filter_twice (λ e. not (has s.dead e.1)) (λ e. not (has ps e.1)) all
          ∙ filter_same (λ e. not (has s.dead e.1) && not (has ps e.1)) (λ e. not (has (ascending (s.dead ++ ps)) e.1)) all (λ e. sym (ap not (has_ascending e.1 (s.dead ++ ps) ∙ has_append s.dead ps e.1) ∙ not_or (has s.dead e.1) (has ps e.1)));
    }

-- ---- a merge begins

open_good : (next at : ℕ) (live : Names) (s : State) → s.rw.points ≡ [] → Good next live s → Good next live (opened s at)
open_good next at live s none w = record {
  rises = w.rises;
  below = w.below;
  dead = w.dead;
  merge = record {
    frozen = omega arith;
    gone = λ p h. h;
    bound = next;
    older = w.dead;
    newer = subst (λ (t : List Point). AllByRecursion (λ e. next ≤ e.1) (names_of t)) (sym (ap (λ t. frozen_points t ++ s.rw.points) (drop_all (length s.ros) s.ros (omega arith)) ∙ none)) tt;
    near = omega arith;
  };
  alive = w.alive;
}

begin_good : (next at : ℕ) (live : Names) (s : State) → Good next live s → Good next live (begun_at s at)
begin_good next at live s w =
    elim (is_empty s.rw) as (λ t. is_empty s.rw ≡ t → Good next live (opened (cond t s (frozen s s.rw)) at)) [
      | true ↦ λ e. open_good next at live s (nil_from_length s.rw.points (eqb-true (length s.rw.points) 0 e)) w
      | false ↦ λ e. open_good next at live (frozen s s.rw) refl (freeze_good next live s s.rw w)
    ] refl

-- ---- a merge ends

pub split_points : (s : State) (b : Begun) → all_points s ≡ (s.lti.points ++ frozen_points (take b.frozen s.ros)) ++ behind s b
split_points s b =
    let taken : List Point = frozen_points (take b.frozen s.ros) in
    let rest : List Point = frozen_points (drop b.frozen s.ros) in
    ap (λ t. s.lti.points ++ t ++ s.rw.points) (sym (ap frozen_points (take-append-drop b.frozen s.ros)) ∙ flat_map-append (λ (g : Graph). g.points) (take b.frozen s.ros) (drop b.frozen s.ros))
    ∙ ap (λ t. t ++ s.rw.points) (sym (append_assoc s.lti.points taken rest))
    ∙ append_assoc (s.lti.points ++ taken) rest s.rw.points

keeps_newer : (gone : List ℕ) (bound : ℕ) (es : Names) → AllByRecursion (λ p. p < bound) gone → AllByRecursion (λ e. bound ≤ e.1) es → filter (λ e. not (has gone e.1)) es ≡ es
keeps_newer gone bound es old new =
    filter_along (λ e. not (has gone e.1)) (λ _. true) es (all_weaker (λ e. bound ≤ e.1) (λ e. not (has gone e.1) ≡ true) es (λ e h. ap not (none_from_below bound e.1 gone old h)) new)
    ∙ filter_true es

-- an End leaves the points that its merge didn't delete
names_switched : (index : Index) (next : ℕ) (s : State) (b : Begun) → Holds next s b → names_of (all_points (switched s (merge_of index s (Some b)) (Some b))) ≡ filter (λ e. not (has b.gone e.1)) (names_of (all_points s))
names_switched index next s b w =
    let lti : List Point = (merge_of index s (Some b)).points in
    let older : List Point = s.lti.points ++ frozen_points (take b.frozen s.ros) in
    let q : ℕ × ℕ → Bool = λ e. not (has b.gone e.1) in
    ap names_of (append_assoc lti (frozen_points (drop b.frozen s.ros)) s.rw.points)
    ∙ names_append lti (behind s b)
    ∙ ap (λ t. t ++ names_of (behind s b)) (names_merge_of index s b ∙ names_survivors b.gone older)
    ∙ ap (λ t. filter q (names_of older) ++ t) (sym (keeps_newer b.gone w.bound (names_of (behind s b)) w.older w.newer))
    ∙ sym (filter-append q (names_of older) (names_of (behind s b)))
    ∙ ap (filter q) (sym (ap names_of (split_points s b) ∙ names_append older (behind s b)))

left_dead : (g d : Bool) → (g ≡ true → d ≡ true) → (not g && not (d && not g)) ≡ not d
left_dead true d f = sym (ap not (f refl))
left_dead false true f = refl
left_dead false false f = refl

end_open : (index : Index) (next : ℕ) (live : Names) (s : State) (o : Option Begun) → OpenHolds next s o → Good next live s → o ≡ s.begun → Good next live (switched s (merge_of index s o) o)
end_open index next live s None w good e = good
end_open index next live s (Some b) w good e =
    let all : Names = names_of (all_points s) in
    let names = names_switched index next s b w in
    record {
      rises = subst NamesRise (sym names) (names_rise_filter (λ e. not (has b.gone e.1)) all good.rises);
      below = subst (λ (t : Names). AllByRecursion (λ p. p < next) (pids t)) (sym names) (pids_filter (λ p. p < next) (λ e. not (has b.gone e.1)) all good.below);
      dead = all_filter (λ p. p < next) (λ p. not (has b.gone p)) s.dead good.dead;
      merge = tt;
      alive =
          good.alive
          ∙ sym (
          ap (filter (λ e. not (has (without b.gone s.dead) e.1))) names
          ∙ filter_twice (λ e. not (has b.gone e.1)) (λ e. not (has (without b.gone s.dead) e.1)) all
          ∙ filter_same (λ e. not (has b.gone e.1) && not (has (without b.gone s.dead) e.1)) (λ e. not (has s.dead e.1)) all (λ e.
          ap (λ t. not (has b.gone e.1) && not t) (has_filter_is (λ p. not (has b.gone p)) s.dead e.1)
          ∙ left_dead (has b.gone e.1) (has s.dead e.1) (w.gone e.1)));
    }

end_good : (index : Index) (next : ℕ) (live : Names) (s : State) → Good next live s → Good next live (switched s (merge_of index s s.begun) s.begun)
end_good index next live s w = end_open index next live s s.begun w.merge w refl

-- ---- one entry more

GoodAfter : Index → BasedList → State → Entry → Type 0
GoodAfter index h s e = Good (next_pid h + cond (makes_point e) 1 0) (live_after (live_of h) (next_pid h) e) (step index h s e)

same_next : (next : ℕ) (live : Names) (s : State) → Good next live s → Good (next + 0) live s
same_next next live s w = subst (λ (n : ℕ). Good n live s) (let e : next ≡ next + 0 = omega arith in e) w

step_good : (index : Index) (h : BasedList) (s : State) (e : Entry) → may_follow index.params h s e ≡ true → Good (next_pid h) (live_of h) s → GoodAfter index h s e
unfolding GoodAfter
step_good index h s (Insert by tag vector) m w =
    let new : is_live (live_of h) tag ≡ false = not-true (is_live (live_of h) tag) (and_parts (fits index.params h vector) (not (is_live (live_of h) tag)) m).1 in
    let live : live_of h ++ (tag, next_pid h) ∷ [] ≡ mapped (live_of h) tag (next_pid h) = ap (λ t. t ++ (tag, next_pid h) ∷ []) (sym (unmapped_none (live_of h) tag new)) in
    subst (λ (t : Names). Good (next_pid h + 1) t (inserted index.params s (next_pid h) tag vector)) live
    (grow_good index.params (next_pid h + 1) (live_of h ++ (tag, next_pid h) ∷ []) s (put index.params s.rw (next_pid h) tag vector) (put_good index.params (next_pid h) (live_of h) s tag vector w))
step_good index h s (Delete by tag) m w = same_next (next_pid h) (unmapped (live_of h) tag) (deleted s (pids_at (live_of h) tag)) (delete_good (next_pid h) (live_of h) s tag w)
step_good index h s (Begin by) m w = same_next (next_pid h) (live_of h) (begun_at s (length_of h)) (begin_good (next_pid h) (length_of h) (live_of h) s w)
step_good index h s (End by segment) m w = same_next (next_pid h) (live_of h) (switched s (merge_of index s s.begun) s.begun) (end_good index (next_pid h) (live_of h) s w)
step_good index h s (Replace by tag vector) m w =
    let left : State = deleted s (pids_at (live_of h) tag) in
    grow_good index.params (next_pid h + 1) (mapped (live_of h) tag (next_pid h)) left (put index.params left.rw (next_pid h) tag vector)
    (put_good index.params (next_pid h) (unmapped (live_of h) tag) left tag vector (delete_good (next_pid h) (live_of h) s tag w))

pub good_after : (index : Index) (h : BasedList) (s : State) (e : Entry) → may_follow index.params h s e ≡ true → Good (next_pid h) (live_of h) s → Good (next_pid (with_entry h e)) (live_of (with_entry h e)) (step index h s e)
unfolding GoodAfter
good_after index h s e m w =
    let one : Good (next_pid h + cond (makes_point e) 1 0) (live_after (live_of h) (next_pid h) e) (step index h s e) = step_good index h s e m w in
    subst (λ (t : Names). Good (next_pid (with_entry h e)) t (step index h s e)) (sym (live_push h e)) (subst (λ (n : ℕ). Good n (live_after (live_of h) (next_pid h) e) (step index h s e)) (sym (next_pid_push h e)) one)

fold_good : (index : Index) (h : BasedList) (s : State) (es : List Entry) → legal_from index h s es ≡ true → Good (next_pid h) (live_of h) s → Good (next_pid (with_entries h es)) (live_of (with_entries h es)) (fold_from index h s es)
fold_good index h s [] l w = subst (λ (g : BasedList). Good (next_pid g) (live_of g) s) (sym (entries_none h)) w
fold_good index h s (e ∷ es) l w =
    let both = and_parts (may_follow index.params h s e) (legal_from index (with_entry h e) (step index h s e) es) l in
    subst (λ (g : BasedList). Good (next_pid g) (live_of g) (fold_from index (with_entry h e) (step index h s e) es)) (entries_then h (e ∷ []) es) (fold_good index (with_entry h e) (step index h s e) es both.1 (good_after index h s e both.0 w))

-- ---- the base

pub base_good : (params : Params) (base : ListBase) → IsBaseOf params base → Good (next_pid (bare base)) (live_of (bare base)) (start base.graph)
base_good params base b =
    let points : List Point = base.graph.points in
    let all : points ≡ all_points (start base.graph) = sym (append-nil (points ++ []) ∙ append-nil points) in
    let next : base.next ≡ next_pid (bare base) = omega arith in
    record {
      rises = subst (λ (t : List Point). NamesRise (names_of t)) all (subst Rises (sym (pids_are points)) (rises_from_increasing (pids_of points) b.graph.sound.pids));
      below = subst (λ (t : List Point). AllByRecursion (λ p. p < next_pid (bare base)) (pids (names_of t))) all (subst (AllByRecursion (λ p. p < next_pid (bare base))) (sym (pids_are points)) (all_map (λ p. p < next_pid (bare base)) (λ (x : Point). x.pid) points (subst (λ (n : ℕ). AllByRecursion (λ (x : Point). x.pid < n) points) next (recursion_from_All (λ (x : Point). x.pid < base.next) points b.pids))));
      dead = tt;
      merge = tt;
      alive = sym (filter_true (names_of points)) ∙ ap (λ (t : List Point). filter (λ e. not (has [] e.1)) (names_of t)) all;
    }

pub good_of : (index : Index) (h : BasedList) → IsBaseOf index.params h.base → is_legal index h ≡ true → Good (next_pid h) (live_of h) (fold_of index h)
good_of index h b l = fold_good index (bare h.base) (start h.base.graph) h.entries l (base_good index.params h.base b)

-- The points of all graphs that aren't deleted are exactly those of the live tags.
pub live_tags : (index : Index) (h : BasedList) → IsBaseOf index.params h.base → is_legal index h ≡ true → live_of h ≡ alive_of (fold_of index h)
live_tags index h b l = (good_of index h b l).alive

-- Each stands in one graph: their Pids rise through the graphs.
pub pids_rise : (index : Index) (h : BasedList) → IsBaseOf index.params h.base → is_legal index h ≡ true → IsStrictlyIncreasing (pids_of (all_points (fold_of index h)))
pids_rise index h b l = subst IsStrictlyIncreasing (pids_are (all_points (fold_of index h))) (increasing_from_rises (pids (names_of (all_points (fold_of index h)))) (good_of index h b l).rises)
