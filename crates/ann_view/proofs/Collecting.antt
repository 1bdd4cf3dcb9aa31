-- Live points, added graph by graph and row by row.
use Rattle.std.proofs.Common.{◌≡◌, ℕ, zero, suc, ◌+◌, ◌≤◌, ◌<◌, Bool, true, false, cond, not, List, [], ◌∷◌, ◌++◌, refl, sym, ap, ◌∙◌, subst, arith, map, filter, take, drop, length, get_or, append_assoc, length-append}
use Rattle.std.specs.Prelude.{flat_map, None, Some, Result, Ok, Err, IfErr, OnErr}
use Rattle.std.specs.Result.{IsErrAnd}
use Rattle.std.proofs.lemmas.List.{append-nil, map-append, take_more, take_all, take-append-drop}
use Rattle.std.proofs.lemmas.List.Elements.{filter-append}
use Rattle.std.proofs.lemmas.Grind.{flat_map-append}
use Rattle.ann_types.specs.Order.{has}
use Rattle.ann_types.specs.Graph.{Point, Graph}
use Rattle.ann_types.specs.Fold.{new_point}
use Rattle.ann_types.specs.declared.new_point.NewPoint.{NewPoint}
use Rattle.ann_types.specs.Merge.{without}
use Rattle.ann_types.specs.declared.params.Params.{Params}
use Rattle.ann_types.proofs.Sets.{all_append}
use Rattle.ann_fault.specs.Counts.{next_count}
use Rattle.ann_vault.specs.Reads.{more_reads}
use Rattle.ann_segment.specs.Segment.{SegmentView}
use Rattle.ann_segment.specs.Rows.{judged, row_block}
use Rattle.ann_beam.proofs.Readings.{reads_more}
use Rattle.ann_view.specs.Collected.{AddsRows, Begins, Counts, Gathering, HasAdded, IsRowRefused, IsUncollected, alive_in, new_pids, pid_in, row_point_in, rows_below, undeleted}
use Rattle.ann_view.specs.declared.collect_refused.CollectRefused.{CollectRefused}
use Rattle.ann_view.specs.declared.collect_refused.CollectRefused.TheVariants.{Disk, BadSegment, Memory}

pub alive_append : (dead : List ℕ) (xs ys : List Point) → alive_in dead (xs ++ ys) ≡ alive_in dead xs ++ alive_in dead ys
alive_append dead xs ys = ap (map new_point) (filter-append (λ x. not (has dead x.pid)) xs ys) ∙ map-append new_point (filter (λ x. not (has dead x.pid)) xs) (filter (λ x. not (has dead x.pid)) ys)

-- ---- beginnings

pub begins_wider : {A : Type 0} (front all more : List A) → Begins front all → Begins front (all ++ more)
begins_wider front all more b = (b.0 ++ more, ap (λ t. t ++ more) b.1 ∙ append_assoc front b.0 more)

-- ---- one point

-- what was asked of the delete list
pub asked : (dead : List ℕ) (pid pid' : ℕ) (answer wanted : Bool) → pid ≡ pid' → answer ≡ has dead pid → answer ≡ wanted → has dead pid' ≡ wanted
asked dead pid pid' answer wanted same is e = ap (has dead) (sym same) ∙ sym is ∙ e

pub point_dead : (dead : List ℕ) (x : Point) (old : List NewPoint) → has dead x.pid ≡ true → old ≡ old ++ alive_in dead (x ∷ [])
point_dead dead x old there = sym (append-nil old) ∙ ap (λ (t : Bool). old ++ map new_point (cond (not t) (x ∷ []) [])) (sym there)

pub point_alive : (dead : List ℕ) (x : Point) (new : NewPoint) (old : List NewPoint) → has dead x.pid ≡ false → new ≡ new_point x → old ++ new ∷ [] ≡ old ++ alive_in dead (x ∷ [])
point_alive dead x new old there is = ap (λ (y : NewPoint). old ++ y ∷ []) is ∙ ap (λ (t : Bool). old ++ map new_point (cond (not t) (x ∷ []) [])) (sym there)

-- ---- the points of a graph, one after the other

pub points_none : (dead : List ℕ) (old : List NewPoint) → old ≡ old ++ alive_in dead []
points_none dead old = sym (append-nil old)

pub points_more : (dead : List ℕ) (points : List Point) (i : ℕ) (x : Point) (old now new : List NewPoint) → i < length points → x ≡ get_or points i x → now ≡ old ++ alive_in dead (take i points) → new ≡ now ++ alive_in dead (x ∷ []) → new ≡ old ++ alive_in dead (take (i + 1) points)
points_more dead points i x old now new l at before more =
    more
    ∙ ap (λ (t : List NewPoint). t ++ alive_in dead (x ∷ [])) before
    ∙ append_assoc old (alive_in dead (take i points)) (alive_in dead (x ∷ []))
    ∙ ap (λ (t : List NewPoint). old ++ t) (sym (alive_append dead (take i points) (x ∷ [])))
    ∙ ap (λ (t : List Point). old ++ alive_in dead t) (ap (λ (y : Point). take i points ++ y ∷ []) at ∙ sym (take_more points i x l))

pub points_begun : (dead : List ℕ) (points : List Point) (i : ℕ) (old now : List NewPoint) → now ≡ old ++ alive_in dead (take i points) → Begins now (old ++ alive_in dead points)
points_begun dead points i old now before = (
  alive_in dead (drop i points),
  ap (λ (t : List Point). old ++ alive_in dead t) (sym (take-append-drop i points))
      ∙ ap (λ (t : List NewPoint). old ++ t) (alive_append dead (take i points) (drop i points))
      ∙ sym (append_assoc old (alive_in dead (take i points)) (alive_in dead (drop i points)))
      ∙ ap (λ (t : List NewPoint). t ++ alive_in dead (drop i points)) (sym before),
)

pub points_all : (dead : List ℕ) (points : List Point) (i : ℕ) (old now : List NewPoint) → length points ≤ i → now ≡ old ++ alive_in dead (take i points) → now ≡ old ++ alive_in dead points
points_all dead points i old now l before = before ∙ ap (λ (t : List Point). old ++ alive_in dead t) (take_all i points l)

-- ---- the graphs, one after the other

pub rows_count : (n : ℕ) → length (rows_below n) ≡ n
rows_count zero = refl
rows_count (suc n) = let before = rows_count n in let size = length-append (rows_below n) (n ∷ []) in omega arith

module _ {A : Type 0} (dead : List ℕ) (f : A → List Point) (xs : List A) where
  pub graphs_more : (i : ℕ) (x : A) (old now new : List NewPoint) → i < length xs → x ≡ get_or xs i x → now ≡ old ++ alive_in dead (flat_map f (take i xs)) → new ≡ now ++ alive_in dead (f x) → new ≡ old ++ alive_in dead (flat_map f (take (i + 1) xs))
  graphs_more i x old now new l at before more =
      more
      ∙ ap (λ (t : List NewPoint). t ++ alive_in dead (f x)) before
      ∙ append_assoc old (alive_in dead (flat_map f (take i xs))) (alive_in dead (f x))
      ∙ ap (λ (t : List NewPoint). old ++ t) (sym (alive_append dead (flat_map f (take i xs)) (f x)))
      ∙ ap (λ (t : List Point). old ++ alive_in dead t) (joined i x l at)
    where
      joined : (i : ℕ) (x : A) → i < length xs → x ≡ get_or xs i x → flat_map f (take i xs) ++ f x ≡ flat_map f (take (i + 1) xs)
      joined i x l at =
          ap (λ (t : List Point). flat_map f (take i xs) ++ t) (sym (append-nil (f x)))
          ∙ sym (flat_map-append f (take i xs) (x ∷ []))
          ∙ ap (flat_map f) (ap (λ (y : A). take i xs ++ y ∷ []) at ∙ sym (take_more xs i x l))

  pub graphs_begun : (i : ℕ) (x : A) (old now new : List NewPoint) → i < length xs → x ≡ get_or xs i x → now ≡ old ++ alive_in dead (flat_map f (take i xs)) → Begins new (now ++ alive_in dead (f x)) → Begins new (old ++ alive_in dead (flat_map f xs))
  graphs_begun i x old now new l at before begun =
      let more = graphs_more i x old now (now ++ alive_in dead (f x)) l at before refl in (
        begun.0 ++ alive_in dead (flat_map f (drop (i + 1) xs)),
        ap (λ (t : List A). old ++ alive_in dead (flat_map f t)) (sym (take-append-drop (i + 1) xs))
            ∙ ap (λ (t : List Point). old ++ alive_in dead t) (flat_map-append f (take (i + 1) xs) (drop (i + 1) xs))
            ∙ ap (λ (t : List NewPoint). old ++ t) (alive_append dead (flat_map f (take (i + 1) xs)) (flat_map f (drop (i + 1) xs)))
            ∙ sym (append_assoc old (alive_in dead (flat_map f (take (i + 1) xs))) (alive_in dead (flat_map f (drop (i + 1) xs))))
            ∙ ap (λ (t : List NewPoint). t ++ alive_in dead (flat_map f (drop (i + 1) xs))) (sym more ∙ begun.1)
            ∙ append_assoc new begun.0 (alive_in dead (flat_map f (drop (i + 1) xs))),
      )

  pub graphs_all : (i : ℕ) (old now : List NewPoint) → length xs ≤ i → now ≡ old ++ alive_in dead (flat_map f (take i xs)) → now ≡ old ++ alive_in dead (flat_map f xs)
  graphs_all i old now l before = before ∙ ap (λ (t : List A). old ++ alive_in dead (flat_map f t)) (take_all i xs l)

-- ---- all graphs in memory

flat_map_map : {A B C : Type 0} (f : B → List C) (g : A → B) (xs : List A) → flat_map (λ x. f (g x)) xs ≡ flat_map f (map g xs)
flat_map_map f g [] = refl
flat_map_map f g (x ∷ xs) = ap (λ t. f (g x) ++ t) (flat_map_map f g xs)

module _ {A : Type 0} (dead : List ℕ) (graph : A → Graph) (ros : List A) (rw : List Point) where
  pub memory_joined : (old mid : List NewPoint) → mid ≡ old ++ alive_in dead (flat_map (λ f. (graph f).points) ros) → mid ++ alive_in dead rw ≡ old ++ alive_in dead (flat_map (λ (g : Graph). g.points) (map graph ros) ++ rw)
  memory_joined old mid before =
      ap (λ (t : List NewPoint). t ++ alive_in dead rw) before
      ∙ append_assoc old (alive_in dead (flat_map (λ f. (graph f).points) ros)) (alive_in dead rw)
      ∙ ap (λ (t : List NewPoint). old ++ t) (sym (alive_append dead (flat_map (λ f. (graph f).points) ros) rw))
      ∙ ap (λ (t : List Point). old ++ alive_in dead (t ++ rw)) (flat_map_map (λ (g : Graph). g.points) graph ros)

  pub memory_begun : (old new : List NewPoint) → Begins new (old ++ alive_in dead (flat_map (λ f. (graph f).points) ros)) → Begins new (old ++ alive_in dead (flat_map (λ (g : Graph). g.points) (map graph ros) ++ rw))
  memory_begun old new b = subst (Begins new) (memory_joined old _ refl) (begins_wider new _ (alive_in dead rw) b)

-- ---- one row

pub pid_dead : (dead : List ℕ) (p : ℕ) (old : List ℕ) → has dead p ≡ true → old ≡ old ++ without dead (p ∷ [])
pid_dead dead p old there = sym (append-nil old) ∙ ap (λ (t : Bool). old ++ cond (not t) (p ∷ []) []) (sym there)

pub row_dead : (dead : List ℕ) (x : NewPoint) (old : List NewPoint) → has dead x.pid ≡ true → old ≡ old ++ undeleted dead (x ∷ [])
row_dead dead x old there = sym (append-nil old) ∙ ap (λ (t : Bool). old ++ cond (not t) (x ∷ []) []) (sym there)

pub pid_alive : (dead : List ℕ) (p : ℕ) (new : NewPoint) (old : List NewPoint) → has dead p ≡ false → new.pid ≡ p → new_pids (old ++ new ∷ []) ≡ new_pids old ++ without dead (p ∷ [])
pid_alive dead p new old there is =
    map-append (λ (x : NewPoint). x.pid) old (new ∷ [])
    ∙ ap (λ (t : ℕ). new_pids old ++ t ∷ []) is
    ∙ ap (λ (t : Bool). new_pids old ++ cond (not t) (p ∷ []) []) (sym there)

pub row_alive : (dead : List ℕ) (x new : NewPoint) (old : List NewPoint) → has dead x.pid ≡ false → new ≡ x → old ++ new ∷ [] ≡ old ++ undeleted dead (x ∷ [])
row_alive dead x new old there is = ap (λ (y : NewPoint). old ++ y ∷ []) is ∙ ap (λ (t : Bool). old ++ cond (not t) (x ∷ []) []) (sym there)

-- ---- rows of a segment, one after the other

module _ {S : Type 0} (tells : Type 0) (bytes : S → List ℕ) (segment : SegmentView S) (params : Params) (dead : List ℕ) where
  adds_none : (points : List NewPoint) → AddsRows tells bytes segment params dead [] points points
  adds_none points = record { pids = sym (append-nil (new_pids points)); told = λ told. sym (append-nil points) }

  pub added_none : (now : Gathering) → HasAdded tells bytes segment params dead [] now now
  added_none now = record { points = adds_none now.points; sound = λ told. tt; reads = refl; calm = refl }

  adds_both : (rows more : List ℕ) (old now new : List NewPoint) → AddsRows tells bytes segment params dead rows old now → AddsRows tells bytes segment params dead more now new → AddsRows tells bytes segment params dead (rows ++ more) old new
  adds_both rows more old now new a b = record {
    pids =
        b.pids
        ∙ ap (λ (t : List ℕ). t ++ without dead (map (pid_in segment) more)) a.pids
        ∙ append_assoc (new_pids old) (without dead (map (pid_in segment) rows)) (without dead (map (pid_in segment) more))
        ∙ ap (λ (t : List ℕ). new_pids old ++ t) (sym (ap (without dead) (map-append (pid_in segment) rows more) ∙ filter-append (λ p. not (has dead p)) (map (pid_in segment) rows) (map (pid_in segment) more)));
    told = λ told.
        let point : ℕ → NewPoint = row_point_in segment (bytes segment.seal) params.d in
        b.told told
        ∙ ap (λ (t : List NewPoint). t ++ undeleted dead (map point more)) (a.told told)
        ∙ append_assoc old (undeleted dead (map point rows)) (undeleted dead (map point more))
        ∙ ap (λ (t : List NewPoint). old ++ t) (sym (ap (undeleted dead) (map-append point rows more) ∙ filter-append (λ (x : NewPoint). not (has dead x.pid)) (map point rows) (map point more)));
  }

  pub added_more : (row row' : ℕ) (old now new : Gathering) → row' ≡ row + 1 → HasAdded tells bytes segment params dead (rows_below row) old now → HasAdded tells bytes segment params dead (row ∷ []) now new → HasAdded tells bytes segment params dead (rows_below row') old new
  added_more row row' old now new next a b =
      subst (λ (n : ℕ). HasAdded tells bytes segment params dead (rows_below n) old new) (let e : suc row ≡ row' = omega arith in e)
      (record {
        points = adds_both (rows_below row) (row ∷ []) old.points now.points new.points a.points b.points;
        sound = λ told. all_append (λ row. judged segment params (row_block segment (bytes segment.seal) row) row ≡ None) (rows_below row) (row ∷ []) (a.sound told) (b.sound told);
        reads = b.reads ∙ ap next_count a.reads ∙ ap (λ (n : ℕ). more_reads n old.counts.reads) (let size = length-append (rows_below row) (row ∷ []) in let e : suc (length (rows_below row)) ≡ length (rows_below row ++ row ∷ []) = omega arith in e);
        calm = b.calm ∙ a.calm;
      })

  -- a refusal behind reads that went well
  pub uncollected_at : (row : ℕ) (old now : Gathering) (new : Counts) (why : CollectRefused) → row < length segment.items → HasAdded tells bytes segment params dead (rows_below row) old now → IsRowRefused tells bytes segment params row now.counts new why → IsUncollected tells bytes (Some segment) params old.counts new why
  uncollected_at row old now new Disk within a r = record {
    reads = (length (rows_below row), r.0 ∙ a.reads);
    faulty = r.1 ∙ ap next_count a.calm;
  }
  uncollected_at row old now new (BadSegment block) within a r = record {
    row = row;
    within = within;
    place = r.place;
    bad = r.bad;
    first = a.sound;
    reads = r.reads ∙ ap next_count (a.reads ∙ ap (λ n. more_reads n old.counts.reads) (rows_count row));
    calm = r.calm ∙ a.calm;
  }
  uncollected_at row old now new Memory within a r = record {
    reads = (suc (length (rows_below row)), r.0 ∙ ap next_count a.reads);
    calm = r.1 ∙ a.calm;
  }

-- a refusal that is handed on
pub uncollected_as : {T : Type 0} (P : CollectRefused → Type 0) (result : Result T CollectRefused) (why : CollectRefused) → IsErrAnd result (λ e. e ≡ why) → P why → IfErr result P
uncollected_as P (Ok x) why is p = tt
uncollected_as P (Err e) why is p = subst P (sym is) p

pub on_err : {T E P : Type 0} (result : Result T E) → P → OnErr result P
on_err (Ok x) p = tt
on_err (Err e) p = p
