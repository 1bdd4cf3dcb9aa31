-- Rounds over a segment with known bytes, one after the other.
use Rattle.std.proofs.Common.{◌≡◌, ℕ, zero, suc, ◌+◌, ◌≤◌, ◌<◌, Bool, true, false, cond, not, List, [], ◌∷◌, ◌++◌, refl, sym, ap, ap₂, ◌∙◌, subst, arith, take, length, map, append-nil, add-one, length-append, get_or}
use Rattle.std.specs.Prelude.{None, flat_map}
use Rattle.std.proofs.Math.Seq.{take-suc}
use Rattle.std.proofs.lemmas.List.{map-append}
use Rattle.std.proofs.lemmas.Grind.{flat_map-append}
use Rattle.ann_types.specs.Order.{has, all_placed, in_order}
use Rattle.ann_types.specs.Walk.{Ground, met}
use Rattle.ann_types.specs.Rounds.{round, rounds_on, rounds_of}
use Rattle.ann_types.proofs.Ordered.{all_placed-append}
use Rattle.ann_types.proofs.Sets.{all_append}
use Rattle.ann_types.proofs.Walks.{met_grows}
use Rattle.ann_greedy.specs.Shows.{Shows, ShowsWalk}
use Rattle.ann_beam.specs.Ranking.{Ranked, with_all}
use Rattle.ann_vault.specs.Reads.{more_reads}
use Rattle.ann_beam.specs.Quest.{Standing}
use Rattle.ann_beam.specs.Candidates.{HasChosen}
use Rattle.ann_beam.specs.Visits.{alive}
use Rattle.ann_beam.specs.Progress.{Sight, Route, Progress, HasVisited, HasSeen, MakesRound, ground_at, sight_in}
use Rattle.ann_beam.specs.Desk.{Keeps}
use Rattle.ann_beam.specs.declared.desk.Desk.{Desk}
use Rattle.ann_beam.proofs.Rankings.{with_all-append}
use Rattle.ann_beam.proofs.Readings.{reads_more}

-- ---- visits

alive-append : (dead : List ℕ) (xs ys : List Ranked) → alive dead (xs ++ ys) ≡ alive dead xs ++ alive dead ys
alive-append dead [] ys = refl
alive-append dead (x ∷ xs) ys = elim (has dead x.pid) as (λ t. cond (not t) (x ∷ alive dead (xs ++ ys)) (alive dead (xs ++ ys)) ≡ cond (not t) (x ∷ alive dead xs) (alive dead xs) ++ alive dead ys) [
  | true ↦ alive-append dead xs ys
  | false ↦ ap (λ t. x ∷ t) (alive-append dead xs ys)
]

visited_both : (sight : Sight) (rows more : List ℕ) (old middle new : Standing) → HasVisited sight rows old middle → HasVisited sight more middle new → HasVisited sight (rows ++ more) old new
visited_both sight rows more old middle new a b = record {
  ranked =
      b.ranked
      ∙ ap (with_all sight.limit (alive sight.dead (map sight.point more))) a.ranked
      ∙ sym (with_all-append sight.limit (alive sight.dead (map sight.point rows)) (alive sight.dead (map sight.point more)) old.result.points)
      ∙ ap (λ (t : List Ranked). with_all sight.limit t old.result.points) (sym (alive-append sight.dead (map sight.point rows) (map sight.point more)) ∙ ap (alive sight.dead) (sym (map-append sight.point rows more)));
  reads =
      b.reads
      ∙ ap (more_reads (length more)) a.reads
      ∙ reads_more (length more) (length rows) old.reads
      ∙ ap (λ (k : ℕ). more_reads k old.reads) (let size = length-append rows more in let e : length more + length rows ≡ length (rows ++ more) = omega arith in e);
  sound = all_append (λ row. sight.fault row ≡ None) rows more a.sound b.sound;
}

pub visited_none : (sight : Sight) (old new : Standing) → new.result.points ≡ old.result.points → new.reads ≡ old.reads → HasVisited sight [] old new
visited_none sight old new points reads = record { ranked = points; reads = reads; sound = tt }

-- rows were visited and their neighbours met
pub seen_none : (sight : Sight) (now : Progress) → HasSeen sight [] now now
seen_none sight now = record { visits = visited_none sight now.standing now.standing refl refl; meets = λ visited order shown. shown }

seen_both : (sight : Sight) (rows more : List ℕ) (old middle new : Progress) → HasSeen sight rows old middle → HasSeen sight more middle new → HasSeen sight (rows ++ more) old new
seen_both sight rows more old middle new a b = record {
  visits = visited_both sight rows more old.standing middle.standing new.standing a.visits b.visits;
  meets = λ visited order shown.
      subst (λ (t : List ℕ). Shows sight.far visited t new.guided)
      (sym (ap (all_placed sight.far order) (flat_map-append sight.links rows more) ∙ all_placed-append sight.far order (flat_map sight.links rows) (flat_map sight.links more)))
      (b.meets visited _ (a.meets visited order shown));
}

-- one row more
pub seen_more : (sight : Sight) (rows : List ℕ) (i : ℕ) (old middle new : Progress) → i < length rows → HasSeen sight (take i rows) old middle → HasSeen sight (get_or rows i 0 ∷ []) middle new → HasSeen sight (take (i + 1) rows) old new
seen_more sight rows i old middle new l a b =
    subst (λ (t : List ℕ). HasSeen sight t old new) (sym (ap (λ n. take n rows) (add-one i) ∙ take-suc rows i 0 l))
    (seen_both sight (take i rows) (get_or rows i 0 ∷ []) old middle new a b)

-- ---- a round

-- rows that were chosen and then visited are a round
pub round_made : (sight : Sight) (w w' count : ℕ) (rows : List ℕ) (old middle new : Progress) → w' ≡ w → length rows ≡ count → middle.standing ≡ old.standing → HasChosen w' rows old.guided middle.guided → HasSeen sight rows middle new → (some : Bool) → (some ≡ true → 0 < count) → (some ≡ false → count ≤ 0) → MakesRound sight w old new some
round_made sight w w' count rows old middle new wide size same chooses seen some more over entry visited shown =
    let g : Ground = ground_at sight entry in
    let chosen = chooses.chosen g.far visited (in_order g.far (met g visited)) shown in
    let is : rows ≡ round g old.guided.limit w visited = chosen.first ∙ ap (λ (n : ℕ). round g old.guided.limit n visited) wide in
    let all : all_placed g.far (in_order g.far (met g visited)) (flat_map g.links rows) ≡ in_order g.far (met g (visited ++ rows)) =
    sym (ap (in_order g.far) (met_grows g visited rows) ∙ all_placed-append g.far [] (met g visited) (flat_map g.links rows)) in
    let shows : ShowsWalk g (visited ++ rows) new.guided = subst (λ (t : List ℕ). Shows g.far (visited ++ rows) t new.guided) all (seen.meets (visited ++ rows) _ chosen.shows) in
    let whole : HasVisited sight rows old.standing new.standing = subst (λ (s : Standing). HasVisited sight rows s new.standing) same seen.visits in
    record {
      visits = subst (λ (t : List ℕ). HasVisited sight t old.standing new.standing) is whole;
      shows = subst (λ (t : List ℕ). ShowsWalk g (visited ++ t) new.guided) is shows;
      more = λ e. let some_rows = more e in subst (λ (t : List ℕ). 0 < length t) is (omega arith);
      over = λ e. let no_rows = over e in sym is ∙ none rows (omega arith);
    }
  where
    none : (s : List ℕ) → length s ≤ 0 → s ≡ []
    none [] l = refl
    none (x ∷ s) l = absurd (omega arith)

-- ---- all rounds

-- these rows were visited, and at most so many rounds are left
pub record IsUnderWay (sight : Sight) (entry width w count left : ℕ) (old now : Progress) : Type 0 where
  pub visited : List ℕ
  pub shows : ShowsWalk (ground_at sight entry) visited now.guided
  pub rest : rounds_on (ground_at sight entry) width w left visited ≡ rounds_of (ground_at sight entry) width w count
  pub visits : HasVisited sight visited old.standing now.standing

rounds_step : (g : Ground) (width w n m : ℕ) (v : List ℕ) → m ≡ n + 1 → 0 < length (round g width w v) → rounds_on g width w m v ≡ rounds_on g width w n (v ++ round g width w v)
rounds_step g width w n m v e some =
    ap (λ (k : ℕ). rounds_on g width w k v) (let s : m ≡ suc n = omega arith in s)
    ∙ go (round g width w v) some
  where
    go : (ps : List ℕ) → 0 < length ps → (elim ps as (λ _. List ℕ) [ [] ↦ v | q ∷ qs ↦ rounds_on g width w n (v ++ q ∷ qs) ]) ≡ rounds_on g width w n (v ++ ps)
    go [] l = absurd (omega arith)
    go (p ∷ ps) l = refl

rounds_stop : (g : Ground) (width w n : ℕ) (v : List ℕ) → round g width w v ≡ [] → rounds_on g width w n v ≡ v
rounds_stop g width w zero v h = refl
rounds_stop g width w (suc n) v h = ap (λ (o : List ℕ). elim o as (λ _. List ℕ) [ [] ↦ v | p ∷ ps ↦ rounds_on g width w n (v ++ p ∷ ps) ]) h

pub way_begins : (sight : Sight) (entry width w count left : ℕ) (old now : Progress) → left ≡ count → now.standing ≡ old.standing → ShowsWalk (ground_at sight entry) [] now.guided → IsUnderWay sight entry width w count left old now
way_begins sight entry width w count left old now all same shows = record {
  visited = [];
  shows = shows;
  rest = ap (λ (n : ℕ). rounds_on (ground_at sight entry) width w n []) all;
  visits = visited_none sight old.standing now.standing (ap (λ (s : Standing). s.result.points) same) (ap (λ (s : Standing). s.reads) same);
}

pub way_goes_on : (sight : Sight) (entry width w count left left' : ℕ) (old now new : Progress) → IsUnderWay sight entry width w count left old now → left ≡ left' + 1 → now.guided.limit ≡ width → MakesRound sight w now new true → IsUnderWay sight entry width w count left' old new
way_goes_on sight entry width w count left left' old now new way one wide makes =
    let g : Ground = ground_at sight entry in
    let made = makes entry way.visited way.shows in
    let same : round g now.guided.limit w way.visited ≡ round g width w way.visited = ap (λ (n : ℕ). round g n w way.visited) wide in
    record {
      visited = way.visited ++ round g now.guided.limit w way.visited;
      shows = made.shows;
      rest =
          ap (λ (t : List ℕ). rounds_on g width w left' (way.visited ++ t)) same
          ∙ sym (rounds_step g width w left' left way.visited one (subst (λ (t : List ℕ). 0 < length t) same (made.more refl)))
          ∙ way.rest;
      visits = visited_both sight way.visited (round g now.guided.limit w way.visited) old.standing now.standing new.standing way.visits made.visits;
    }

pub way_ends : (sight : Sight) (entry width w count left : ℕ) (old now new : Progress) → IsUnderWay sight entry width w count left old now → now.guided.limit ≡ width → MakesRound sight w now new false → HasVisited sight (rounds_of (ground_at sight entry) width w count) old.standing new.standing
way_ends sight entry width w count left old now new way wide makes =
    let g : Ground = ground_at sight entry in
    let made = makes entry way.visited way.shows in
    let empty : round g now.guided.limit w way.visited ≡ [] = made.over refl in
    let none : round g width w way.visited ≡ [] = ap (λ (n : ℕ). round g n w way.visited) (sym wide) ∙ empty in
    let whole : way.visited ++ round g now.guided.limit w way.visited ≡ rounds_of g width w count = ap (λ (t : List ℕ). way.visited ++ t) empty ∙ append-nil way.visited ∙ sym (rounds_stop g width w left way.visited none) ∙ way.rest in
    subst (λ (t : List ℕ). HasVisited sight t old.standing new.standing) whole (visited_both sight way.visited (round g now.guided.limit w way.visited) old.standing now.standing new.standing way.visits made.visits)

pub way_is_out : (sight : Sight) (entry width w count left : ℕ) (old now : Progress) → IsUnderWay sight entry width w count left old now → left ≡ 0 → HasVisited sight (rounds_of (ground_at sight entry) width w count) old.standing now.standing
way_is_out sight entry width w count left old now way none =
    subst (λ (t : List ℕ). HasVisited sight t old.standing now.standing) (sym (ap (λ (n : ℕ). rounds_on (ground_at sight entry) width w n way.visited) none) ∙ way.rest) way.visits

-- ---- the same by other names of the tables and the limit

pub keeps_none : (desk : Desk) → Keeps desk desk
keeps_none desk = record { tables = refl; width = refl; limit = refl }

pub keeps_then : (old now new : Desk) → Keeps old now → Keeps now new → Keeps old new
keeps_then old now new a b = record { tables = b.tables ∙ a.tables; width = b.width ∙ a.width; limit = b.limit ∙ a.limit }

pub seen_along : {S : Type 0} (route : Route S) (bytes : List ℕ) (tables tables' : List (List ℕ)) (limit limit' : ℕ) (rows : List ℕ) (old new : Progress) → tables ≡ tables' → limit ≡ limit' → HasSeen (sight_in route bytes tables limit) rows old new → HasSeen (sight_in route bytes tables' limit') rows old new
seen_along route bytes tables tables' limit limit' rows old new t l seen =
    subst (λ (s : Sight). HasSeen s rows old new) (ap₂ (sight_in route bytes) t l) seen

pub round_along : {S : Type 0} (route : Route S) (bytes : List ℕ) (tables tables' : List (List ℕ)) (limit limit' w : ℕ) (some some' : Bool) (old new : Progress) → tables ≡ tables' → limit ≡ limit' → some ≡ some' → MakesRound (sight_in route bytes tables limit) w old new some → MakesRound (sight_in route bytes tables' limit') w old new some'
round_along route bytes tables tables' limit limit' w some some' old new t l s makes =
    subst (λ (sight : Sight). MakesRound sight w old new some') (ap₂ (sight_in route bytes) t l)
    (subst (λ (b : Bool). MakesRound (sight_in route bytes tables limit) w old new b) s makes)
