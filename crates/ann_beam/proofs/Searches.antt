-- How a search ends, handed on.
use Rattle.std.proofs.Common.{◌≡◌, ℕ, List, refl, sym, ap, subst}
use Rattle.std.specs.Prelude.{Option, Some, None, Result, Ok, Err}
use Rattle.std.specs.Result.{IsErrAnd}
use Rattle.ann_types.specs.Graph.{Graph}
use Rattle.ann_types.specs.declared.params.Params.{Params}
use Rattle.ann_pq.specs.Codebook.{CodebookView}
use Rattle.ann_segment.specs.Segment.{SegmentView}
use Rattle.ann_beam.specs.Ranking.{RankingView, with_all}
use Rattle.ann_beam.specs.Quest.{Quest, Standing}
use Rattle.ann_beam.specs.Refusals.{IsBadIn, IsRefusedFor}
use Rattle.ann_beam.specs.Found.{HasFound, IsSearched, VisitsIn, long_points}
use Rattle.ann_beam.specs.declared.refused.SearchRefused.{SearchRefused}
use Rattle.ann_beam.specs.declared.refused.SearchRefused.TheVariants.{Dimension, Disk, BadSegment, Shut}
use Rattle.ann_beam.proofs.Readings.{read_none}

-- where there is no segment
pub searched_none : {S T : Type 0} (tells : Type 0) (bytes : S → List ℕ) (params : Params) (book : CodebookView) (dead query : List ℕ) (width : ℕ) (segment : Option (SegmentView S)) (now : Standing) (x : T) → segment ≡ None → IsSearched tells bytes (record { segment = segment; params = params; book = book; dead = dead; query = query; width = width }) now now (Ok x)
searched_none {S = S} tells bytes params book dead query width segment now x none =
    let quest : Option (SegmentView S) → Quest S = λ (o : Option (SegmentView S)). record { segment = o; params = params; book = book; dead = dead; query = query; width = width } in
    subst (λ (o : Option (SegmentView S)). IsSearched tells bytes (quest o) now now (Ok x)) (sym none)
    (record {
      found = record {
        read = read_none now;
        visited = (refl, refl);
        held = λ told graph empty. record {
          points = ap (λ (g : Graph). with_all now.result.limit (long_points (quest None) g) now.result.points) (sym empty);
          reads = rw empty refl;
        };
      };
      refused = tt;
      sound = λ told graph h. tt;
    })

-- for another answer
pub searched_ok : {S T U : Type 0} (tells : Type 0) (bytes : S → List ℕ) (quest quest' : Quest S) (old new : Standing) (x : T) (y : U) → quest ≡ quest' → IsSearched tells bytes quest old new (Ok x) → IsSearched tells bytes quest' old new (Ok y)
searched_ok {S} {T} {U} tells bytes quest quest' old new x y same searched =
    subst (λ (q : Quest S). IsSearched tells bytes q old new (Ok y)) same
    (record { found = searched.found; refused = tt; sound = λ told graph h. tt })

-- for a refusal that is handed on
pub searched_err : {S T U : Type 0} (tells : Type 0) (bytes : S → List ℕ) (quest quest' : Quest S) (old new : Standing) (why : SearchRefused) (result : Result U SearchRefused) → quest ≡ quest' → IsErrAnd result (λ e. e ≡ why) → IsSearched {T = T} tells bytes quest old new (Err why) → IsSearched tells bytes quest' old new result
searched_err {S} {T} {U} tells bytes quest quest' old new why (Ok y) same is searched = absurd is
searched_err {S} {T} {U} tells bytes quest quest' old new why (Err e) same is searched =
    subst (λ (q : Quest S). IsSearched {T = U} tells bytes q old new (Err e)) same
    (subst (λ (w : SearchRefused). IsSearched {T = U} tells bytes quest old new (Err w)) (sym is)
    (record { found = tt; refused = searched.refused; sound = searched.sound }))

-- ---- from another page

visits_from : {S : Type 0} (tells : Type 0) (bytes : S → List ℕ) (quest : Quest S) (segment : Option (SegmentView S)) (result : RankingView) (page page' : List ℕ) (reads faults : ℕ) (new : Standing) → VisitsIn tells bytes quest segment (record { result = result; page = page; reads = reads; faults = faults }) new → VisitsIn tells bytes quest segment (record { result = result; page = page'; reads = reads; faults = faults }) new
visits_from tells bytes quest None result page page' reads faults new v = v
visits_from tells bytes quest (Some segment) result page page' reads faults new v = λ told.
    let w = v told in
    record { tables = w.tables; guided = w.guided; visits = record { ranked = w.visits.ranked; reads = w.visits.reads; sound = w.visits.sound } }

found_from : {S : Type 0} (tells : Type 0) (bytes : S → List ℕ) (quest : Quest S) (result : RankingView) (page page' : List ℕ) (reads faults : ℕ) (new : Standing) → HasFound tells bytes quest (record { result = result; page = page; reads = reads; faults = faults }) new → HasFound tells bytes quest (record { result = result; page = page'; reads = reads; faults = faults }) new
found_from tells bytes quest result page page' reads faults new found = record {
  read = record { reads = found.read.reads; calm = found.read.calm };
  visited = visits_from tells bytes quest quest.segment result page page' reads faults new found.visited;
  held = λ told graph h. let w = found.held told graph h in record { points = w.points; reads = w.reads };
}

bad_from : {S : Type 0} (tells : Type 0) (bytes : S → List ℕ) (segment : Option (SegmentView S)) (params : Params) (block : ℕ) (result : RankingView) (page page' : List ℕ) (reads faults : ℕ) (new : Standing) → IsBadIn tells bytes segment params block (record { result = result; page = page; reads = reads; faults = faults }) new → IsBadIn tells bytes segment params block (record { result = result; page = page'; reads = reads; faults = faults }) new
bad_from tells bytes None params block result page page' reads faults new b = b
bad_from tells bytes (Some segment) params block result page page' reads faults new b = record { bad = b.bad; told = b.told; reads = b.reads; calm = b.calm }

refused_from : {S : Type 0} (tells : Type 0) (bytes : S → List ℕ) (segment : Option (SegmentView S)) (params : Params) (result : RankingView) (page page' : List ℕ) (reads faults : ℕ) (new : Standing) (why : SearchRefused) → IsRefusedFor tells bytes segment params (record { result = result; page = page; reads = reads; faults = faults }) new why → IsRefusedFor tells bytes segment params (record { result = result; page = page'; reads = reads; faults = faults }) new why
refused_from tells bytes segment params result page page' reads faults new (Dimension got want) r = r
refused_from tells bytes segment params result page page' reads faults new Disk r = record { reads = r.reads; faulty = r.faulty }
refused_from tells bytes segment params result page page' reads faults new (BadSegment block) r = bad_from tells bytes segment params block result page page' reads faults new r
refused_from tells bytes segment params result page page' reads faults new Shut r = r

-- What stood on the page before says nothing.
pub searched_from : {S T : Type 0} (tells : Type 0) (bytes : S → List ℕ) (quest : Quest S) (result result' : RankingView) (page page' : List ℕ) (reads faults : ℕ) (new : Standing) (answer : Result T SearchRefused) → result ≡ result' → IsSearched tells bytes quest (record { result = result; page = page; reads = reads; faults = faults }) new answer → IsSearched tells bytes quest (record { result = result'; page = page'; reads = reads; faults = faults }) new answer
searched_from {S} {T} tells bytes quest result result' page page' reads faults new answer same searched =
    subst (λ (r : RankingView). IsSearched tells bytes quest (record { result = r; page = page'; reads = reads; faults = faults }) new answer) same (go answer searched)
  where
    go : (a : Result T SearchRefused) → IsSearched tells bytes quest (record { result = result; page = page; reads = reads; faults = faults }) new a → IsSearched tells bytes quest (record { result = result; page = page'; reads = reads; faults = faults }) new a
    go (Ok x) s = record { found = found_from tells bytes quest result page page' reads faults new s.found; refused = tt; sound = λ told graph h. tt }
    go (Err why) s = record { found = tt; refused = refused_from tells bytes quest.segment quest.params result page page' reads faults new why s.refused; sound = s.sound }
