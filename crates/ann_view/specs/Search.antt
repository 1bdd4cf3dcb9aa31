-- What a search of a view leaves on its desk.
use Rattle.std.specs.Prelude.{◌≡◌, ℕ, List, [], ◌++◌, All, IsTrue, map, flat_map}
use Rattle.ann_types.specs.Order.{top}
use Rattle.ann_types.specs.Graph.{Point, Graph, far_from, tag_of, near_to}
use Rattle.ann_types.specs.Merge.{without}
use Rattle.ann_types.specs.Fold.{State, all_points}
use Rattle.ann_types.specs.Lists.{BasedList, is_live, live_of}
use Rattle.ann_types.specs.Legal.{IsLegal}
use Rattle.ann_types.specs.Answer.{hits, answer}
use Rattle.ann_types.specs.declared.ask.Ask.{Ask}
use Rattle.ann_types.specs.declared.hit.Hit.{Hit}
use Rattle.ann_beam.specs.Ranking.{Ranked, RankingView, hit_of, rank}
use Rattle.ann_beam.specs.Quest.{Quest, Standing, quest_of}
use Rattle.ann_view.specs.View.{IndexView, IsView, index_of, whole}
use Rattle.ann_view.specs.Pinned.{PinnedView, pinned}
use Rattle.ann_view.specs.Stands.{StandsFor, lti_of}
use Rattle.ann_view.specs.Holding.{HoldsGraph}

-- the points near a query in the graphs in memory; deleted ones take their places among them
abbrev pub near_memory : State → List ℕ → ℕ → List ℕ
near_memory memory query width =
    near_to memory.rw query width ++ flat_map (λ (g : Graph). near_to g query width) memory.ros

-- these of some points as a search ranks them: the least by exact distance and Pid, as many as it wants
abbrev pub ranked_of : List Point → List ℕ → ℕ → List ℕ → List Ranked
ranked_of points query k pids =
    let far : ℕ → ℕ = far_from points query in
    map (rank far (tag_of points)) (top far k pids)

-- the result of a search of the graphs in memory
abbrev pub near_result : State → Ask → RankingView
near_result memory ask = record {
  limit = ask.k;
  points = ranked_of (all_points memory) ask.vector ask.k (without memory.dead (near_memory memory ask.vector ask.l));
}

-- a result without hits
abbrev pub nothing_found : ℕ → RankingView
nothing_found k = record { limit = k; points = [] }

-- what the search of the long-term graph of a pin, or of a view, goes by
abbrev pub quest_by : {S : Type 0} → PinnedView S → Ask → Quest S
quest_by pin ask = quest_of pin.segment pin.params pin.book pin.dead ask

abbrev pub quest_in : {S : Type 0} → IndexView S → Ask → Quest S
quest_in view ask = quest_by (pinned view) ask

-- the search of the graphs in memory of a view is done
abbrev pub from_near : {S : Type 0} → IndexView S → Ask → Standing → Standing
from_near view ask old = record old { result = near_result view.memory ask }

-- what stands on a desk is what the search of the graphs in memory of a view left there, which was pinned
pub record IsNearOf {S : Type 0} (pin : PinnedView S) (ask : Ask) (result : RankingView) (view : IndexView S) : Type 0 where
  pub sound : IsView view
  pub pinned : pinned view ≡ pin
  pub near : result ≡ near_result view.memory ask

-- what stands on a desk answers an ask: it is what the definition finds in the view's state with the long-term graph that
-- its segment holds; so it is the answer of each list for which the view stands, and where that is legal its tags are live
pub record IsAnswered {S : Type 0} (bytes : S → List ℕ) (view : IndexView S) (ask : Ask) (points : List Ranked) : Type 0 where
  pub found : (lti : Graph) → HoldsGraph bytes view lti → map hit_of points ≡ hits (index_of view) (whole view lti) ask.k ask.l ask.vector
  pub answer : (h : BasedList) → StandsFor view h → HoldsGraph bytes view (lti_of view h) → map hit_of points ≡ answer (index_of view) h ask
  pub live : (h : BasedList) → StandsFor view h → HoldsGraph bytes view (lti_of view h) → IsLegal (index_of view) h → All (λ (x : Hit). IsTrue (is_live (live_of h) x.tag)) (map hit_of points)
