-- What a session's search finds: the hits of its list, whose points are all in memory.
use Rattle.std.proofs.Common.{◌≡◌, ℕ, List, [], ◌∷◌, ◌++◌, refl, sym, ap, ◌∙◌, map, length, cond, eq-eqb}
use Rattle.std.specs.Prelude.{flat_map}
use Rattle.ann_types.specs.Answer.{hits, hit, found}
use Rattle.ann_types.specs.Codes.{Book}
use Rattle.ann_types.specs.Fold.{State, all_points, fold_of}
use Rattle.ann_types.specs.Graph.{Point, Graph, empty_graph, far_from}
use Rattle.ann_types.specs.Index.{Index}
use Rattle.ann_types.specs.Lists.{BasedList, length_of}
use Rattle.ann_types.specs.Merge.{without}
use Rattle.ann_types.specs.Order.{top}
use Rattle.ann_types.specs.declared.ask.Ask.{Ask}
use Rattle.ann_types.specs.declared.hit.Hit.{Hit}
use Rattle.ann_types.specs.declared.params.Params.{Params}
use Rattle.ann_transcript.specs.declared.reply.Reply.TheVariants.{Found, Search}
use Rattle.ann_transcript.specs.declared.reply.SearchWord.TheVariants.{Dimension}
use Rattle.ann_beam.specs.Ranking.{hit_of}
use Rattle.ann_view.specs.Search.{near_memory, near_result}
use Rattle.ann_view.specs.View.{index_of}
use Rattle.ann_once.specs.Once.{once_index, search_reply}
use Rattle.ann_once.specs.Session.{Keeps}
use Rattle.ann_once.specs.declared.session.Session.{Session}
use Rattle.ann_view.proofs.Whole.{hits_ranked}

-- ---- a search of the graphs in memory, where there is no other

append_none : (xs : List ℕ) → xs ++ [] ≡ xs
append_none [] = refl
append_none (x ∷ xs) = ap (λ t. x ∷ t) (append_none xs)

hits_are : (index : Index) (s : State) (k l : ℕ) (query : List ℕ) → hits index s k l query ≡ map (hit (all_points s) query) (top (far_from (all_points s) query) k (without s.dead (found index s query l)))
unfolding hits
hits_are index s k l query = refl

near_all : (memory : State) (query : List ℕ) (l : ℕ) → near_memory memory query l ≡ near_memory memory query l ++ []
near_all memory query l = sym (append_none (near_memory memory query l))

memory_hits : (index : Index) (memory : State) (ask : Ask) → memory.lti ≡ empty_graph → map hit_of (near_result memory ask).points ≡ hits index (record memory { lti = empty_graph }) ask.k ask.l ask.vector
memory_hits index memory ask none =
    let points : List Point = all_points memory in
    let query : List ℕ = ask.vector in
    let far : ℕ → ℕ = far_from points query in
    hits_ranked points query (top far ask.k (without memory.dead (near_memory memory query ask.l)))
    ∙ ap (λ pids. map (hit points query) (top far ask.k (without memory.dead pids))) (near_all memory query ask.l)
    ∙ ap (λ (g : Graph). let all : List Point = g.points ++ flat_map (λ (r : Graph). r.points) memory.ros ++ memory.rw.points in map (hit all query) (top (far_from all query) ask.k (without memory.dead (near_memory memory query ask.l ++ [])))) none
    ∙ sym (hits_are index (record memory { lti = empty_graph }) ask.k ask.l query)

-- ---- the state of a session's list

index_is : (h : BasedList) (s : Session) → Keeps h s → index_of s.view ≡ once_index s.params
index_is h s keeps =
    ap (λ (p : Params). record { params = p; book = s.view.book.book }) keeps.params
    ∙ ap (λ (b : Book). record { params = s.params; book = b }) keeps.book

state_is : (h : BasedList) (s : Session) → Keeps h s → fold_of (once_index s.params) h ≡ record s.view.memory { lti = empty_graph }
state_is h s keeps =
    ap (λ (i : Index). fold_of i h) (sym (index_is h s keeps))
    ∙ keeps.stands.state
    ∙ ap (λ (i : Index). record s.view.memory { lti = (fold_of i h).lti }) (index_is h s keeps)
    ∙ ap (λ (g : Graph). record s.view.memory { lti = g }) keeps.lti

-- ---- the reply

pub reply_is : (h : BasedList) (s : Session) (ask : Ask) (at : ℕ) (found : List Hit) → Keeps h s → s.view.memory.lti ≡ empty_graph → length ask.vector ≡ s.view.params.d → at ≡ s.view.at → found ≡ map hit_of (near_result s.view.memory ask).points → Found at found ≡ search_reply (once_index s.params) h ask.k ask.l ask.vector
reply_is h s ask at found keeps none same stands is =
    ap (λ (n : ℕ). Found n found) (stands ∙ keeps.stands.at)
    ∙ ap (Found (length_of h)) (
    is
    ∙ memory_hits (once_index s.params) s.view.memory ask none
    ∙ ap (λ (state : State). hits (once_index s.params) state ask.k ask.l ask.vector) (sym (state_is h s keeps))
    )
    ∙ ap (λ t. cond t (Found (length_of h) (hits (once_index s.params) (fold_of (once_index s.params) h) ask.k ask.l ask.vector)) (Search (Dimension (length ask.vector) s.params.d))) (sym (eq-eqb (length ask.vector) s.params.d (same ∙ ap (λ (p : Params). p.d) keeps.params)))
