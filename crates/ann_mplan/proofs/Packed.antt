-- The survivors' new lists, by their ranks, are a graph: that of the Delete phase.
use Rattle.std.proofs.Common.{◌≡◌, ◌≢◌, ℕ, zero, suc, ◌+◌, ◌≤◌, ◌<◌, Bool, true, false, not, List, [], ◌∷◌, refl, sym, ap, ap₂, subst, ◌∙◌, arith, map, length, get_or}
use Rattle.std.specs.Prelude.{All}
use Rattle.std.specs.List.{AllByRecursion, range_with_len}
use Rattle.std.proofs.lemmas.List.{get_or-map, length-map}
use Rattle.std.proofs.lemmas.List.Elements.{All-from_recursion, recursion_from_All}
use Rattle.ann_types.specs.Order.{has}
use Rattle.ann_types.specs.Kept.{rule_of}
use Rattle.ann_types.specs.Codes.{decoded}
use Rattle.ann_types.specs.Graph.{Point, pids_of}
use Rattle.ann_types.specs.Fold.{new_point}
use Rattle.ann_types.specs.Index.{Index}
use Rattle.ann_types.specs.Merge.{delete_phase}
use Rattle.ann_types.specs.Rows.{AreNeighbours, pid_at}
use Rattle.ann_types.specs.declared.new_point.NewPoint.{NewPoint}
use Rattle.ann_types.specs.declared.params.Params.{Params}
use Rattle.ann_types.proofs.Graphs.{all_from_has, all_two, has_all}
use Rattle.ann_types.proofs.Neighbours.{holds_of}
use Rattle.std.proofs.lemmas.Bool.{false≢true}
use Rattle.ann_types.proofs.Sets.{Rises, all_map, all_weaker, filter_has, has_filter, increasing_from_rises, rises_from_increasing}
use Rattle.ann_types.proofs.Renamed.{Below}
use Rattle.ann_types.proofs.Rowed.{pid_of_at}
use Rattle.ann_mdelete.specs.Rows.{AreLists, AreRows, gone_rows, left_rows, repaired_row, repaired_rows}
use Rattle.ann_mdelete.proofs.Gone.{has_range}
use Rattle.ann_mdelete.proofs.Left.{IsLeft, repaired_left}
use Rattle.ann_mdelete.proofs.Points.{StandFor, below_range, map_twice, phase_by_rows, point_in}
use Rattle.ann_mplan.specs.Packing.{rank_in}
use Rattle.ann_mplan.proofs.Ranked.{place_in}
use Rattle.ann_mplan.proofs.Rising.{has_at, has_rank, left_rises, rank_place, rises_ranked}

-- lists of survivors by their ranks
abbrev pub ranked : List Bool → List (List ℕ) → List (List ℕ)
ranked gone lists = map (map (rank_in (left_rows gone 0 (length gone)))) lists

-- ---- the survivors

-- a survivor is a row that isn't deleted
pub survives : (gone : List Bool) (q : ℕ) → q < length gone → has (gone_rows gone) q ≡ false → has (left_rows gone 0 (length gone)) q ≡ true
survives gone q h alive = filter_has (λ p. not (has (gone_rows gone) p)) (range_with_len 0 (length gone)) q (has_range (length gone) 0 q (omega arith) (omega arith)) (ap not alive)

-- and every one of them is
pub record IsSurvivor (gone : List Bool) (row : ℕ) : Type 0 where
  pub below : row < length gone
  pub alive : has (gone_rows gone) row ≡ false

pub survivor_in : (gone : List Bool) (row : ℕ) → has (left_rows gone 0 (length gone)) row ≡ true → IsSurvivor gone row
survivor_in gone row there =
    let both = has_filter (λ p. not (has (gone_rows gone) p)) (range_with_len 0 (length gone)) row there in
    record {
      below = has_all (λ r. r < length gone) (range_with_len 0 (length gone)) row (below_range 0 (length gone) (length gone) (omega arith)) both.0;
      alive = not_true (has (gone_rows gone) row) both.1;
    }
  where
    not_true : (b : Bool) → not b ≡ true → b ≡ false
    not_true true e = absurd (false≢true e)
    not_true false e = refl

each_same : {A B : Type 0} (f g : A → B) (xs : List A) → AllByRecursion (λ x. f x ≡ g x) xs → map f xs ≡ map g xs
each_same f g [] a = refl
each_same f g (x ∷ xs) (h, a) = ap₂ ◌∷◌ h (each_same f g xs a)

-- ---- the lists by ranks

module _ (params : Params) (lists vectors : List (List ℕ)) (gone : List Bool) (w : AreRows params lists vectors gone) where
  -- what a survivor's new list is
  left_of : (row : ℕ) → has (left_rows gone 0 (length gone)) row ≡ true → IsLeft params (length lists) gone row (repaired_row (rule_of params) lists vectors gone row)
  left_of row there =
      let below = (survivor_in gone row there).below in
      let same = w.with_values in
      repaired_left params lists vectors gone row w (omega arith)

  -- its rows are survivors
  pub left_inside : (row : ℕ) → has (left_rows gone 0 (length gone)) row ≡ true → AllByRecursion (λ x. has (left_rows gone 0 (length gone)) x ≡ true) (repaired_row (rule_of params) lists vectors gone row)
  left_inside row there =
      let list : List ℕ = repaired_row (rule_of params) lists vectors gone row in
      let is = left_of row there in
      all_from_has (λ x. has (left_rows gone 0 (length gone)) x ≡ true) list
      (λ x k. let inside : x < length lists = holds_of (λ r. r < length lists) list x is.may.inside k in
      let same = w.with_values in
      survives gone x (omega arith) (holds_of (λ r. has (gone_rows gone) r ≡ false) list x is.survive k))

  count_ranked : length (ranked gone (repaired_rows (rule_of params) lists vectors gone 0 (length gone))) ≡ length (left_rows gone 0 (length gone))
  count_ranked =
      length-map (repaired_rows (rule_of params) lists vectors gone 0 (length gone)) (map (rank_in (left_rows gone 0 (length gone))))
      ∙ length-map (left_rows gone 0 (length gone)) (repaired_row (rule_of params) lists vectors gone)

  ranked_at : (i : ℕ) → i < length (left_rows gone 0 (length gone)) → get_or (ranked gone (repaired_rows (rule_of params) lists vectors gone 0 (length gone))) i [] ≡ map (rank_in (left_rows gone 0 (length gone))) (repaired_row (rule_of params) lists vectors gone (get_or (left_rows gone 0 (length gone)) i 0))
  ranked_at i h =
      let q : List ℕ = left_rows gone 0 (length gone) in
      let size = length-map q (repaired_row (rule_of params) lists vectors gone) in
      get_or-map (map (rank_in q)) (repaired_rows (rule_of params) lists vectors gone 0 (length gone)) i [] [] (omega arith)
      ∙ ap (map (rank_in q)) (get_or-map (repaired_row (rule_of params) lists vectors gone) q i 0 [] h)

  -- By ranks, the survivors' new lists are a graph.
  pub packed_graph : AreLists params (ranked gone (repaired_rows (rule_of params) lists vectors gone 0 (length gone)))
  packed_graph row h =
      let q : List ℕ = left_rows gone 0 (length gone) in
      let count = count_ranked in
      let b : row < length q = omega arith in
      let own : ℕ = get_or q row 0 in
      let list : List ℕ = repaired_row (rule_of params) lists vectors gone own in
      let there = has_at q row b in
      let is = left_of own there in
      let inside = left_inside own there in
      let rises = left_rises gone (length gone) in
      subst (λ (n : ℕ). AreNeighbours params n row (get_or (ranked gone (repaired_rows (rule_of params) lists vectors gone 0 (length gone))) row [])) (sym count)
      (subst (AreNeighbours params (length q) row) (sym (ranked_at row b)) (record {
        rising = increasing_from_rises (map (rank_in q) list) (rises_ranked q list rises (rises_from_increasing list is.may.rising) inside);
        inside = All-from_recursion (λ r. r < length q) (map (rank_in q) list) (all_map (λ r. r < length q) (rank_in q) list (all_weaker (λ x. has q x ≡ true) (λ x. rank_in q x < length q) list (λ x k. (has_rank q x rises k).below) inside));
        others = All-from_recursion (λ r. r ≢ row) (map (rank_in q) list) (all_map (λ r. r ≢ row) (rank_in q) list
            (all_two (λ x. has q x ≡ true) (λ x. x ≢ own) (λ x. rank_in q x ≢ row) list (λ x k d e. d (sym (has_rank q x rises k).back ∙ ap (λ r. get_or q r 0) e)) inside (recursion_from_All (λ x. x ≢ own) list is.may.others)));
        few = (let size = length-map list (rank_in q) in let most = is.may.few in omega arith);
      }))

-- ---- by the Pids

-- The lists by ranks are those of the points that the Delete phase leaves, by their Pids; so are the vectors, and the points
-- are the old ones but for their neighbours.
module _ (index : Index) (points : List Point) (dead : List ℕ) (lists vectors : List (List ℕ)) (gone : List Bool) (w : AreRows index.params lists vectors gone) (s : StandFor index.book points dead lists vectors gone) where
  -- the points of the phase, one by one
  pub phase_points : delete_phase index points dead ≡ map (λ row. record (point_in points row) { links = map (pid_at points) (repaired_row (rule_of index.params) lists vectors gone row) }) (left_rows gone 0 (length gone))
  phase_points =
      phase_by_rows index points dead lists vectors gone s
      ∙ ap (λ (n : ℕ). map (λ row. record (point_in points row) { links = map (pid_at points) (repaired_row (rule_of index.params) lists vectors gone row) }) (left_rows gone 0 n)) (sym s.judged)

  -- a survivor's Pid is that of its rank
  pub pid_ranked : (i : ℕ) → i < length (left_rows gone 0 (length gone)) → pid_at (delete_phase index points dead) i ≡ pid_at points (get_or (left_rows gone 0 (length gone)) i 0)
  pid_ranked i h =
      let q : List ℕ = left_rows gone 0 (length gone) in
      let is = (survivor_in gone (get_or q i 0) (has_at q i h)).below in
      let same = s.judged in
      ap (λ (xs : List Point). pid_at xs i) phase_points
      ∙ ap (λ (ps : List ℕ). get_or ps i 0) (map_twice (λ row. record (point_in points row) { links = map (pid_at points) (repaired_row (rule_of index.params) lists vectors gone row) }) (λ (x : Point). x.pid) q)
      ∙ get_or-map (λ row. (point_in points row).pid) q i 0 0 h
      ∙ sym (pid_of_at points (get_or q i 0) (record { pid = 0; tag = 0; vector = []; links = [] }) (omega arith))

  -- so a list of survivors has by ranks the Pids that it has by rows
  same_pids : (list : List ℕ) → AllByRecursion (λ x. has (left_rows gone 0 (length gone)) x ≡ true) list → map (pid_at points) list ≡ map (pid_at (delete_phase index points dead)) (map (rank_in (left_rows gone 0 (length gone))) list)
  same_pids list inside =
      let q : List ℕ = left_rows gone 0 (length gone) in
      let phase : List Point = delete_phase index points dead in
      each_same (pid_at points) (λ x. pid_at phase (rank_in q x)) list
      (all_weaker (λ x. has q x ≡ true) (λ x. pid_at points x ≡ pid_at phase (rank_in q x)) list
      (λ x k. let is = has_rank q x (left_rises gone (length gone)) k in
      sym (pid_ranked (rank_in q x) is.below ∙ ap (pid_at points) is.back)) inside)
      ∙ sym (map_twice (rank_in q) (pid_at phase) list)

  pub packed_links : map (λ (x : Point). x.links) (delete_phase index points dead) ≡ map (map (pid_at (delete_phase index points dead))) (ranked gone (repaired_rows (rule_of index.params) lists vectors gone 0 (length gone)))
  packed_links =
      let q : List ℕ = left_rows gone 0 (length gone) in
      let phase : List Point = delete_phase index points dead in
      let list : ℕ → List ℕ = repaired_row (rule_of index.params) lists vectors gone in
      ap (map (λ (x : Point). x.links)) phase_points
      ∙ map_twice (λ row. record (point_in points row) { links = map (pid_at points) (list row) }) (λ (x : Point). x.links) q
      ∙ each_same (λ row. map (pid_at points) (list row)) (λ row. map (pid_at phase) (map (rank_in q) (list row))) q
      (all_from_has (λ row. map (pid_at points) (list row) ≡ map (pid_at phase) (map (rank_in q) (list row))) q
      (λ row k. same_pids (list row) (left_inside index.params lists vectors gone w row k)))
      ∙ sym (ap (map (map (pid_at phase))) (map_twice list (map (rank_in q)) q) ∙ map_twice (λ row. map (rank_in q) (list row)) (map (pid_at phase)) q)

  pub packed_vectors : map (λ (x : Point). decoded index.book x.vector) (delete_phase index points dead) ≡ map (λ row. get_or vectors row []) (left_rows gone 0 (length gone))
  packed_vectors =
      let q : List ℕ = left_rows gone 0 (length gone) in
      ap (map (λ (x : Point). decoded index.book x.vector)) phase_points
      ∙ map_twice (λ row. record (point_in points row) { links = map (pid_at points) (repaired_row (rule_of index.params) lists vectors gone row) }) (λ (x : Point). decoded index.book x.vector) q
      ∙ each_same (λ row. decoded index.book (point_in points row).vector) (λ row. get_or vectors row []) q
      (all_from_has (λ row. decoded index.book (point_in points row).vector ≡ get_or vectors row []) q
      (λ row k. let below = (survivor_in gone row k).below in let same = s.judged in
      sym (ap (λ (t : List (List ℕ)). get_or t row []) s.coded ∙ get_or-map (λ (x : Point). decoded index.book x.vector) points row (record { pid = 0; tag = 0; vector = []; links = [] }) [] (omega arith))))

  pub packed_points : map new_point (delete_phase index points dead) ≡ map (λ row. new_point (point_in points row)) (left_rows gone 0 (length gone))
  packed_points =
      ap (map new_point) phase_points
      ∙ map_twice (λ row. record (point_in points row) { links = map (pid_at points) (repaired_row (rule_of index.params) lists vectors gone row) }) new_point (left_rows gone 0 (length gone))
