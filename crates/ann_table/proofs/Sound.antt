-- What is true of every table stays true: of none, with a row more, with one row's neighbours changed.
use Rattle.std.proofs.Common.{◌≡◌, ◌≢◌, ℕ, suc, ◌+◌, ◌≤◌, ◌<◌, List, [], ◌∷◌, ◌++◌, refl, sym, ap, subst, ◌∙◌, arith, inl, inr, length, get_or-set_same, get_or-set_other, length-set, length-append}
use Rattle.std.specs.List.{All, AllByRecursion}
use Rattle.std.specs.List.Sorted.{IsStrictlyIncreasing}
use Rattle.std.proofs.lemmas.Bool.{cases_eq, cases_lt}
use Rattle.std.proofs.lemmas.List.{get_or_append_left, length-map, map-append}
use Rattle.std.proofs.lemmas.List.Elements.{All-push, All-set}
use Rattle.std.proofs.Math.Seq.{map-set_same, get_or-append_seam}
use Rattle.ann_types.specs.Distance.{distance}
use Rattle.ann_types.specs.Kept.{rule_of}
use Rattle.ann_types.specs.declared.params.Params.{Params}
use Rattle.ann_types.proofs.Sets.{Rises, rises_from_increasing, increasing_from_rises, rises_push}
use Rattle.ann_prune.specs.Newer.{AreSettled}
use Rattle.ann_table.specs.Node.{Node, nothing, node_at, row_pids, apart_rows, linked}
use Rattle.ann_types.specs.Rows.{AreNeighbours}
use Rattle.ann_table.specs.Table.{IsNode, AreNodes}
use Rattle.ann_table.proofs.Settled.{AreSame, settled_same}
use Rattle.ann_prune.proofs.Prunes.{settled_none}

pub nodes_none : (params : Params) → AreNodes params []
nodes_none params = record {
  rising = λ k l. absurd (omega arith);
  small = λ k d l. absurd (omega arith);
  each = λ row l. absurd (omega arith);
}

-- ---- one row's neighbours changed

pub length_linked : (nodes : List Node) (row : ℕ) (links : List ℕ) (newer : ℕ) → length (linked nodes row links newer) ≡ length nodes
length_linked nodes row links newer = length-set nodes row (record (node_at nodes row) { links = links; newer = newer })

pub at_linked_same : (nodes : List Node) (row : ℕ) (links : List ℕ) (newer : ℕ) → row < length nodes → node_at (linked nodes row links newer) row ≡ record (node_at nodes row) { links = links; newer = newer }
at_linked_same nodes row links newer l = get_or-set_same nodes row (record (node_at nodes row) { links = links; newer = newer }) nothing l

pub at_linked_other : (nodes : List Node) (row other : ℕ) (links : List ℕ) (newer : ℕ) → other ≢ row → node_at (linked nodes row links newer) other ≡ node_at nodes other
at_linked_other nodes row other links newer h = get_or-set_other nodes row other (record (node_at nodes row) { links = links; newer = newer }) nothing h

pub vector_linked : (nodes : List Node) (row other : ℕ) (links : List ℕ) (newer : ℕ) → row < length nodes → (node_at (linked nodes row links newer) other).vector ≡ (node_at nodes other).vector
vector_linked nodes row other links newer l = elim (cases_eq other row) [
  | inl e ↦ ap (λ n. (node_at (linked nodes row links newer) n).vector) e ∙ ap (λ (x : Node). x.vector) (at_linked_same nodes row links newer l) ∙ ap (λ n. (node_at nodes n).vector) (sym e)
  | inr h ↦ ap (λ (x : Node). x.vector) (at_linked_other nodes row other links newer h)
]

same_linked : (nodes : List Node) (row : ℕ) (links : List ℕ) (newer n : ℕ) → row < length nodes → AreSame n (apart_rows nodes) (apart_rows (linked nodes row links newer))
same_linked nodes row links newer n l x y a b =
    ap (λ t. distance t (node_at (linked nodes row links newer) y).vector) (vector_linked nodes row x links newer l)
    ∙ ap (distance (node_at nodes x).vector) (vector_linked nodes row y links newer l)

pub pids_linked : (nodes : List Node) (row : ℕ) (links : List ℕ) (newer : ℕ) → row_pids (linked nodes row links newer) ≡ row_pids nodes
pids_linked nodes row links newer = map-set_same (λ (x : Node). x.pid) nodes row (record (node_at nodes row) { links = links; newer = newer }) nothing refl

-- a node stays sound where rows come and distances stay
node_kept : (params : Params) (nodes nodes' : List Node) (row : ℕ) (x : Node) → row < length nodes → length nodes ≤ length nodes' → AreSame (length nodes) (apart_rows nodes) (apart_rows nodes') → IsNode params nodes row x → IsNode params nodes' row x
node_kept params nodes nodes' row x h more same s = record {
  vector = s.vector;
  links = record {
    rising = s.links.rising;
    inside = λ k d l. (let a = s.links.inside k d l in omega arith);
    others = s.links.others;
    few = s.links.few;
  };
  settled = settled_same (length nodes) (rule_of params) (apart_rows nodes) (apart_rows nodes') row x.newer x.links same h s.links.inside s.settled;
  newer = (let a = s.newer in omega arith);
}

pub nodes_linked : (params : Params) (nodes : List Node) (row : ℕ) (links : List ℕ) (newer : ℕ) → row < length nodes → AreNodes params nodes → AreNeighbours params (length nodes) row links → AreSettled (rule_of params) (apart_rows nodes) row newer links → newer ≤ length nodes → AreNodes params (linked nodes row links newer)
nodes_linked params nodes row links newer l a may settled few =
    let now : List Node = linked nodes row links newer in
    let size : length now ≡ length nodes = length_linked nodes row links newer in
    let same : AreSame (length nodes) (apart_rows nodes) (apart_rows now) = same_linked nodes row links newer (length nodes) l in
    record {
      rising = subst IsStrictlyIncreasing (sym (pids_linked nodes row links newer)) a.rising;
      small = All-set (λ (x : Node). x.pid < 4294967295) nodes row (record (node_at nodes row) { links = links; newer = newer }) (a.small row nothing l) a.small;
      each = λ other h.
          let inside : other < length nodes = omega arith in
          elim (cases_eq other row) [
            | inl e ↦ subst (λ n. IsNode params now n (node_at now n)) (sym e)
                (subst (λ (x : Node). IsNode params now row x) (sym (at_linked_same nodes row links newer l))
                (node_kept params nodes now row (record (node_at nodes row) { links = links; newer = newer }) l (omega arith) same
                (record { vector = (a.each row l).vector; links = may; settled = settled; newer = few })))
            | inr k ↦ subst (λ (x : Node). IsNode params now other x) (sym (at_linked_other nodes row other links newer k))
                (node_kept params nodes now other (node_at nodes other) inside (omega arith) same (a.each other inside))
          ];
    }

-- ---- a row more

below_pids : (pid : ℕ) (nodes : List Node) → All (λ (x : Node). x.pid < pid) nodes → AllByRecursion (λ p. p < pid) (row_pids nodes)
below_pids pid [] a = tt
below_pids pid (x ∷ nodes) a = (a 0 nothing (omega arith), below_pids pid nodes (λ k d l. a (suc k) d (omega arith)))

same_added : (nodes : List Node) (x : Node) → AreSame (length nodes) (apart_rows nodes) (apart_rows (nodes ++ x ∷ []))
same_added nodes x r s a b =
    ap (λ (t : Node). distance t.vector (node_at (nodes ++ x ∷ []) s).vector) (get_or_append_left nodes (x ∷ []) nothing r a)
    ∙ ap (λ (t : Node). distance (node_at nodes r).vector t.vector) (get_or_append_left nodes (x ∷ []) nothing s b)

not_last : (row n m : ℕ) → row < m → m ≡ n + 1 → (row ≡ n → ⊥) → row < n
not_last row n m h e k = elim (cases_lt row n) [ inl l ↦ l | inr g ↦ absurd (k (omega arith)) ]

pub nodes_added : (params : Params) (nodes : List Node) (x : Node) → AreNodes params nodes → All (λ (y : Node). y.pid < x.pid) nodes → x.pid < 4294967295 → length x.vector ≡ params.d → AreNeighbours params (length nodes) (length nodes) x.links → x.newer ≡ 0 → AreNodes params (nodes ++ x ∷ [])
nodes_added params nodes x a above small width may none =
    let now : List Node = nodes ++ x ∷ [] in
    let size : length now ≡ length nodes + 1 = length-append nodes (x ∷ []) in
    let same : AreSame (length nodes) (apart_rows nodes) (apart_rows now) = same_added nodes x in
    record {
      rising = subst IsStrictlyIncreasing (sym (map-append (λ (y : Node). y.pid) nodes (x ∷ [])))
          (increasing_from_rises (row_pids nodes ++ x.pid ∷ []) (rises_push (row_pids nodes) x.pid (rises_from_increasing (row_pids nodes) a.rising) (below_pids x.pid nodes above)));
      small = All-push (λ (y : Node). y.pid < 4294967295) nodes x a.small small;
      each = λ row h.
          elim (cases_eq row (length nodes)) [
            | inl e ↦ subst (λ n. IsNode params now n (node_at now n)) (sym e)
                (subst (λ (y : Node). IsNode params now (length nodes) y) (sym (get_or-append_seam nodes x [] nothing))
                (record {
                  vector = width;
                  links = record {
                    rising = may.rising;
                    inside = λ k d l. (let i = may.inside k d l in omega arith);
                    others = may.others;
                    few = may.few;
                  };
                  settled = subst (λ n. AreSettled (rule_of params) (apart_rows now) (length nodes) n x.links) (sym none) (settled_none (rule_of params) (apart_rows now) (length nodes) x.links);
                  newer = omega arith;
                }))
            | inr k ↦ (
                let inside : row < length nodes = not_last row (length nodes) (length now) h size k in
                subst (λ (y : Node). IsNode params now row y) (sym (get_or_append_left nodes (x ∷ []) nothing row inside))
                (node_kept params nodes now row (node_at nodes row) inside (omega arith) same (a.each row inside)))
          ];
    }

-- ---- how many rows there may be

from_above : (x : ℕ) (xs : List ℕ) → AllByRecursion (λ y. x < y) xs → AllByRecursion (λ y. x + 1 ≤ y) xs
from_above x [] a = tt
from_above x (y ∷ xs) (h, a) = (omega arith, from_above x xs a)

from_none : (xs : List ℕ) → AllByRecursion (λ y. 0 ≤ y) xs
from_none [] = tt
from_none (x ∷ xs) = (omega arith, from_none xs)

rises_few : (m n : ℕ) (xs : List ℕ) → m ≤ n → AllByRecursion (λ x. m ≤ x) xs → Rises xs → AllByRecursion (λ x. x < n) xs → m + length xs ≤ n
rises_few m n [] h a r b = omega arith
rises_few m n (x ∷ xs) h (l, a) (up, r) (k, b) = let rest = rises_few (x + 1) n xs (omega arith) (from_above x xs up) r b in omega arith

pub few_nodes : (params : Params) (pid : ℕ) (nodes : List Node) → AreNodes params nodes → All (λ (x : Node). x.pid < pid) nodes → length nodes ≤ pid
few_nodes params pid nodes a above =
    let size = length-map nodes (λ (x : Node). x.pid) in
    let few = rises_few 0 pid (row_pids nodes) (omega arith) (from_none (row_pids nodes)) (rises_from_increasing (row_pids nodes) a.rising) (below_pids pid nodes above) in
    omega arith
