-- Pieces: all of them together are the graph.
use Rattle.std.proofs.Common.{◌≡◌, ◌∙◌, ℕ, zero, suc, ◌+◌, ◌-◌, ◌*◌, ◌/◌, ◌≤◌, ◌<◌, Bool, true, false, cond, eqb, eqb-true, ◌&&◌, ◌||◌, List, [], ◌∷◌, ◌++◌, map, flat_map, take, drop, length, refl, sym, ap, subst, arith}
use Rattle.std.specs.Prelude.{Option, Some, None, All}
use Rattle.std.specs.List.{list_any, list_all, range_with_len}
use Rattle.std.proofs.lemmas.Bool.{false≢true, and_parts}
use Rattle.std.proofs.lemmas.List.{drop_all, drop-drop, take-append-drop}
use Rattle.std.proofs.lemmas.List.Elements.{All-head, All-tail}
use Rattle.ann_types.specs.Graph.{Point, Graph}
use Rattle.ann_types.specs.Index.{Index}
use Rattle.ann_types.specs.Merge.{entered, patch_phase, merged}
use Rattle.ann_types.specs.Fold.{Begun, State, new_points, merge_of}
use Rattle.ann_types.specs.declared.new_point.NewPoint.{NewPoint}
use Rattle.ann_core_laws.specs.State.{Piece, pieces_of, rows_of_piece, is_finished, rows_in, all_finished, joined}
use Rattle.ann_core_laws.specs.Facts.{IsPieceOf}

-- ---- a merged graph is entered by its points

patch_entered : (index : Index) (base new : List Point) → entered index (patch_phase index base new).points ≡ patch_phase index base new
unfolding patch_phase
patch_entered index base new = refl

merged_entered : (index : Index) (lti : Graph) (new : List NewPoint) (gone : List ℕ) → entered index (merged index lti new gone).points ≡ merged index lti new gone
unfolding merged
merged_entered index lti new gone = patch_entered index _ _

pub merge_entered : (index : Index) (s : State) (b : Begun) → entered index (merge_of index s (Some b)).points ≡ merge_of index s (Some b)
merge_entered index s b = merged_entered index s.lti (new_points s b) b.gone

-- ---- the pieces of a graph, one after the other

-- all pieces from one on make what is left behind those before
chunks : (points : List Point) (from count : ℕ) → length points ≤ 256 * (from + count) → flat_map (rows_of_piece points) (range_with_len from count) ≡ drop (256 * from) points
chunks points from zero l = sym (drop_all (256 * from) points (omega (arith, l)))
chunks points from (suc count) l =
    ap (λ t. rows_of_piece points from ++ t) (chunks points (from + 1) count (omega (arith, l)))
    ∙ ap (λ n. rows_of_piece points from ++ drop n points) (let n : 256 * (from + 1) ≡ 256 * from + 256 = omega arith in n)
    ∙ ap (λ t. rows_of_piece points from ++ t) (sym (drop-drop 256 (256 * from) points))
    ∙ take-append-drop 256 (drop (256 * from) points)

pub all_chunks : (points : List Point) → flat_map (rows_of_piece points) (range_with_len 0 (pieces_of points)) ≡ points
all_chunks points = chunks points 0 (pieces_of points) (omega arith)

-- ---- the finished pieces

pub finished_rows : (points : List Point) (pieces : List Piece) (n : ℕ) → All (IsPieceOf points) pieces → is_finished pieces n ≡ true → rows_in pieces n ≡ rows_of_piece points n
finished_rows points [] n a f = absurd (false≢true f)
finished_rows points (x ∷ xs) n a f =
    let first : IsPieceOf points x = All-head (IsPieceOf points) x xs a in
    elim (eqb x.number n) as (λ t. eqb x.number n ≡ t → (t || is_finished xs n) ≡ true → cond t x.rows (rows_in xs n) ≡ rows_of_piece points n) [
      | true ↦ λ e _. first.rows ∙ ap (rows_of_piece points) (eqb-true x.number n e)
      | false ↦ λ e k. finished_rows points xs n (All-tail (IsPieceOf points) x xs a) k
    ] refl f

joined_from : (points : List Point) (pieces : List Piece) (ns : List ℕ) → All (IsPieceOf points) pieces → list_all (is_finished pieces) ns ≡ true → flat_map (rows_in pieces) ns ≡ flat_map (rows_of_piece points) ns
joined_from points pieces [] a f = refl
joined_from points pieces (n ∷ ns) a f =
    let both = and_parts (is_finished pieces n) (list_all (is_finished pieces) ns) f in
    ap (λ t. t ++ flat_map (rows_in pieces) ns) (finished_rows points pieces n a both.0)
    ∙ ap (λ t. rows_of_piece points n ++ t) (joined_from points pieces ns a both.1)

-- joined, they are the graph's points
pub joined_is : (points : List Point) (pieces : List Piece) → All (IsPieceOf points) pieces → all_finished pieces (pieces_of points) ≡ true → joined pieces (pieces_of points) ≡ points
joined_is points pieces a f = joined_from points pieces (range_with_len 0 (pieces_of points)) a f ∙ all_chunks points

-- ---- pieces are finished

pub finished_more : (pieces : List Piece) (x : Piece) (n : ℕ) → is_finished pieces n ≡ true → is_finished (pieces ++ x ∷ []) n ≡ true
finished_more [] x n f = absurd (false≢true f)
finished_more (y ∷ ys) x n f =
    elim (eqb y.number n) as (λ t. (t || is_finished ys n) ≡ true → (t || is_finished (ys ++ x ∷ []) n) ≡ true) [ true ↦ λ _. refl | false ↦ λ k. finished_more ys x n k ] f

or_true : (a : Bool) → (a || true) ≡ true
or_true true = refl
or_true false = refl

pub finished_new : (pieces : List Piece) (x : Piece) (n : ℕ) → eqb x.number n ≡ true → is_finished (pieces ++ x ∷ []) n ≡ true
finished_new [] x n e = ap (λ t. t || false) e
finished_new (y ∷ ys) x n e = ap (λ t. eqb y.number n || t) (finished_new ys x n e) ∙ or_true (eqb y.number n)

-- all of a range are finished where each is
pub all_from : (pieces : List Piece) (from count : ℕ) → ((n : ℕ) → n < from + count → is_finished pieces n ≡ true) → list_all (is_finished pieces) (range_with_len from count) ≡ true
all_from pieces from zero each = refl
all_from pieces from (suc count) each =
    ap (λ t. t && list_all (is_finished pieces) (range_with_len (from + 1) count)) (each from (omega arith))
    ∙ all_from pieces (from + 1) count (λ n l. each n (omega (arith, l)))
