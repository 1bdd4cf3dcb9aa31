-- Segments by their numbers: what is sealed, and what was opened.
use Rattle.std.proofs.Common.{◌≡◌, ◌≤◌, ◌<◌, ℕ, zero, suc, List, [], ◌∷◌, refl, ap, subst, ◌∙◌, arith, map, length, get_or, inr, ◌+◌, ◌*◌, ◌/◌}
use Rattle.std.specs.Prelude.{Option, Some, All}
use Rattle.ann_types.specs.Codes.{Book, code}
use Rattle.ann_types.specs.Graph.{Point}
use Rattle.ann_types.specs.declared.params.Params.{Params}
use Rattle.ann_vault.specs.Held.{Holding}
use Rattle.ann_segment.specs.Directory.{Item, item_of}
use Rattle.ann_segment.specs.Segment.{SegmentView}
use Rattle.ann_segment.specs.Opening.{IsOpenedFrom}
use Rattle.ann_segment.specs.Holds.{Holds}
use Rattle.ann_base.specs.Faults.{segment_in, AreBelow, IsFirstHigh, IsSoundFront}
use Rattle.ann_base.specs.Front.{IsFound, IsOpenedBelow, IsRightly}

-- ---- items

-- any default gives the same item
get_any : {A : Type 0} (xs : List A) (i : ℕ) (d e : A) → i < length xs → get_or xs i d ≡ get_or xs i e
get_any [] i d e l = absurd (omega arith)
get_any (x ∷ xs) zero d e l = refl
get_any (x ∷ xs) (suc i) d e l = get_any xs i d e (omega arith)

pub all_low : {S : Type 0} (segment : SegmentView S) (next n : ℕ) → length segment.items ≤ n → ((row : ℕ) → row < n → (item_of segment.items row).0 < next) → AreBelow next segment
all_low segment next n over low k d l = subst (λ (x : Item). x.0 < next) (get_any segment.items k (0, []) d l) (low k (omega arith))

pub low_at : {S : Type 0} (segment : SegmentView S) (next row : ℕ) → AreBelow next segment → row < length segment.items → (item_of segment.items row).0 < next
low_at segment next row below l = below row (0, []) l

-- the items of what was opened are those of the bytes
pub items_are : {S : Type 0} (params : Params) (number : ℕ) (bytes : List ℕ) (segment : SegmentView S) → IsOpenedFrom number params bytes segment → segment.items ≡ (segment_in params number bytes).items
items_are params number bytes segment is = is.items

high_in : {S : Type 0} (params : Params) (number next block : ℕ) (bytes : List ℕ) (segment : SegmentView S) → segment.m ≡ params.m → segment.items ≡ (segment_in params number bytes).items → IsFirstHigh segment next block → IsFirstHigh (segment_in params number bytes) next block
high_in params number next block bytes segment sized is high = record {
  row = high.row;
  within = subst (λ (t : List Item). high.row < length t) is high.within;
  high = subst (λ (t : List Item). next ≤ (item_of t high.row).0) is high.high;
  first = λ earlier l. subst (λ (t : List Item). (item_of t earlier).0 < next) is (high.first earlier l);
  begins = high.begins ∙ ap (λ (m : ℕ). 1 + high.row * (4 + m) / 4096) sized;
}

-- ---- the text of a graph is opened as the graph

abbrev items_of : Book → List Point → List Item
items_of book points = map (λ (x : Point). (x.pid, code book x.vector)) points

point_pid : (book : Book) (points : List Point) (row : ℕ) (d : Point) → row < length points → (item_of (items_of book points) row).0 ≡ (get_or points row d).pid
point_pid book [] row d l = absurd (omega arith)
point_pid book (x ∷ points) zero d l = refl
point_pid book (x ∷ points) (suc row) d l = point_pid book points row d (omega arith)

some_same : {A : Type 0} (o : Option A) (x y : A) → o ≡ Some x → o ≡ Some y → x ≡ y
some_same o x y e f = cc

module _ {S : Type 0} (tells : Type 0) (bytes : S → List ℕ) (held : Holding) (params : Params) (number next : ℕ) (segment : SegmentView S) (found : IsFound tells bytes held params number segment) where
  -- what is sealed has no block before the nodes at fault
  pub sound_front : IsOpenedBelow tells bytes held params number next segment → tells → IsSoundFront held params number next (bytes segment.seal)
  sound_front opened told = record {
    there = found.there told;
    front = (found.from_bytes told).front;
    below = subst (λ (t : List Item). All (λ (x : Item). x.0 < next) t) (items_are params number (bytes segment.seal) segment (found.from_bytes told)) opened.below;
  }

  -- a Pid that isn't below the next one
  pub high_rightly : (block : ℕ) → tells → IsFirstHigh segment next block → IsRightly held params number next block
  high_rightly block told high = record {
    fault = inr (inr (bytes segment.seal, found.there told, (found.from_bytes told).front, high_in params number next block (bytes segment.seal) segment found.code_bytes (items_are params number (bytes segment.seal) segment (found.from_bytes told)) high));
    no_text = λ book graph sealed below.
        let holds : Holds params book (bytes segment.seal) segment graph = found.graph told book graph sealed in
        let none : Point = record { pid = 0; tag = 0; vector = []; links = [] } in
        let size : length segment.items ≡ length graph.points = ap (λ (t : List Item). length t) holds.items ∙ long book graph.points in
        let within = high.within in
        let at : (item_of segment.items high.row).0 ≡ (get_or graph.points high.row none).pid = ap (λ (t : List Item). (item_of t high.row).0) holds.items ∙ point_pid book graph.points high.row none (omega arith) in
        let low = below high.row none (omega arith) in
        let up = high.high in
        absurd (omega arith);
  }
    where
      long : (book : Book) (points : List Point) → length (items_of book points) ≡ length points
      long book [] = refl
      long book (x ∷ points) = let rest = long book points in omega arith
