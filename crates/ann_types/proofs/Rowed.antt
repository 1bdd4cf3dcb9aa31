-- The points of a graph by their rows, which are their places in order of Pid.
use Rattle.std.proofs.Common.{◌≡◌, ℕ, zero, suc, ◌<◌, true, false, cond, eqb, List, [], ◌∷◌, ◌||◌, refl, sym, ap, ◌∙◌, arith, map, length, get_or, eqb-true, eq-eqb}
use Rattle.std.specs.List.{AllByRecursion}
use Rattle.std.proofs.lemmas.Bool.{false≢true, ne_eqb, or_left, or_right}
use Rattle.std.proofs.lemmas.List.{length-map}
use Rattle.ann_types.specs.Distance.{distance}
use Rattle.ann_types.specs.Order.{has}
use Rattle.ann_types.specs.Graph.{Point, pids_of, vector_of, links_of, tag_of, far_from, apart_in, ground}
use Rattle.ann_types.specs.Rows.{pid_at}
use Rattle.ann_types.proofs.Sets.{Rises}
use Rattle.ann_types.proofs.Renamed.{Below, IsRise, Renames}

above_at : (n : ℕ) (xs : List ℕ) (r : ℕ) → AllByRecursion (λ x. n < x) xs → r < length xs → n < get_or xs r 0
above_at n [] r a l = absurd (omega arith)
above_at n (x ∷ xs) zero (h, a) l = h
above_at n (x ∷ xs) (suc r) (h, a) l = above_at n xs r a (omega arith)

rise_at : (xs : List ℕ) (r s : ℕ) → Rises xs → r < s → s < length xs → get_or xs r 0 < get_or xs s 0
rise_at [] r s w l m = absurd (omega arith)
rise_at (x ∷ xs) zero zero w l m = absurd (omega arith)
rise_at (x ∷ xs) zero (suc s) (a, w) l m = above_at x xs s a (omega arith)
rise_at (x ∷ xs) (suc r) zero w l m = absurd (omega arith)
rise_at (x ∷ xs) (suc r) (suc s) (a, w) l m = rise_at xs r s w (omega arith) (omega arith)

has_at : (xs : List ℕ) (r : ℕ) → r < length xs → has xs (get_or xs r 0) ≡ true
has_at [] r l = absurd (omega arith)
has_at (x ∷ xs) zero l = or_left (eqb x x) (has xs x) (eq-eqb x x refl)
has_at (x ∷ xs) (suc r) l = or_right (eqb (get_or xs r 0) x) (has xs (get_or xs r 0)) (has_at xs r (omega arith))

-- Pids rise with the rows.
pub pids_rise_at : (points : List Point) → Rises (pids_of points) → IsRise (pid_at points) (length points)
pids_rise_at points w r s l m = rise_at (pids_of points) r s w l (let size = length-map points (λ (x : Point). x.pid) in omega arith)

pub has_pid_at : (points : List Point) (r : ℕ) → r < length points → has (pids_of points) (pid_at points r) ≡ true
has_pid_at points r l = has_at (pids_of points) r (let size = length-map points (λ (x : Point). x.pid) in omega arith)

pub pid_of_at : (points : List Point) (r : ℕ) (d : Point) → r < length points → pid_at points r ≡ (get_or points r d).pid
pid_of_at [] r d l = absurd (omega arith)
pid_of_at (x ∷ points) zero d l = refl
pid_of_at (x ∷ points) (suc r) d l = pid_of_at points r d (omega arith)

later_pid : (x : Point) (points : List Point) (r : ℕ) → AllByRecursion (λ p. x.pid < p) (pids_of points) → r < length points → eqb x.pid (pid_at points r) ≡ false
later_pid x points r a l =
    let above : x.pid < get_or (pids_of points) r 0 = above_at x.pid (pids_of points) r a (let size = length-map points (λ (y : Point). y.pid) in omega arith) in
    ne_eqb x.pid (pid_at points r) (λ e. absurd (omega arith))

-- What a graph has at a row's Pid is what the row has.
pub vector_at : (points : List Point) (r : ℕ) (d : Point) → Rises (pids_of points) → r < length points → vector_of points (pid_at points r) ≡ (get_or points r d).vector
vector_at [] r d w l = absurd (omega arith)
vector_at (x ∷ points) zero d w l = ap (λ t. cond t x.vector (vector_of points x.pid)) (eq-eqb x.pid x.pid refl)
vector_at (x ∷ points) (suc r) d (a, w) l = ap (λ t. cond t x.vector (vector_of points (pid_at points r))) (later_pid x points r a (omega arith)) ∙ vector_at points r d w (omega arith)

pub links_at : (points : List Point) (r : ℕ) (d : Point) → Rises (pids_of points) → r < length points → links_of points (pid_at points r) ≡ (get_or points r d).links
links_at [] r d w l = absurd (omega arith)
links_at (x ∷ points) zero d w l = ap (λ t. cond t x.links (links_of points x.pid)) (eq-eqb x.pid x.pid refl)
links_at (x ∷ points) (suc r) d (a, w) l = ap (λ t. cond t x.links (links_of points (pid_at points r))) (later_pid x points r a (omega arith)) ∙ links_at points r d w (omega arith)

pub tag_at : (points : List Point) (r : ℕ) (d : Point) → Rises (pids_of points) → r < length points → tag_of points (pid_at points r) ≡ (get_or points r d).tag
tag_at [] r d w l = absurd (omega arith)
tag_at (x ∷ points) zero d w l = ap (λ t. cond t x.tag (tag_of points x.pid)) (eq-eqb x.pid x.pid refl)
tag_at (x ∷ points) (suc r) d (a, w) l = ap (λ t. cond t x.tag (tag_of points (pid_at points r))) (later_pid x points r a (omega arith)) ∙ tag_at points r d w (omega arith)

pub far_at : (points : List Point) (query : List ℕ) (r : ℕ) (d : Point) → Rises (pids_of points) → r < length points → far_from points query (pid_at points r) ≡ distance query (get_or points r d).vector
far_at points query r d w l = ap (distance query) (vector_at points r d w l)

pub apart_at : (points : List Point) (r s : ℕ) (d : Point) → Rises (pids_of points) → r < length points → s < length points → apart_in points (pid_at points r) (pid_at points s) ≡ distance (get_or points r d).vector (get_or points s d).vector
apart_at points r s d w l m = ap (λ t. distance t (vector_of points (pid_at points s))) (vector_at points r d w l) ∙ ap (distance (get_or points r d).vector) (vector_at points s d w m)

-- Every point of a graph has a row.
pub row_of : (points : List Point) (p : ℕ) → has (pids_of points) p ≡ true → (r : ℕ) × (r < length points) × (pid_at points r ≡ p)
row_of [] p h = absurd (false≢true h)
row_of (x ∷ points) p h =
    elim (eqb p x.pid) as (λ t. eqb p x.pid ≡ t → (t || has (pids_of points) p) ≡ true → (r : ℕ) × (r < length (x ∷ points)) × (pid_at (x ∷ points) r ≡ p)) [
      | true ↦ λ e k. (0, omega arith, sym (eqb-true p x.pid e))
      | false ↦ λ e k. (let later = row_of points p k in (suc later.0, (let l = later.1 in omega arith), later.2))
    ] refl h

-- What a walk by rows sees is what the walk of the graph sees, by another name, where the rows' neighbours
-- are the rows of the points' neighbours.
pub renames_at : (points : List Point) (query : List ℕ) (entry : ℕ) (links : ℕ → List ℕ) (far : ℕ → ℕ) → Rises (pids_of points) → entry < length points → ((r : ℕ) → r < length points → links_of points (pid_at points r) ≡ map (pid_at points) (links r)) → ((r : ℕ) → r < length points → Below (length points) (links r)) → ((r : ℕ) → r < length points → far_from points query (pid_at points r) ≡ far r) → Renames (pid_at points) (length points) (record { entry = entry; links = links; far = far }) (ground points query (pid_at points entry))
renames_at points query entry links far w e names inside same = record {
  rise = pids_rise_at points w;
  entry = refl;
  links = names;
  far = same;
  entry_in = e;
  links_in = inside;
}
