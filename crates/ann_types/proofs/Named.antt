-- What the operations on graphs do to the tags and Pids of their points: `put` adds one, a merge drops the
-- deleted ones and adds the new ones.
use Rattle.std.proofs.Common.{◌≡◌, ℕ, Bool, true, false, cond, not, List, [], ◌∷◌, ◌++◌, refl, sym, ap, ◌∙◌, map, flat_map, fold, take, drop, append_assoc, append-nil}
use Rattle.std.specs.Prelude.{Some}
use Rattle.std.specs.List.{list_any}
use Rattle.std.proofs.lemmas.List.{map-append, take-append-drop}
use Rattle.std.proofs.lemmas.List.Elements.{filter-append}
use Rattle.ann_types.specs.Order.{has}
use Rattle.ann_types.specs.Kept.{Rule, rule_of, kept}
use Rattle.ann_types.specs.Graph.{Point, Graph, with_vector, empty_graph, pids_of, apart_in, visited}
use Rattle.ann_types.specs.Put.{alone, linked_back, put}
use Rattle.ann_types.specs.Codes.{decoded, decoded_points}
use Rattle.ann_types.specs.Index.{Index}
use Rattle.ann_types.specs.Merge.{survivors, candidates, repaired, delete_phase, base_size, put_decoded, new_vector, first_base, base_points, outside, base_of, insert_phase, patched, patch_phase, merged}
use Rattle.ann_types.specs.Lists.{Names, names_of}
use Rattle.ann_types.specs.Fold.{Begun, State, new_point, new_points, merge_of}
use Rattle.ann_types.specs.declared.params.Params.{Params}
use Rattle.ann_types.specs.declared.new_point.NewPoint.{NewPoint}

abbrev pub name : Point → ℕ × ℕ
name x = (x.tag, x.pid)

-- the tags and Pids of new points
abbrev pub new_names : List NewPoint → Names
new_names new = map (λ x. (x.tag, x.pid)) new

pub pids_are : (points : List Point) → map (λ e. e.1) (names_of points) ≡ pids_of points
pids_are [] = refl
pids_are (x ∷ points) = ap (λ t. x.pid ∷ t) (pids_are points)

pub pids_same : (xs ys : List Point) → names_of xs ≡ names_of ys → pids_of xs ≡ pids_of ys
pids_same xs ys e = sym (pids_are xs) ∙ ap (map (λ (n : ℕ × ℕ). n.1)) e ∙ pids_are ys

pub names_append : (xs ys : List Point) → names_of (xs ++ ys) ≡ names_of xs ++ names_of ys
names_append xs ys = map-append name xs ys

pub pids_append : (xs ys : List Point) → pids_of (xs ++ ys) ≡ pids_of xs ++ pids_of ys
pids_append xs ys = map-append (λ (x : Point). x.pid) xs ys

-- a change of points that keeps each name keeps all
pub names_map : (f : Point → Point) → ((x : Point) → name (f x) ≡ name x) → (points : List Point) → names_of (map f points) ≡ names_of points
names_map f same [] = refl
names_map f same (x ∷ points) = ap (λ t. t ∷ names_of (map f points)) (same x) ∙ ap (λ t. name x ∷ t) (names_map f same points)

-- ---- put

pub back_name : (rule : Rule) (apart : ℕ → ℕ → ℕ) (n : ℕ) (out : List ℕ) (x : Point) → name (cond (has out x.pid) (linked_back rule apart n x) x) ≡ name x
back_name rule apart n out x = elim (has out x.pid) as (λ t. name (cond t (linked_back rule apart n x) x) ≡ name x) [ true ↦ refl | false ↦ refl ]

pub names_put : (params : Params) (g : Graph) (n tag : ℕ) (vector : List ℕ) → names_of (put params g n tag vector).points ≡ names_of g.points ++ (tag, n) ∷ []
unfolding put
names_put params g n tag vector =
    let apart : ℕ → ℕ → ℕ = apart_in (g.points ++ alone n tag vector ∷ []) in
    let out : List ℕ = kept (rule_of params) apart n (visited g vector params.l_build) in
    names_append (map (λ x. cond (has out x.pid) (linked_back (rule_of params) apart n x) x) g.points) ((record { pid = n; tag = tag; vector = vector; links = out }) ∷ [])
    ∙ ap (λ t. t ++ (tag, n) ∷ []) (names_map (λ x. cond (has out x.pid) (linked_back (rule_of params) apart n x) x) (back_name (rule_of params) apart n out) g.points)

-- ---- the merge

pub repaired_name : (rule : Rule) (apart : ℕ → ℕ → ℕ) (points : List Point) (gone : List ℕ) (x : Point) → name (repaired rule apart points gone x) ≡ name x
repaired_name rule apart points gone x = both (list_any (has gone) x.links)
  where
    both : (t : Bool) → name (cond t (record x { links = kept rule apart x.pid (candidates points gone x) }) x) ≡ name x
    both true = refl
    both false = refl

pub names_delete : (index : Index) (points : List Point) (gone : List ℕ) → names_of (delete_phase index points gone) ≡ names_of (survivors gone points)
unfolding delete_phase
names_delete index points gone =
    names_map (repaired (rule_of index.params) (apart_in (decoded_points index.book points)) points gone) (repaired_name (rule_of index.params) (apart_in (decoded_points index.book points)) points gone) (survivors gone points)

names_put_all : (index : Index) (g : Graph) (new : List NewPoint) → names_of (fold (λ graph x. put index.params graph x.pid x.tag (decoded index.book x.vector)) g new).points ≡ names_of g.points ++ new_names new
names_put_all index g [] = sym (append-nil (names_of g.points))
names_put_all index g (x ∷ new) =
    names_put_all index (put index.params g x.pid x.tag (decoded index.book x.vector)) new
    ∙ ap (λ t. t ++ new_names new) (names_put index.params g x.pid x.tag (decoded index.book x.vector))
    ∙ append_assoc (names_of g.points) ((x.tag, x.pid) ∷ []) (new_names new)

pub names_first_base : (index : Index) (new : List NewPoint) → names_of (first_base index new) ≡ new_names new
names_first_base index new =
    names_map (λ (x : Point). with_vector (new_vector new x.pid) x) (λ x. refl) (put_decoded index new).points
    ∙ names_put_all index empty_graph new

-- the base and what stays outside it have the survivors and the new points
pub names_base : (index : Index) (left : List Point) (new : List NewPoint) → names_of (base_points index left new) ++ new_names (outside left new) ≡ names_of left ++ new_names new
names_base index [] new =
    ap (λ t. t ++ new_names (drop base_size new)) (names_first_base index (take base_size new))
    ∙ sym (map-append (λ (x : NewPoint). (x.tag, x.pid)) (take base_size new) (drop base_size new))
    ∙ ap new_names (take-append-drop base_size new)
names_base index (x ∷ left) new = refl

pub names_insert : (index : Index) (base : Graph) (new : List NewPoint) → names_of (insert_phase index base new) ≡ new_names new
unfolding insert_phase
names_insert index base [] = refl
names_insert index base (x ∷ new) = ap (λ t. (x.tag, x.pid) ∷ t) (names_insert index base new)

pub names_patch : (index : Index) (base new : List Point) → names_of (patch_phase index base new).points ≡ names_of base ++ names_of new
unfolding patch_phase
names_patch index base new =
    let apart : ℕ → ℕ → ℕ = apart_in (decoded_points index.book (base ++ new)) in
    names_append (map (patched (rule_of index.params) apart new) base) new
    ∙ ap (λ t. t ++ names_of new) (names_map (patched (rule_of index.params) apart new) (λ x. refl) base)

pub names_merged : (index : Index) (lti : Graph) (new : List NewPoint) (gone : List ℕ) → names_of (merged index lti new gone).points ≡ names_of (survivors gone lti.points) ++ new_names new
unfolding merged base_of
names_merged index lti new gone =
    let left : List Point = delete_phase index lti.points gone in
    let base : Graph = base_of index left new in
    names_patch index (base_points index left new) (insert_phase index base (outside left new))
    ∙ ap (λ t. names_of (base_points index left new) ++ t) (names_insert index base (outside left new))
    ∙ names_base index left new
    ∙ ap (λ t. t ++ new_names new) (names_delete index lti.points gone)

pub new_names_are : (points : List Point) → new_names (map new_point points) ≡ names_of points
new_names_are [] = refl
new_names_are (x ∷ points) = ap (λ t. name x ∷ t) (new_names_are points)

-- a merge leaves the tags and Pids of the points of its graphs that aren't deleted
pub names_merge_of : (index : Index) (s : State) (b : Begun) → names_of (merge_of index s (Some b)).points ≡ names_of (survivors b.gone (s.lti.points ++ flat_map (λ (g : Graph). g.points) (take b.frozen s.ros)))
names_merge_of index s b =
    let taken : List Point = flat_map (λ (g : Graph). g.points) (take b.frozen s.ros) in
    names_merged index s.lti (new_points s b) b.gone
    ∙ ap (λ t. names_of (survivors b.gone s.lti.points) ++ t) (new_names_are (survivors b.gone taken))
    ∙ sym (names_append (survivors b.gone s.lti.points) (survivors b.gone taken))
    ∙ sym (ap names_of (filter-append (λ x. not (has b.gone x.pid)) s.lti.points taken))
