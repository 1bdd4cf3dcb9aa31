-- The base by rows stands for the base of the definition, by decoded vectors.
use Rattle.std.proofs.Common.{◌≡◌, ◌≢◌, ℕ, ◌*◌, ◌/◌, List, [], ◌∷◌, refl, sym, ap, subst, ◌∙◌, arith, map, take, length}
use Rattle.std.specs.List.{AllByRecursion}
use Rattle.std.proofs.lemmas.List.{take-take}
use Rattle.std.proofs.lemmas.List.Elements.{All-from_recursion}
use Rattle.ann_types.specs.Codes.{Book, code, decoded, decoded_graph, decoded_points}
use Rattle.ann_types.specs.Graph.{Point, pids_of, with_vector}
use Rattle.ann_types.specs.Index.{Index, IsBookOf}
use Rattle.ann_types.specs.Merge.{base_size, base_of, entered, first_base, outside}
use Rattle.ann_types.specs.Rows.{pid_at}
use Rattle.ann_types.specs.declared.new_point.NewPoint.{NewPoint}
use Rattle.ann_types.specs.declared.params.Params.{Params}
use Rattle.ann_types.proofs.Coded.{HasWidth, code_is_code, length_decode}
use Rattle.ann_types.proofs.Sets.{Rises, increasing_from_rises}
use Rattle.ann_pq.proofs.Places.{whole}
use Rattle.ann_pq.proofs.Shapes.{has_width}
use Rattle.ann_mdelete.proofs.Points.{map_twice}
use Rattle.ann_minsert.specs.Base.{BaseView, IsBaseOf, StandsFor}
use Rattle.ann_minsert.specs.Made.{IsMade}
use Rattle.ann_minsert.proofs.Bases.{survivors_stand}
use Rattle.ann_mlaws.specs.Rows.{IsBaseFor}

-- ---- decoded vectors have d components

decoded_long : (params : Params) (book : Book) (vector : List ℕ) → IsBookOf params book → length (decoded book vector) ≡ params.d
decoded_long params book vector is =
    let w : ℕ = params.d / params.m in
    let wide : HasWidth w book = has_width params.m w book (record { count = is.parts; centroids = is.centroids; widths = is.widths }) in
    length_decode w book (code book vector) wide (code_is_code (length vector / length book) book vector w wide)
    ∙ ap (λ n. n * w) is.parts
    ∙ sym (whole params.d params.m params.in_limits.parts)

all_long : (params : Params) (book : Book) → IsBookOf params book → (points : List Point) → AllByRecursion (λ v. length v ≡ params.d) (map (λ (x : Point). x.vector) (decoded_points book points))
all_long params book is [] = tt
all_long params book is (x ∷ points) = (decoded_long params book x.vector is, all_long params book is points)

-- ---- where none survives

-- the first of the first new points are all of them
again : (index : Index) (points : List NewPoint) → base_of index [] (take base_size points) ≡ base_of index [] points
unfolding base_of
again index points = ap (λ (xs : List NewPoint). entered index (first_base index xs)) (take-take base_size base_size points (omega arith))

pub first_stands : (index : Index) (points : List NewPoint) (base : BaseView) → IsMade index.params index.book (take base_size points) base → StandsFor (decoded_graph index.book (base_of index [] points)) base
first_stands index points base made = subst (λ g. StandsFor (decoded_graph index.book g) base) (again index points) made

-- ---- where some survive

pub no_cons : {X : Type 0} (a : X) (xs : List X) → a ∷ xs ≡ [] → ⊥
no_cons a xs e = cc

some_left : (survivors : List ℕ) (x : Point) (left : List Point) → length (x ∷ left) ≡ length survivors → survivors ≢ []
some_left survivors x left same none = let size = ap length none in absurd (omega arith)

none_left : (survivors : List ℕ) → length {A = Point} [] ≡ length survivors → survivors ≡ []
none_left [] same = refl
none_left (s ∷ survivors) same = absurd (omega arith)

-- ---- in both cases

-- a base and the new points outside it are those of the definition
pub record IsBased (index : Index) (left : List Point) (points : List NewPoint) (base : BaseView) (rest : List NewPoint) : Type 0 where
  pub stands : StandsFor (decoded_graph index.book (base_of index left points)) base
  pub rest_are : rest ≡ outside left points

module _ (index : Index) (book : IsBookOf index.params index.book) (survivors : List ℕ) (lists vectors : List (List ℕ)) (points : List NewPoint) (base : BaseView) (rest : List NewPoint) (is : IsBaseFor index survivors lists vectors points base rest) where
  pub is_based : (left : List Point) → length left ≡ length survivors → map (λ (x : Point). x.links) left ≡ map (map (pid_at left)) lists → map (λ (x : Point). decoded index.book x.vector) left ≡ vectors → Rises (pids_of left) → IsBased index left points base rest
  is_based [] same links coded rises =
      let first = is.first (none_left survivors same) in
      record { stands = first_stands index points base first.0; rest_are = first.1 }
  is_based (x ∷ left) same links coded rises =
      let all : List Point = x ∷ left in
      let some = is.left (some_left survivors x left same) in
      let known : map (λ (y : Point). y.vector) (decoded_points index.book all) ≡ vectors = map_twice (λ (y : Point). with_vector (decoded index.book y.vector) y) (λ (y : Point). y.vector) all ∙ coded in
      record {
        stands =
            survivors_stand index all lists base (subst (λ v. IsBaseOf lists v base) (sym known) some.0) (increasing_from_rises (pids_of all) rises) points
            (λ e. absurd (no_cons x left e))
            (All-from_recursion (λ v. length v ≡ index.params.d) (map (λ (y : Point). y.vector) (decoded_points index.book all)) (all_long index.params index.book book all))
            links;
        rest_are = some.1;
      }
