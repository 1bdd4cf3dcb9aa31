-- Decoded vectors have as many components as the codebook says.
use Rattle.std.proofs.Common.{◌≡◌, ℕ, ◌*◌, ◌/◌, ◌≤◌, ◌<◌, List, [], ◌∷◌, sym, ap, subst, ◌∙◌, arith, map, take, length, get_or}
use Rattle.std.specs.Prelude.{All}
use Rattle.std.specs.List.{AllByRecursion}
use Rattle.std.proofs.Math.Nat.{div-add-mod}
use Rattle.std.proofs.lemmas.List.{length-map, take_all}
use Rattle.std.proofs.lemmas.List.Elements.{All-from_recursion}
use Rattle.ann_types.specs.Codes.{code, decode, decoded, decoded_points}
use Rattle.ann_types.specs.Graph.{Point, Graph, with_vector}
use Rattle.ann_types.specs.Index.{Index}
use Rattle.ann_types.specs.Merge.{base_of, base_size, first_base}
use Rattle.ann_types.specs.declared.new_point.NewPoint.{NewPoint}
use Rattle.ann_types.specs.declared.params.Params.{Params}
use Rattle.ann_types.proofs.Coded.{HasWidth, code_is_code, length_decode}
use Rattle.ann_pq.specs.Codebook.{CodebookView}
use Rattle.ann_pq.specs.Format.{IsCodebook}
use Rattle.ann_pq.proofs.Shapes.{has_width, length_decoded}
use Rattle.ann_minsert.specs.Base.{BaseView}
use Rattle.ann_minsert.specs.Made.{IsMade}
use Rattle.ann_mlaws.proofs.Bare.{first_count}

module _ (shown : CodebookView) (is : IsCodebook shown) where
  whole : shown.m * (shown.d / shown.m) ≡ shown.d
  whole = let all = div-add-mod shown.d shown.m in let none = is.sizes.whole in omega arith

  -- what bytes stand for
  pub decode_long : (bytes : List ℕ) → length bytes ≡ shown.m → ((k : ℕ) → k < length bytes → get_or bytes k 0 < 256) → length (decode shown.book bytes) ≡ shown.d
  decode_long bytes size small = length_decoded shown.m (shown.d / shown.m) shown.book bytes is.book size small ∙ whole

  -- what the code of a vector stands for
  pub decoded_long : (vector : List ℕ) → length (decoded shown.book vector) ≡ shown.d
  decoded_long vector =
      let w : ℕ = shown.d / shown.m in
      let wide : HasWidth w shown.book = has_width shown.m w shown.book is.book in
      length_decode w shown.book (code shown.book vector) wide (code_is_code (length vector / length shown.book) shown.book vector w wide)
      ∙ ap (λ n. n * w) is.book.count
      ∙ whole

  all_long : (points : List Point) → AllByRecursion (λ v. length v ≡ shown.d) (map (λ (x : Point). x.vector) (decoded_points shown.book points))
  all_long [] = tt
  all_long (x ∷ points) = (decoded_long x.vector, all_long points)

  -- the vectors of a base that new points make
  pub made_long : (params : Params) (new : List NewPoint) (b : BaseView) → IsMade params shown.book new b → All (λ v. length v ≡ shown.d) b.vectors
  made_long params new b made =
      let g : Graph = base_of (record { params = params; book = shown.book }) [] new in
      subst (All (λ v. length v ≡ shown.d)) made.rows.same
      (All-from_recursion (λ v. length v ≡ shown.d) (map (λ (x : Point). x.vector) (decoded_points shown.book g.points)) (all_long g.points))

-- such a base has a row for each of the points
pub made_count : (index : Index) (new : List NewPoint) (b : BaseView) → length new ≤ base_size → IsMade index.params index.book new b → length b.vectors ≡ length new
unfolding base_of
made_count index new b few made =
    let points : List Point = first_base index (take base_size new) in
    sym (ap length made.rows.same)
    ∙ length-map (decoded_points index.book points) (λ (x : Point). x.vector)
    ∙ length-map points (λ (x : Point). with_vector (decoded index.book x.vector) x)
    ∙ first_count index (take base_size new)
    ∙ ap length (take_all base_size new few)
