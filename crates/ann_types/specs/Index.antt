-- What an index is made with.
use Rattle.std.specs.Prelude.{◌≡◌, ◌/◌, All, length}
use Rattle.ann_types.specs.Codes.{Book}
use Rattle.ann_types.specs.declared.params.Params.{Params}

-- what a codebook of these parameters is: m parts of 256 centroids, each of d/m components
pub record IsBookOf (params : Params) (book : Book) : Type 0 where
  pub parts : length book ≡ params.m
  pub centroids : All (λ part. length part ≡ 256) book
  pub widths : All (λ part. All (λ c. length c ≡ params.d / params.m) part) book

-- an index's parameters and its codebook, of which nothing is asked here: that it belongs to the parameters is
-- `IsBookOf`
pub record Index : Type 0 where
  pub params : Params
  pub book : Book
