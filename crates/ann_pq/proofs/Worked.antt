-- Worked examples, which the checker computes: faults of bytes, codes with a tie, and distances by tables.
use Rattle.std.proofs.Common.{◌≡◌, ℕ, ◌*◌, ◌/◌, List, [], ◌∷◌, ◌++◌, map, take, replicate, refl, None, Some}
use Rattle.std.specs.List.{range_with_len}
use Rattle.ann_types.specs.Distance.{distance}
use Rattle.ann_types.specs.Codes.{Book, code, decode}
use Rattle.ann_pq.specs.Format.{magic, fault, codebook}
use Rattle.ann_pq.specs.Tables.{tables_of, looked_up}
use Rattle.ann_pq.specs.declared.refused.CodebookRefused.TheVariants.{Length, Magic, Shape}

-- ---- codebooks of two components in two parts, of 524 bytes

unfoldable pub sound : List ℕ
sound = magic ++ (2 ∷ 0 ∷ 2 ∷ 0 ∷ []) ++ replicate 512 0

pub no_fault : fault 2 2 sound ≡ None
unfolding sound
no_fault = refl

pub one_byte_short : fault 2 2 (take 523 sound) ≡ Some Length
unfolding sound
one_byte_short = refl

pub one_byte_long : fault 2 2 (sound ++ 0 ∷ []) ≡ Some Length
unfolding sound
one_byte_long = refl

pub half_a_head : fault 2 2 (take 11 sound) ≡ Some Length
unfolding sound
half_a_head = refl

pub other_magic : fault 2 2 (64 ∷ 78 ∷ 78 ∷ 80 ∷ 81 ∷ 48 ∷ 48 ∷ 49 ∷ 2 ∷ 0 ∷ 1 ∷ 0 ∷ []) ≡ Some Magic
other_magic = refl

pub other_shape : fault 2 2 (magic ++ (2 ∷ 0 ∷ 1 ∷ 0 ∷ [])) ≡ Some Shape
other_shape = refl

-- ---- one part of one component, whose centroid i is the byte 16 * floor(i/16)

unfoldable pub coarse : Book
coarse = (codebook 1 1 (magic ++ (1 ∷ 0 ∷ 1 ∷ 0 ∷ []) ++ map (λ i. 16 * (i / 16)) (range_with_len 0 256))).book

pub nearest_centroid : code coarse (10 ∷ []) ≡ 16 ∷ []
unfolding coarse
nearest_centroid = refl

-- 8 is as far from 0 as from 16
pub lower_on_a_tie : code coarse (8 ∷ []) ≡ 0 ∷ []
unfolding coarse
lower_on_a_tie = refl

pub guided_distance : distance (10 ∷ []) (decode coarse (16 ∷ [])) ≡ 36
unfolding coarse
guided_distance = refl

pub by_tables : looked_up (tables_of 1 coarse (10 ∷ [])) (16 ∷ []) ≡ 36
unfolding coarse
by_tables = refl
