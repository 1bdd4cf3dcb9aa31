-- The indexes, the entries and the graphs of the worked examples.
use Rattle.std.proofs.Common.{ℕ, ◌≤◌, ◌*◌, ◌/◌, List, [], ◌∷◌, refl, map, lit≤, Some}
use Rattle.std.specs.List.{range_with_len}
use Rattle.ann_types.specs.Codes.{Book}
use Rattle.ann_types.specs.Index.{Index}
use Rattle.ann_types.specs.Graph.{Point, Graph}
use Rattle.ann_types.specs.Lists.{BasedList, empty_base}
use Rattle.ann_types.specs.declared.params.Params.{Params}
use Rattle.ann_types.specs.declared.entry.Entry.{Entry}
use Rattle.ann_types.specs.declared.entry.Entry.TheVariants.{Insert, Delete, Begin, End}
use Rattle.ann_types.specs.declared.hit.Hit.{Hit}

-- the parameters of `once 2 2 4 1/1`, and those with walks of width 10 for new points
abbrev pub plane : Params
plane = record { d = 2; r = 2; l_build = 4; a = 1; b = 1; w = 1; m = 1; freeze_at = 100000; in_limits = record { code_bytes = (lit≤ tt, lit≤ tt); components = (lit≤ tt, lit≤ tt); parts = refl; neighbours = (lit≤ tt, lit≤ tt); width = (lit≤ tt, lit≤ tt); alpha = (lit≤ tt, lit≤ tt, lit≤ tt); beam = (lit≤ tt, lit≤ tt); freeze = (lit≤ tt, lit≤ tt) } }

abbrev pub wide_plane : Params
wide_plane = record { d = 2; r = 2; l_build = 10; a = 1; b = 1; w = 1; m = 1; freeze_at = 100000; in_limits = record { code_bytes = (lit≤ tt, lit≤ tt); components = (lit≤ tt, lit≤ tt); parts = refl; neighbours = (lit≤ tt, lit≤ tt); width = (lit≤ tt, lit≤ tt); alpha = (lit≤ tt, lit≤ tt, lit≤ tt); beam = (lit≤ tt, lit≤ tt); freeze = (lit≤ tt, lit≤ tt) } }

-- vectors of one component, at most two neighbours, alpha 1, a beam of 1: `init 1 2 10 1/1 1 1 100`, and
-- the same that freezes at 2 points
abbrev pub line : Params
line = record { d = 1; r = 2; l_build = 10; a = 1; b = 1; w = 1; m = 1; freeze_at = 100; in_limits = record { code_bytes = (lit≤ tt, lit≤ tt); components = (lit≤ tt, lit≤ tt); parts = refl; neighbours = (lit≤ tt, lit≤ tt); width = (lit≤ tt, lit≤ tt); alpha = (lit≤ tt, lit≤ tt, lit≤ tt); beam = (lit≤ tt, lit≤ tt); freeze = (lit≤ tt, lit≤ tt) } }

abbrev pub short_line : Params
short_line = record { d = 1; r = 2; l_build = 10; a = 1; b = 1; w = 1; m = 1; freeze_at = 2; in_limits = record { code_bytes = (lit≤ tt, lit≤ tt); components = (lit≤ tt, lit≤ tt); parts = refl; neighbours = (lit≤ tt, lit≤ tt); width = (lit≤ tt, lit≤ tt); alpha = (lit≤ tt, lit≤ tt, lit≤ tt); beam = (lit≤ tt, lit≤ tt); freeze = (lit≤ tt, lit≤ tt) } }

-- the codebook of one part whose centroid i is the byte i, and the one whose centroid i is the byte 16 *
-- floor(i/16)
unfoldable pub identity : Book
identity = map (λ i. i ∷ []) (range_with_len 0 256) ∷ []

unfoldable pub steps_of_16 : Book
steps_of_16 = map (λ i. 16 * (i / 16) ∷ []) (range_with_len 0 256) ∷ []

-- in memory alone no answer depends on the codebook
abbrev pub plane_index : Index
plane_index = record { params = plane; book = [] }

abbrev pub wide_plane_index : Index
wide_plane_index = record { params = wide_plane; book = [] }

abbrev pub line_index : Index
line_index = record { params = line; book = identity }

abbrev pub short_line_index : Index
short_line_index = record { params = short_line; book = identity }

abbrev pub coarse_index : Index
coarse_index = record { params = line; book = steps_of_16 }

-- the same codebook, at most two neighbours and alpha 1, with walks of this width for new points and graphs that freeze
-- at this number of points
abbrev pub coarse : (l_build freeze_at : ℕ) → (1 ≤ l_build) × (l_build ≤ 1000) → (1 ≤ freeze_at) × (freeze_at ≤ 100000) → Index
coarse l_build freeze_at width freeze = record { params = record { d = 1; r = 2; l_build = l_build; a = 1; b = 1; w = 1; m = 1; freeze_at = freeze_at; in_limits = record { code_bytes = (lit≤ tt, lit≤ tt); components = (lit≤ tt, lit≤ tt); parts = refl; neighbours = (lit≤ tt, lit≤ tt); width = width; alpha = (lit≤ tt, lit≤ tt, lit≤ tt); beam = (lit≤ tt, lit≤ tt); freeze = freeze } }; book = steps_of_16 }

abbrev pub walk_1_freeze_2 : Index
walk_1_freeze_2 = coarse 1 2 (lit≤ tt, lit≤ tt) (lit≤ tt, lit≤ tt)

abbrev pub walk_2_freeze_2 : Index
walk_2_freeze_2 = coarse 2 2 (lit≤ tt, lit≤ tt) (lit≤ tt, lit≤ tt)

abbrev pub walk_1_freeze_100 : Index
walk_1_freeze_100 = coarse 1 100 (lit≤ tt, lit≤ tt) (lit≤ tt, lit≤ tt)

abbrev pub walk_2_freeze_100 : Index
walk_2_freeze_100 = coarse 2 100 (lit≤ tt, lit≤ tt) (lit≤ tt, lit≤ tt)

-- the entries of one client over the empty base
abbrev pub list : List Entry → BasedList
list entries = record { base = empty_base; entries = entries }

abbrev pub insert_at : ℕ → ℕ → Entry
insert_at tag x = Insert 0 tag (x ∷ [])

abbrev pub insert_pair : ℕ → ℕ → ℕ → Entry
insert_pair tag x y = Insert 0 tag (x ∷ y ∷ [])

abbrev pub delete : ℕ → Entry
delete tag = Delete 0 tag

abbrev pub begin : Entry
begin = Begin 0

abbrev pub end : ℕ → Entry
end segment = End 0 segment

abbrev pub point : ℕ → ℕ → List ℕ → List ℕ → Point
point pid tag vector links = record { pid = pid; tag = tag; vector = vector; links = links }

abbrev pub graph : ℕ → List Point → Graph
graph entry points = record { entry = Some entry; points = points }

abbrev pub hit_at : ℕ → ℕ → Hit
hit_at tag distance = record { tag = tag; distance = distance }
