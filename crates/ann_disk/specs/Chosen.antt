-- Which of the images of a file a number picks.
use Rattle.std.specs.Prelude.{ℕ, zero, suc, ◌+◌, ◌-◌, ◌*◌, ◌/◌, ◌%◌, ◌^◌, List, true, map, length, slice_index_or, if◌then◌else◌, ◌==◌, nat_lt, ◌&&◌, not}
use Rattle.std.specs.List.{range_with_len}
use Rattle.ann_disk.specs.Image.{Unsynced}

-- how many ends there are to pick from
abbrev pub ends_of : Unsynced → ℕ
ends_of u = u.high - u.low + 1

-- the end that a number picks
abbrev pub end_of : Unsynced → ℕ → ℕ
end_of u number = u.low + number / 4 % ends_of u

-- 64 bits of noise for a place: a multiple of the golden part of 2^64
abbrev pub noise_of : ℕ → ℕ → ℕ
noise_of number place = (number + place) % 2 ^ 64 * 11400714819323198485 % 2 ^ 64

-- how a place in doubt is filled, by its noise: 0 as at the last sync, 1 as a read gives it, 2 with noise, and 3 with any
-- of these
abbrev pub way_by : ℕ → ℕ → ℕ
way_by noise number = if number % 4 == 3 then noise / 2 ^ 40 % 3 else number % 4

-- by the way: the byte at the last sync, the one that a read gives, or this one
abbrev pub filling_by : ℕ → ℕ → List ℕ → List ℕ → ℕ → ℕ
filling_by way any kept seen place = if way == 0 then slice_index_or kept place 0 else (if way == 1 then slice_index_or seen place any else any)

abbrev pub filling : Unsynced → List ℕ → ℕ → ℕ → ℕ
filling u seen number place = filling_by (way_by (noise_of number place) number) (noise_of number place / 2 ^ 56) u.kept seen place

-- the digits of a number in base 256, the least first
abbrev pub digit : ℕ → ℕ → ℕ
digit number zero = number % 256
digit number (suc place) = digit (number / 256) place

-- What stands at a place in doubt. What a number has beyond 64 bits changes the bytes one by one, so that some number
-- picks each image.
abbrev pub doubt : Unsynced → List ℕ → ℕ → ℕ → ℕ
doubt u seen number place = (filling u seen number place + digit (number / (2 ^ 64 * ends_of u)) place) % 256

-- what stands at a place: the byte that was kept, where no write has covered it
abbrev pub byte_of : Unsynced → List ℕ → ℕ → ℕ → ℕ
byte_of u seen number place =
    if not (slice_index_or u.covered place true) && nat_lt place (length u.kept) then slice_index_or u.kept place 0 else doubt u seen number place

-- the image that a number picks of a file that reads as this
abbrev pub image_of : Unsynced → List ℕ → ℕ → List ℕ
image_of u seen number = map (byte_of u seen number) (range_with_len 0 (end_of u number))
