-- The rows that packed bytes show, the places still free, and what appending a row writes. Assumes nothing.
use Rattle.std.specs.Prelude.{◌≡◌, ℕ, ◌+◌, ◌-◌, ◌*◌, ◌/◌, ◌%◌, ◌<◌, ◌≤◌, min, Bool, true, List, [], ◌∷◌, ◌++◌, map, length, take, drop, slice_index, slice_index_or, slice_set}
use Rattle.std.specs.List.{range_with_len}
use Rattle.model.specs.declared.row.Row.{Row}
use Rattle.logs.specs.Images.{places_in, used_in}

-- where a place begins
abbrev pub start : ℕ → ℕ
start i = 32 + 16 * i

-- the sixteen bytes of a place
abbrev pub place : List ℕ → ℕ → List ℕ
place b i = take 16 (drop (start i) b)

-- the row that sixteen bytes hold: class, a byte that is not read, day, cells
abbrev pub row_of : List ℕ → Row
row_of p = record { class = slice_index p 0; day = slice_index p 2 * 256 + slice_index p 3; cells = drop 4 p }

-- the sixteen bytes of a row: class, a 0, day, cells
abbrev pub bytes_of : Row → List ℕ
bytes_of r = r.class ∷ (0 ∷ (r.day / 256 ∷ (r.day % 256 ∷ r.cells)))

-- how many rows are shown: those used, at most the places
abbrev pub count_in : List ℕ → ℕ
count_in b = min (used_in b) (places_in b)

-- the rows shown, in order
abbrev pub shown : List ℕ → List Row
shown b = map (λ i. row_of (place b i)) (range_with_len 0 (count_in b))

-- the bytes from a place on hold a row
pub record Holds (b : List ℕ) (at : ℕ) (r : Row) : Type 0 where
  pub within : at + 16 ≤ length b
  pub class : r.class ≡ slice_index b at
  pub day : r.day ≡ slice_index b (at + 2) * 256 + slice_index b (at + 3)
  pub cells : (i : ℕ) → i < 12 → slice_index_or r.cells i 255 ≡ slice_index b (at + 4 + i)
  pub past : (i : ℕ) → 12 ≤ i → slice_index_or r.cells i 255 ≡ 255

-- the places not used
abbrev pub free_in : List ℕ → ℕ
free_in b = places_in b - used_in b

-- every row is admitted, whatever the bytes
abbrev pub admitted : List ℕ → Row → Bool
admitted b r = true

-- the bytes with these sixteen in a place
abbrev pub put : List ℕ → ℕ → List ℕ → List ℕ
put b i p = take (start i) b ++ (p ++ drop (start i + 16) b)

-- the bytes with so many rows used
abbrev pub counted : List ℕ → ℕ → List ℕ
counted b n = slice_set (slice_set b 8 (n / 256)) 9 (n % 256)

-- the bytes with one more row: its sixteen bytes stand in the first unused place, bytes 8 and 9 count it, the others stay
abbrev pub written : List ℕ → Row → List ℕ
written b r = counted (put b (used_in b) (bytes_of r)) (used_in b + 1)

-- no row is shown, and every place is free
abbrev pub Empty : List ℕ → Type 0
Empty b = (shown b ≡ []) × (free_in b ≡ places_in b)
