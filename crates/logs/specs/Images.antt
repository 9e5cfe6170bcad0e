-- What an image is: a header of 32 bytes that tells a shape and how many rows are used, and places for rows. Assumes nothing.
use Rattle.std.specs.Prelude.{◌≡◌, ℕ, ◌+◌, ◌-◌, ◌*◌, ◌/◌, ◌%◌, ◌≤◌, min, Bool, cond, ◌&&◌, List, [], ◌∷◌, ◌++◌, map, length, take, replicate, Ok, Err, Result, nat_le, slice_index}
use Rattle.std.specs.List.{range_with_len}
use Rattle.model.specs.declared.refusal.Refusal.{Refusal}
use Rattle.model.specs.declared.refusal.Refusal.TheVariants.{Image}
use Rattle.model.specs.declared.shape.Shape.{Shape}
use Rattle.model.specs.Shapes.{features, targets}

-- a number in two bytes, the high byte first
abbrev pub two_bytes : ℕ → List ℕ
two_bytes n = n / 256 ∷ (n % 256 ∷ [])

-- a size for each of n places, 0 where there is none
abbrev pub padded : ℕ → List ℕ → List ℕ
padded n sizes = map (λ i. slice_index sizes i) (range_with_len 0 n)

-- the first half of a header: the letters OBS, the version 1, how many features and targets, a 0, the rows used, six 0s
abbrev pub front_of : Shape → ℕ → List ℕ
front_of s rows = (79 ∷ (66 ∷ (83 ∷ (0 ∷ (1 ∷ (length (features s) ∷ (length (targets s) ∷ (0 ∷ [])))))))) ++ (two_bytes rows ++ replicate 6 0)

-- a header: its first half, the sizes of eight features and of four targets, four 0s
abbrev pub header_of : Shape → ℕ → List ℕ
header_of s rows = front_of s rows ++ (padded 8 (features s) ++ (padded 4 (targets s) ++ replicate 4 0))

-- the places for rows: sixteen bytes each after the header, as many as fit whole, at most 4,094
abbrev pub places_in : List ℕ → ℕ
places_in b = min ((length b - 32) / 16) 4094

-- the rows used, as bytes 8 and 9 say
abbrev pub used_in : List ℕ → ℕ
used_in b = slice_index b 8 * 256 + slice_index b 9

-- the bytes are an image of this shape with so many rows used
pub record Describes (b : List ℕ) (s : Shape) (rows : ℕ) : Type 0 where
  pub long : 32 ≤ length b
  pub short : length b ≤ 65536
  pub within : rows ≤ places_in b
  pub starts : take 32 b ≡ header_of s rows

-- the bytes are an image of this shape
abbrev pub ImageOf : List ℕ → Shape → Type 0
ImageOf b s = (rows : ℕ) × Describes b s rows

-- an image stays one of its shape, with so many more rows used
abbrev pub StaysImage : List ℕ → List ℕ → ℕ → Type 0
StaysImage b after more = (s : Shape) (rows : ℕ) → Describes b s rows → Describes after s (rows + more)

-- the lengths that an image may have
abbrev pub sized : ℕ → Bool
sized n = nat_le 32 n && nat_le n 65536

-- what formatting so many bytes answers
abbrev pub formatted : ℕ → Result Unit Refusal
formatted n = cond (sized n) (Ok tt) (Err Image)

-- an empty image of n bytes
abbrev pub blank : Shape → ℕ → List ℕ
blank s n = header_of s 0 ++ replicate (n - 32) 0
