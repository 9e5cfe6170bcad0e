-- Values for the features, or for the targets, of a shape. Assumes nothing.
use Rattle.std.specs.Prelude.{◌≡◌, ℕ, ◌<◌, List, length, Option, MatchOption, slice_index}
use Rattle.model.specs.Memory.{place}

-- one value for each size, and below it
abbrev pub Fitting : List ℕ → List ℕ → Type 0
Fitting sizes values = (length values ≡ length sizes) × ((i : ℕ) → i < length sizes → slice_index values i < slice_index sizes i)

-- the numbers as bytes, where they fit
abbrev pub Decoded : List ℕ → List ℕ → Option (List ℕ) → Type 0
Decoded sizes numbers r = MatchOption r (Fitting sizes numbers → ⊥) (λ bytes. Fitting sizes numbers × (bytes ≡ place numbers))
