-- The sizes that a shape may have. Assumes nothing.
use Rattle.std.specs.Prelude.{◌≡◌, ℕ, ◌<◌, ◌≤◌, List, length, slice_index}
use Rattle.std.specs.List.{AllByRecursion}

-- a size of a feature or a target
abbrev pub Size : ℕ → Type 0
Size n = (2 ≤ n) × (n ≤ 8)

-- sizes for at least one and at most `most` features or targets
abbrev pub Lawful : ℕ → List ℕ → Type 0
Lawful most sizes = (1 ≤ length sizes) × (length sizes ≤ most) × AllByRecursion Size sizes

-- a table of eight whose first n places hold sizes, and the others 0
abbrev pub Filled : List ℕ → ℕ → Type 0
Filled values n = (1 ≤ n) × (n ≤ 8) × ((i : ℕ) → i < n → Size (slice_index values i)) × ((i : ℕ) → n ≤ i → slice_index values i ≡ 0)

-- 1 to 8 features and 1 to 4 targets, each of size 2 to 8
abbrev pub Ranges : List ℕ → List ℕ → Type 0
Ranges feature-sizes target-sizes = Lawful 8 feature-sizes × Lawful 4 target-sizes
