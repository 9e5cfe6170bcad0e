-- What a shape is: the sizes of its features and of its targets. Assumes nothing.
use Rattle.std.specs.Prelude.{ℕ, ◌-◌, cond, List, take, nat_lt, slice_index}
use Rattle.model.specs.declared.sizes.Sizes.{Sizes}
use Rattle.model.specs.declared.shape.Shape.{Shape}

-- the sizes themselves, without the unused places
abbrev pub sizes_of : Sizes → List ℕ
sizes_of s = take s.count s.values

-- the sizes of a shape's features
abbrev pub features : Shape → List ℕ
features s = sizes_of s.features

-- the sizes of a shape's targets
abbrev pub targets : Shape → List ℕ
targets s = sizes_of s.targets

-- how many values a cell of a row may have: features in cells 0 to 7, targets from 8 on; 0 beyond the shape
abbrev pub cell_size : Shape → ℕ → ℕ
cell_size s j = cond (nat_lt j 8) (slice_index (features s) j) (slice_index (targets s) (j - 8))
