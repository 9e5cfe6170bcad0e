-- Cells that are not below their sizes. Assumes nothing.
use Rattle.std.specs.Prelude.{ℕ, ◌<◌, ◌≤◌, List, length, get_or, slice_index_or}
use Rattle.model.specs.Rows.{no_row}
use Rattle.model.specs.Shapes.{cell_size}
use Rattle.model.specs.declared.refusal.Stray.{Stray}
use Rattle.model.specs.declared.row.Row.{Row}
use Rattle.model.specs.declared.shape.Shape.{Shape}

-- cell j of the shape is not below its size
abbrev pub Astray : Shape → List ℕ → ℕ → Type 0
Astray s cells j = (0 < cell_size s j) × (cell_size s j ≤ slice_index_or cells j 255)

-- a row is lawful for a shape when each cell of the shape is below its size
abbrev pub LawfulRow : Shape → Row → Type 0
LawfulRow s r = (j : ℕ) → j < 12 → Astray s r.cells j → ⊥

-- the first stray cell of a list of rows: first row, then first cell
pub record FirstStray (s : Shape) (rows : List Row) (f : Stray) : Type 0 where
  pub row_within : f.row < length rows
  pub cell_within : f.cell < 12
  pub here : Astray s (get_or rows f.row no_row).cells f.cell
  pub no_cell_before : (j : ℕ) → j < f.cell → Astray s (get_or rows f.row no_row).cells j → ⊥
  pub no_row_before : (i : ℕ) → i < f.row → LawfulRow s (slice_index_or rows i no_row)
