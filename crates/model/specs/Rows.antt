-- The rows of a log. Assumes nothing.
use Rattle.std.specs.Prelude.{◌≡◌, [], length}
use Rattle.model.specs.declared.row.Row.{Row}

-- what the questions answer outside the list: class 255, day 0, and no cell, which is read as 255
abbrev pub no_row : Row
no_row = record { class = 255; day = 0; cells = [] }

-- a row has twelve cells
abbrev pub Twelve : Row → Type 0
Twelve r = length r.cells ≡ 12
