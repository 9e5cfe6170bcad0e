use Rattle.std.proofs.Common.{◌≡◌, ℕ, ◌<◌, length, get_or}
use Rattle.model.specs.Rows.{no_row}
use Rattle.search.proofs.survey.rows.cells_of.Given as goal

abbrev pub invariant-cells : goal.invariant-cells
invariant-cells g l = (length l.value-items ≡ 12) × ((k : ℕ) → k < l.cell → get_or l.value-items k 0 ≡ get_or (get_or (g.L.Log.rows l.log) l.row no_row).cells k 255)
