-- There is at most one first stray cell, and none among lawful rows. Assumes nothing.
use Rattle.std.proofs.Common.{◌≡◌, ◌<◌, List, sym, arith}
use Rattle.std.specs.List.{AllByRecursion}
use Rattle.std.proofs.ByRecursion.{All-get_or}
use Rattle.model.specs.Rows.{no_row}
use Rattle.model.specs.Strays.{LawfulRow, FirstStray}
use Rattle.model.specs.declared.refusal.Stray.{Stray}
use Rattle.model.specs.declared.row.Row.{Row}
use Rattle.model.specs.declared.shape.Shape.{Shape}

module _ (s : Shape) (rows : List Row) where
  pub no_stray : (f : Stray) → FirstStray s rows f → AllByRecursion (LawfulRow s) rows → ⊥
  no_stray f first lawful = All-get_or (LawfulRow s) rows f.row no_row first.row_within lawful f.cell first.cell_within first.here

  no_row_below : (f g : Stray) → FirstStray s rows f → FirstStray s rows g → f.row < g.row → ⊥
  no_row_below f g p q below = q.no_row_before f.row below f.cell p.cell_within p.here

  no_cell_below : (f g : Stray) → FirstStray s rows f → FirstStray s rows g → f.row ≡ g.row → f.cell < g.cell → ⊥
  no_cell_below f g p q same below = q.no_cell_before f.cell below (rw same at p.here)

  pub same_stray : (f g : Stray) → FirstStray s rows f → FirstStray s rows g → f ≡ g
  same_stray f g p q =
      let row : f.row ≡ g.row = omega (arith, no_row_below f g p q, no_row_below g f q p) in
      let cell : f.cell ≡ g.cell = omega (arith, no_cell_below f g p q row, no_cell_below g f q p (sym row)) in
      grind arith
