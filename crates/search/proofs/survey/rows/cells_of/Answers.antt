use Rattle.std.proofs.Common.{◌≡◌, ◌<◌, length, get_or, sym, ◌∙◌, arith, inl, inr}
use Rattle.std.proofs.lemmas.List.{ext_get_or, get_or_default, length-set, get_or-set_same, get_or-set_other}
use Rattle.std.proofs.lemmas.Bool.{cases_eq}
use Rattle.std.proofs.ByRecursion.{All-get_or}
use Rattle.model.specs.Rows.{no_row, Twelve}
use Rattle.search.proofs.survey.rows.cells_of.Goals as goal

pub cells-preserved : goal.cells-preserved
cells-preserved g c =
    let items = c.cells.value-items in
    let at = c.cells.cell in (
      length-set items at c.cell.result ∙ c.cells.invariant.0,
      λ k h. elim (cases_eq k at) [
        | inl e ↦ rw e (get_or-set_same items at c.cell.result 0 (omega (arith, c.cells.invariant.0, c.cells-test.true)) ∙ c.cell.ensures)
        | inr ne ↦ get_or-set_other items at k c.cell.result 0 ne ∙ c.cells.invariant.1 k (omega arith)
      ],
    )

pub returns : goal.returns
returns g c =
    let rows = g.L.Log.rows c.args.log.now in
    let cells = (get_or rows c.args.row no_row).cells in
    let twelve : length cells ≡ 12 = All-get_or Twelve rows c.args.row no_row c.requires (g.met.L.Log.twelve c.args.log.now) in
    ext_get_or 0 c.cells.value-items cells (c.cells.invariant.0 ∙ sym twelve)
    (λ k h. let lt : k < 12 = omega (arith, c.cells.invariant.0) in c.cells.invariant.1 k (omega (arith, c.cells-test.false)) ∙ get_or_default cells k 255 0 (omega (arith, twelve)))
