use Rattle.std.proofs.Common.{◌≡◌, length, refl, arith, rules, below_more}
use Rattle.std.proofs.lemmas.List.{get_or_default}
use Rattle.search.proofs.survey.rows.scan.Goals as goal
use Rattle.search.proofs.survey.rows.scan.Goals.{else-size-gt0-via-then-size-gt0+else-value-size, else-size-gt0-via-else-size-gt0}

pub returns-then-value-size : goal.returns-then-value-size
returns-then-value-size c =
    let twelve : length c.args.cells.now ≡ 12 = search rules in
    let read = get_or_default c.args.cells.now c.cells.cell 0 255 (omega arith) in
    record {
      row_is = refl;
      within = c.cells-test.true;
      here = (omega arith, omega arith);
      none_before = c.cells.invariant;
    }

pub cells-preserved : goal.cells-preserved
cells-preserved c =
    let twelve : length c.args.cells.now ≡ 12 = search rules in
    let read = get_or_default c.args.cells.now c.cells.cell 0 255 (omega arith) in
    below_more _ _ c.cells.invariant
    (λ astray. elim c.else-size-gt0.branch [
      | else-size-gt0-via-then-size-gt0+else-value-size w ↦ omega (arith, w.if-value-size.false, astray.1)
      | else-size-gt0-via-else-size-gt0 w ↦ omega (arith, w.if-size-gt0.false, astray.0)
    ])
