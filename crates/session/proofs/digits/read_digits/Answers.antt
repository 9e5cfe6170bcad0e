use Rattle.std.proofs.Common.{arith}
use Rattle.session.proofs.Runs.{run_more, no_more}
use Rattle.session.proofs.digits.read_digits.Goals as goal

pub returns-in_err-checked_mul : goal.returns-in_err-checked_mul
returns-in_err-checked_mul c =
    let inv = c.figures.invariant in
    rw c.from_residual.ensures (no_more c.args.text.now c.figures.digits c.figures.number c.from-digit.result c.figures-test.true c.if-not-is_ascii_digit.ensures.cases c.from-digit.ensures inv.0 inv.2 (omega (arith, c.in_err-checked_mul.ensures)))

pub returns-in_err-number : goal.returns-in_err-number
returns-in_err-number c =
    let inv = c.figures.invariant in
    rw c.from_residual-in_err-number.ensures (no_more c.args.text.now c.figures.digits c.figures.number c.from-digit.result c.figures-test.true c.if-not-is_ascii_digit.ensures.cases c.from-digit.ensures inv.0 inv.2 (omega (arith, c.in_err-number.ensures, c.in_ok-checked_mul.ensures)))

pub figures-preserved : goal.figures-preserved
figures-preserved c =
    let inv = c.figures.invariant in
    let more = run_more c.args.text.now c.figures.digits c.figures.number c.from-digit.result c.figures-test.true c.if-not-is_ascii_digit.ensures.cases c.from-digit.ensures inv.0 inv.2 in
    (omega (arith, c.in_ok-number.ensures, c.in_ok-checked_mul.ensures), omega (arith, c.in_ok-number.ensures, c.in_ok-checked_mul.ensures), more.1)
