use Rattle.std.proofs.Common.{arith}
use Rattle.session.proofs.Runs.{no_digits, zero_led, number_begins}
use Rattle.session.proofs.digits.read_number.Goals as goal
use Rattle.session.proofs.digits.read_number.Goals.{else-digits-gt1-via-then-digits-gt1+else-text-eq48, else-digits-gt1-via-else-digits-gt1}

pub returns-then-digits-eq0 : goal.returns-then-digits-eq0
returns-then-digits-eq0 c = no_digits c.args.text.now c.in_ok-number.number c.in_ok-number.digits c.in_ok-number.ensures (omega arith)

pub returns-then-text-eq48 : goal.returns-then-text-eq48
returns-then-text-eq48 c = zero_led c.args.text.now c.in_ok-number.number c.in_ok-number.digits c.in_ok-number.ensures (omega arith) (omega arith)

pub returns : goal.returns
returns c =
    number_begins c.args.text.now c.in_ok-number.number c.in_ok-number.digits c.in_ok-number.ensures (omega arith)
    (λ zero-first. elim c.else-digits-gt1.branch [ else-digits-gt1-via-then-digits-gt1+else-text-eq48 w ↦ omega arith | else-digits-gt1-via-else-digits-gt1 w ↦ omega arith ])
