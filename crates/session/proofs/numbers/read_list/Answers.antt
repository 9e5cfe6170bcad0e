use Rattle.std.proofs.Common.{arith}
use Rattle.std.proofs.lemmas.List.{take_rest, length-drop}
use Rattle.session.specs.Lists.{numbers_of}
use Rattle.session.proofs.Fields.{left_more, no_space, no_field, begins_some}
use Rattle.session.proofs.numbers.read_list.Goals as goal

pub returns-then-first-ne-SPACE : goal.returns-then-first-ne-SPACE
returns-then-first-ne-SPACE c = λ short. no_space c.args.text.now (numbers_of c.fields.numbers) c.fields.rest.now c.in-Some.first.now c.in-Some.field.now c.fields.invariant.0 c.in-Some.ensures.cases.0 c.if-first-ne-SPACE.true

pub returns-in_err-number : goal.returns-in_err-number
returns-in_err-number c = rw c.from_residual.ensures (λ short. no_field c.args.text.now (numbers_of c.fields.numbers) c.fields.rest.now c.in-Some.first.now c.in-Some.field.now c.fields.invariant.0 c.in-Some.ensures.cases.0 c.in_err-number.ensures)

pub fields-preserved : goal.fields-preserved
fields-preserved c =
    let field = c.in-Some.field.now in
    let n = c.in_ok-number.number in
    let digits = c.in_ok-number.digits in
    let begins = c.in_ok-number.ensures in
    let some = begins_some field n digits begins in
    let left = left_more c.args.text.now (numbers_of c.fields.numbers) c.fields.rest.now c.in-Some.first.now field n digits (numbers_of c.push.new.self) c.push.ensures.items c.fields.invariant.0 c.in-Some.ensures.cases.0 c.if-first-ne-SPACE.false begins in
    rw (take_rest field digits) (left, omega (arith, c.in-Some.ensures.cases.1, length-drop digits field, c.push.ensures.len))
