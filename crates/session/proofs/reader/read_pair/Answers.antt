use Rattle.std.proofs.Common.{◌∷◌, arith}
use Rattle.std.proofs.lemmas.Bool.{ltb-true, ltb-false}
use Rattle.session.proofs.Fields.{no_pair}
use Rattle.session.proofs.reader.read_pair.Goals as goal

pub returns-in_err-read_list : goal.returns-in_err-read_list
returns-in_err-read_list c = rw c.from_residual.ensures (λ short a b ns. c.in_err-read_list.ensures short (a ∷ b ∷ ns))

pub returns-in_default : goal.returns-in_default
returns-in_default c = λ short. no_pair c.args.text.now c.in_ok-read_list.field-0.now c.in_ok-read_list.ensures (omega (arith, ltb-true, ltb-false))
