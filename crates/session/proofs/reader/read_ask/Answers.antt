use Rattle.std.proofs.Common.{[], ◌∷◌, arith}
use Rattle.std.proofs.lemmas.Bool.{ltb-true, ltb-false}
use Rattle.session.specs.Lines.{fields}
use Rattle.session.proofs.Signs.{signed_places, asks_front, no_ask}
use Rattle.session.proofs.reader.read_ask.Goals as goal

pub returns-in_err-front : goal.returns-in_err-front
returns-in_err-front c = rw c.from_residual.ensures (λ short t v sense asks. c.in_err-front.ensures (fields (t ∷ v ∷ [])) sense asks.1)

pub returns-in_err-read_list : goal.returns-in_err-read_list
returns-in_err-read_list c =
    let bytes = c.args.text.now in
    let front = c.in_ok-front.front.now in
    let signed = c.in_ok-front.ensures in
    let long = (signed_places bytes front c.in_ok-front.sense signed).0 in
    rw c.from_residual-in_err-read_list.ensures (λ short t v sense asks. c.in_err-read_list.ensures (omega (arith, ltb-true, ltb-false)) (t ∷ v ∷ []) (asks_front bytes front c.in_ok-front.sense signed t v sense asks))

pub returns-then-branch-lt2 : goal.returns-then-branch-lt2
returns-then-branch-lt2 c = λ short. no_ask c.args.text.now c.in_ok-front.front.now c.in_ok-read_list.field-0.now c.in_ok-front.sense c.in_ok-front.ensures c.in_ok-read_list.ensures (λ h. omega (arith, ltb-true, ltb-false))

pub returns-else-this-lt3 : goal.returns-else-this-lt3
returns-else-this-lt3 c = λ short. no_ask c.args.text.now c.in_ok-front.front.now c.in_ok-read_list.field-0.now c.in_ok-front.sense c.in_ok-front.ensures c.in_ok-read_list.ensures (λ h. omega (arith, ltb-true, ltb-false))
