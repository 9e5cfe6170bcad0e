use Rattle.model.proofs.Optima.{rivals_have}
use Rattle.model.proofs.theory.rivals_contain.Goals as goal

pub returns : goal.returns
returns g c = rivals_have g.K.Kind.meaning
