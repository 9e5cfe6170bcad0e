use Rattle.model.proofs.Optima.{optimum_above}
use Rattle.model.proofs.theory.optima_above.Goals as goal

pub returns : goal.returns
returns g c = optimum_above g.K.Kind.meaning g.met.K.Kind.lawful
