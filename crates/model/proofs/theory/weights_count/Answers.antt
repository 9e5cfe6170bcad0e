use Rattle.model.proofs.Weighing.{weighs}
use Rattle.model.proofs.theory.weights_count.Goals as goal

pub returns : goal.returns
returns g c = weighs g.K.Kind.meaning
