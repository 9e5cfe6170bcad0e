use Rattle.model.proofs.Greatest.{best_weights}
use Rattle.model.proofs.theory.best_weights.Goals as goal

pub returns : goal.returns
returns g c = best_weights g.K.Kind.meaning
