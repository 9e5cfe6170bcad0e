use Rattle.model.proofs.Weakening.{optimal_when_tight}
use Rattle.model.proofs.theory.one_weakening_suffices.Goals as goal

pub returns : goal.returns
returns g c = optimal_when_tight g.K.Kind.meaning g.met.K.Kind.lawful
