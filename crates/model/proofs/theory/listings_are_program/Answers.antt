use Rattle.model.proofs.Programs.{optimal_program}
use Rattle.model.proofs.theory.listings_are_program.Goals as goal

pub returns : goal.returns
returns g c = optimal_program g.K.Kind.meaning g.met.K.Kind.lawful
