use Rattle.model.proofs.Telling.{told}
use Rattle.model.proofs.theory.shown_states_told.Goals as goal

pub returns : goal.returns
returns g c = told g.K.Kind.meaning g.met.K.Kind.lawful
