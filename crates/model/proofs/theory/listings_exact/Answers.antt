use Rattle.model.proofs.Written.{exactly}
use Rattle.model.proofs.theory.listings_exact.Goals as goal

pub returns : goal.returns
returns g c = exactly g.K.Kind.meaning
