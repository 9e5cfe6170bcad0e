use Rattle.model.specs.Bands.{ranges_coded}
use Rattle.model.proofs.theory.ranges_coded.Goals as goal

pub returns : goal.returns
returns c = ranges_coded
