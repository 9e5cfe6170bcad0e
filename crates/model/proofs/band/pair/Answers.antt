use Rattle.model.specs.Pairs.{paired}
use Rattle.model.proofs.band.pair.Goals as goal

pub returns : goal.returns
returns c = paired c.from.result c.args.code c.from.ensures c.requires
