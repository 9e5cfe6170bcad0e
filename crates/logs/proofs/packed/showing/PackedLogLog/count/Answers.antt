use Rattle.std.proofs.Common.{rules}
use Rattle.logs.specs.Shown.{length_shown}
use Rattle.logs.proofs.packed.showing.PackedLogLog.count.Goals as goal

pub returns : goal.returns
returns c = search (rules, length_shown)
