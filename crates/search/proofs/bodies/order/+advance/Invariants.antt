use Rattle.std.proofs.Common.{length}
use Rattle.search.proofs.bodies.order.+advance.Given as goal

abbrev pub decreases-advance : goal.decreases-advance
decreases-advance g l = length l.body.now
