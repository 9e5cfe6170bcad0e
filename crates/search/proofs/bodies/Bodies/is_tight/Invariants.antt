use Rattle.search.proofs.Misses.{Table}
use Rattle.search.proofs.bodies.Bodies.is_tight.Given as goal

-- the near misses so far are noted
abbrev pub invariant-rows : goal.invariant-rows
invariant-rows g l = Table g.K.Kind.meaning l.self.sizes.now l.body l.opposed l.at l.near
