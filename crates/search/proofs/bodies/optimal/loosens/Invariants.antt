use Rattle.std.proofs.Common.{◌≡◌, true, not}
use Rattle.model.specs.Rules.{each_below}
use Rattle.search.specs.Misses.{frees}
use Rattle.search.proofs.bodies.optimal.loosens.Given as goal

-- each weaker code so far lets a near miss in
abbrev pub invariant-codes : goal.invariant-codes
invariant-codes g l = each_below l.other (λ c. not (frees g.K.Kind.meaning l.size l.near l.code c)) ≡ true
