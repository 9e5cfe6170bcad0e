use Rattle.std.proofs.Common.{◌≡◌, length}
use Rattle.search.specs.Walks.{left, to_find}
use Rattle.search.proofs.rules.walking.RulesIterator.next.Given as goal

-- no rule was found so far
abbrev pub invariant-bodies : goal.invariant-bodies
invariant-bodies g l =
    let m = g.K.Kind.meaning in
    to_find m l.initial.self.bodies.now.sizes.now l.initial.self.opposed.now l.initial.self.next ≡ to_find m l.self.bodies.now.sizes.now l.self.opposed.now l.self.next

abbrev pub decreases-bodies : goal.decreases-bodies
decreases-bodies g l = length (left g.K.Kind.meaning l.self.bodies.now.sizes.now l.self.next)
