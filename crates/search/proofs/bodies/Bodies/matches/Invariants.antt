use Rattle.std.proofs.Common.{◌≡◌, ◌≤◌, length}
use Rattle.model.specs.Rules.{matches}
use Rattle.search.proofs.bodies.Bodies.matches.Given as goal

-- whether what is left of the conditions holds of what is left of the state
abbrev pub invariant-features : goal.invariant-features
invariant-features g l =
    let it = l.size-iterator in
    (goal.iterator-features g).can_next it
    × (goal.iterator-features g).is_finite it
    × (length it.a.a.rest.now ≤ length it.a.b.rest.now)
    × (length it.a.a.rest.now ≤ length it.b.rest.now)
    × (matches g.K.Kind.meaning it.a.a.rest.now it.a.b.rest.now it.b.rest.now ≡ matches g.K.Kind.meaning l.self.sizes.now l.body l.state)
