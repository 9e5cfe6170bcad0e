use Rattle.std.proofs.Common.{◌≡◌, ◌≤◌, true, [], length, get_or, drop}
use Rattle.model.specs.Rules.{matches}
use Rattle.search.specs.Opposing.{clear}
use Rattle.search.proofs.bodies.Bodies.is_clear.Given as goal

abbrev pub invariant-rows : goal.invariant-rows
invariant-rows g l = (l.none ≡ true) × (clear g.K.Kind.meaning l.self.sizes.now (drop l.row-index l.opposed) l.body ≡ clear g.K.Kind.meaning l.self.sizes.now l.opposed l.body)

-- whether what is left of the conditions holds of what is left of the state
abbrev pub invariant-features : goal.invariant-features
invariant-features g l =
    let it = l.size-iterator in
    (goal.iterator-features g).can_next it
    × (goal.iterator-features g).is_finite it
    × (length it.a.a.rest.now ≤ length it.a.b.rest.now)
    × (length it.a.a.rest.now ≤ length it.b.rest.now)
    × (matches g.K.Kind.meaning it.a.a.rest.now it.a.b.rest.now it.b.rest.now ≡ matches g.K.Kind.meaning l.self.sizes.now l.body (get_or l.opposed l.row-index []))
