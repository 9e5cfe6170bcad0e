use Rattle.std.proofs.Common.{◌≡◌, ℕ, ◌≤◌, Bool, List, [], length}
use Rattle.search.specs.Misses.{firm}
use Rattle.search.proofs.Zipped.{passes}
use Rattle.search.proofs.bodies.Bodies.is_firm.Given as goal

-- whether what is left of the conditions is firm by what is left of the table
abbrev pub invariant-features : goal.invariant-features
invariant-features g l =
    let it = l.size-iterator in
    let firm_by : ℕ → ℕ → List Bool → Bool = λ n c near. firm g.K.Kind.meaning n near c in
    (goal.iterator-features g).can_next it
    × (goal.iterator-features g).is_finite it
    × (length it.a.a.rest.now ≤ length it.a.b.rest.now)
    × (length it.a.a.rest.now ≤ length it.b.rest.now)
    × (passes firm_by [] it.a.a.rest.now it.a.b.rest.now it.b.rest.now ≡ passes firm_by [] l.self.sizes.now l.body l.initial.size-iterator.b.rest.now)
