use Rattle.std.proofs.Common.{◌≡◌, ℕ, ◌<◌, true, MatchOption}
use Rattle.search.specs.Misses.{meets, Lone}
use Rattle.search.proofs.bodies.Bodies.lone_miss.Given as goal

-- of the conditions so far each holds, or all but one
abbrev pub invariant-features : goal.invariant-features
invariant-features g l =
    let m = g.K.Kind.meaning in
    let ns = l.self.sizes.now in
    MatchOption l.miss ((j : ℕ) → j < l.i → meets m ns l.body l.state j ≡ true) (Lone m ns l.body l.state l.i)
