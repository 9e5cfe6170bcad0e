use Rattle.std.proofs.Common.{◌≡◌, ◌*◌, ◌≤◌, take, drop}
use Rattle.std.specs.List.{AllByRecursion}
use Rattle.model.specs.Limits.{body_count}
use Rattle.search.proofs.bodies.Bodies.new.Given as goal

abbrev pub invariant-sizes : goal.invariant-sizes
invariant-sizes g l =
    let m = g.K.Kind.meaning in
    (l.bodies ≤ 1000000)
    × AllByRecursion (λ n. n ≤ m.largest) (take l.size-index l.sizes)
    × (l.bodies * body_count m (drop l.size-index l.sizes) ≡ body_count m l.sizes)
