use Rattle.std.proofs.Common.{◌≡◌, ◌≤◌, None, unwrap_or}
use Rattle.search.specs.Walks.{to_find, places}
use Rattle.search.specs.Weights.{heaviest}
use Rattle.search.proofs.bodies.Bodies.best_weight.Given as goal

abbrev pub invariant-rules : goal.invariant-rules
invariant-rules g l =
    let m = g.K.Kind.meaning in
    let ns = l.self.sizes.now in
    let ahead = to_find m l.rule-iterator.bodies.now.sizes.now l.rule-iterator.opposed.now l.rule-iterator.next in
    (goal.iterator-rules g).can_next l.rule-iterator
    × (goal.iterator-rules g).is_finite l.rule-iterator
    × (unwrap_or l.best 0 ≤ 65535)
    × (heaviest m ns l.sense l.seen l.state l.best ahead ≡ heaviest m ns l.sense l.seen l.state None (places m ns l.opposed))
