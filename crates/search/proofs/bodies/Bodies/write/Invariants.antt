use Rattle.search.specs.Walks.{to_find, places}
use Rattle.search.proofs.Writes.{Writing}
use Rattle.search.proofs.bodies.Bodies.write.Given as goal

abbrev pub invariant-rules : goal.invariant-rules
invariant-rules g l =
    let m = g.K.Kind.meaning in
    (goal.iterator-rules g).can_next l.rule-iterator
    × (goal.iterator-rules g).is_finite l.rule-iterator
    × Writing (places m l.fn.self.sizes.now l.opposed) (to_find m l.rule-iterator.bodies.now.sizes.now l.rule-iterator.opposed.now l.rule-iterator.next) l.initial.rules l.rules l.at
