use Rattle.std.proofs.Common.{length, ap, inl, arith, rules}
use Rattle.search.proofs.Listings.{listable_bound}
use Rattle.search.proofs.Walks.{length_places_le}
use Rattle.search.proofs.bodies.Bodies.count.Goals as goal

pub count-requires-clause-fits : goal.count-requires-clause-fits
count-requires-clause-fits g c =
    let m = g.K.Kind.meaning in
    let all = c.args.self.now in
    let few = length_places_le m all.sizes.now c.args.opposed.now in
    let bound = listable_bound m g.met.K.Kind.lawful all.sizes.now all.lawful all.listable in
    let same = ap length c.rules.ensures in
    inl (omega arith)

pub overflow_cast-result : goal.overflow_cast-result
overflow_cast-result g c =
    let m = g.K.Kind.meaning in
    let all = c.args.self.now in
    let few = length_places_le m all.sizes.now c.args.opposed.now in
    let bound = listable_bound m g.met.K.Kind.lawful all.sizes.now all.lawful all.listable in
    let same = ap length c.rules.ensures in
    search (rules, c.count.ensures.bound)
