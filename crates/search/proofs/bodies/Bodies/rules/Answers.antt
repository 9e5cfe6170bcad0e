use Rattle.search.proofs.Listings.{listable_bare}
use Rattle.search.proofs.Walks.{standing_start, to_find_start}
use Rattle.search.proofs.bodies.Bodies.rules.Goals as goal

pub invariant_of-result : goal.invariant_of-result
invariant_of-result g c =
    let all = c.args.self.now in
    record { standing = standing_start g.K.Kind.meaning all.sizes.now all.lawful.1 (listable_bare g.K.Kind.meaning g.met.K.Kind.lawful all.sizes.now all.lawful all.listable) }

pub returns : goal.returns
returns g c =
    let all = c.args.self.now in
    to_find_start g.K.Kind.meaning all.sizes.now all.lawful.1 (listable_bare g.K.Kind.meaning g.met.K.Kind.lawful all.sizes.now all.lawful all.listable) c.args.opposed.now
