use Rattle.std.proofs.Common.{◌≡◌, length, Ok, Err, vec_items, refl, ◌∙◌, subst, arith}
use Rattle.model.specs.Limits.{Listable}
use Rattle.model.specs.Shapes.{features}
use Rattle.model.specs.Listed.{Listed}
use Rattle.model.specs.Wholes.{ListedWhole}
use Rattle.search.specs.Found.{found}
use Rattle.model.specs.declared.refusal.Refusal.TheVariants.{Rules}
use Rattle.model.proofs.Written.{whole_listed}
use Rattle.search.proofs.Founds.{listed_whole}
use Rattle.search.proofs.Listings.{length_places, places_are, filled_places}
use Rattle.search.proofs.listing.list.Goals as goal

pub returns-then-many-rules : goal.returns-then-many-rules
returns-then-many-rules g c =
    let m = g.K.Kind.meaning in
    let laws = g.met.K.Kind.lawful in
    let s = c.args.shape.now in
    let h = c.args.head in
    let sense = c.args.sense in
    let rows = g.L.Log.rows c.args.log.now in
    let twelve = g.met.L.Log.twelve c.args.log.now in
    let memory = c.args.rules.now in
    let all = c.in_ok-bodies.bodies in
    let known = c.in_ok-known_head.ensures in
    let listable : Listable m (features s) = subst (Listable m) c.in_ok-bodies.ensures all.listable in
    let same = places_are m s rows h sense all.sizes.now (vec_items c.take.new.self.seen) c.opposed-opposed.result.now c.in_ok-bodies.ensures c.in_ok-take.ensures.1 (c.opposed-opposed.ensures ∙ c.oppose.ensures.value) in
    let many : c.count-many.result ≡ length (found m s rows h sense) = c.count-many.ensures ∙ length_places (found m s rows h sense) _ same in
    let refused : Listed m s rows h (found m s rows h sense) memory memory (Err (Rules c.count-many.result)) = (
      refl,
      (known, listable, c.in_ok-take.ensures.0, many, omega (arith, many, c.if-many-rules.true)),
    ) in
    record {
      answer = refused;
      listing = listed_whole m laws s rows h twelve sense memory memory (Err (Rules c.count-many.result)) refused;
      whole = tt;
    }

pub write-requires : goal.write-requires
write-requires g c = omega (arith, c.count-many.ensures, c.if-many-rules.false)

pub returns : goal.returns
returns g c =
    let m = g.K.Kind.meaning in
    let laws = g.met.K.Kind.lawful in
    let s = c.args.shape.now in
    let h = c.args.head in
    let sense = c.args.sense in
    let rows = g.L.Log.rows c.args.log.now in
    let twelve = g.met.L.Log.twelve c.args.log.now in
    let memory = c.args.rules.now in
    let all = c.in_ok-bodies.bodies in
    let known = c.in_ok-known_head.ensures in
    let listable : Listable m (features s) = subst (Listable m) c.in_ok-bodies.ensures all.listable in
    let same = places_are m s rows h sense all.sizes.now (vec_items c.take.new.self.seen) c.opposed-opposed.result.now c.in_ok-bodies.ensures c.in_ok-take.ensures.1 (c.opposed-opposed.ensures ∙ c.oppose.ensures.value) in
    let many : c.count-many.result ≡ length (found m s rows h sense) = c.count-many.ensures ∙ length_places (found m s rows h sense) _ same in
    let listed : Listed m s rows h (found m s rows h sense) memory _ (Ok c.count-many.result) = (
      known,
      listable,
      c.in_ok-take.ensures.0,
      many,
      omega (arith, many, c.if-many-rules.false),
      c.write.ensures ∙ filled_places (found m s rows h sense) _ same memory,
    ) in
    let listing : ListedWhole m s rows h sense memory _ (Ok c.count-many.result) = listed_whole m laws s rows h twelve sense memory _ (Ok c.count-many.result) listed in
    record {
      answer = listed;
      listing = listing;
      whole = whole_listed m s rows h sense memory _ (Ok c.count-many.result) listing;
    }
