use Rattle.std.proofs.Common.{rules}
use Rattle.std.proofs.lemmas.Bool.{eqb-true, eqb-false}
use Rattle.model.proofs.Bodies.{length_body}
use Rattle.search.proofs.Steps.{body_later, advanced_none, advanced_later, advanced_first, advanced_over}
use Rattle.search.proofs.bodies.order.+advance.Goals as goal

pub returns-then-is_empty : goal.returns-then-is_empty
returns-then-is_empty g t c = advanced_none g.K.Kind.meaning c.args.sizes.now c.args.body.now (search (rules, eqb-true)) c.requires

pub advance-requires : goal.advance-requires
advance-requires g t c κs within =
    let m = g.K.Kind.meaning in
    let same = length_body m c.args.sizes.now c.args.body.now c.requires in
    (search rules, (search rules, body_later m c.args.sizes.now c.args.body.now (search (rules, eqb-false)) c.requires))

pub returns-then-advance : goal.returns-then-advance
returns-then-advance g t c =
    advanced_later g.K.Kind.meaning c.args.sizes.now c.args.body.now c.advance.new.body (search (rules, eqb-false)) c.requires c.if-advance.ensures

pub returns-then-code-conditions : goal.returns-then-code-conditions
returns-then-code-conditions g t c =
    advanced_first g.K.Kind.meaning c.args.sizes.now c.args.body.now c.advance.new.body (search (rules, eqb-false)) c.requires c.if-advance.ensures (search rules)

pub returns-else-code-conditions : goal.returns-else-code-conditions
returns-else-code-conditions g t c =
    advanced_over g.K.Kind.meaning c.args.sizes.now c.args.body.now c.advance.new.body (search (rules, eqb-false)) c.requires c.if-advance.ensures (search rules)

pub bounds-body-0 : goal.bounds-body-0
bounds-body-0 g t c = let same = length_body g.K.Kind.meaning c.args.sizes.now c.args.body.now c.requires in search (rules, eqb-false)
