use Rattle.std.proofs.Common.{◌≡◌, Bool, true, false, ◌&&◌, [], length, get_or, sym, ap, ◌∙◌, arith}
use Rattle.model.specs.Rules.{matches}
use Rattle.search.proofs.Clears.{clear_more, clear_fails, clear_all}
use Rattle.search.proofs.Zipped.{passes_first, passes_none, all_ended}
use Rattle.search.proofs.bodies.Bodies.is_clear.Goals as goal

pub rows-preserved : goal.rows-preserved
rows-preserved g c =
    let m = g.K.Kind.meaning in
    let step = c.in-Some.ensures.steps in
    let miss : matches m c.args.self.now.sizes.now c.args.body.now (get_or c.args.opposed.now c.rows.row-index []) ≡ false =
    sym c.features.invariant.4
    ∙ passes_first m.holds 0 _ _ _ _ _ _ _ _ _ step.0.0 step.0.1 step.1
    ∙ ap (λ (t : Bool). t && matches m c.next.new.self.a.a.rest.now c.next.new.self.a.b.rest.now c.next.new.self.b.rest.now) (sym c.if-not-holds.ensures) in
    (c.rows.invariant.0, clear_more m c.args.self.now.sizes.now c.args.opposed.now c.args.body.now c.rows.row-index [] c.rows.invariant.1 c.rows-test.true miss)

pub features-preserved : goal.features-preserved
features-preserved g c =
    let m = g.K.Kind.meaning in
    let step = c.in-Some.ensures.steps in
    let sizes = ap length step.0.0 in
    let codes = ap length step.0.1 in
    let values = ap length step.1 in (
      ((tt, tt), tt),
      tt,
      omega (arith, c.features.invariant.2),
      omega (arith, c.features.invariant.3),
      sym
          (passes_first m.holds 0 _ _ _ _ _ _ _ _ _ step.0.0 step.0.1 step.1
          ∙ ap (λ (t : Bool). t && matches m c.next.new.self.a.a.rest.now c.next.new.self.a.b.rest.now c.next.new.self.b.rest.now) (sym c.if-not-holds.ensures))
          ∙ c.features.invariant.4,
    )

pub returns-after-rows : goal.returns-after-rows
returns-after-rows g c =
    c.rows.invariant.0
    ∙ clear_all g.K.Kind.meaning c.args.self.now.sizes.now c.args.opposed.now c.args.body.now c.rows.row-index [] c.rows.invariant.1 c.rows-test.false

pub returns-in-None : goal.returns-in-None
returns-in-None g c =
    let m = g.K.Kind.meaning in
    let hit : matches m c.args.self.now.sizes.now c.args.body.now (get_or c.args.opposed.now c.rows.row-index []) ≡ true =
    sym
    (passes_none m.holds 0 _ _ _
    (all_ended {Z = _} {A = _} {B = _} {C = _} {P = λ x. x ≡ c.features.size-iterator.a.a} {Q = λ x. x ≡ c.features.size-iterator.a.b} {R = λ x. x ≡ c.features.size-iterator.b} _ _ _ c.in-None.ensures.steps c.features.invariant.2 c.features.invariant.3)
    ∙ c.features.invariant.4) in
    clear_fails m c.args.self.now.sizes.now c.args.opposed.now c.args.body.now c.rows.row-index [] c.rows.invariant.1 c.rows-test.true hit
