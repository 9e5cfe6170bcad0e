use Rattle.std.proofs.Common.{◌≡◌, Bool, ◌&&◌, length, sym, ap, ◌∙◌, arith}
use Rattle.model.specs.Rules.{matches}
use Rattle.search.proofs.Zipped.{passes_first, passes_none, all_ended}
use Rattle.search.proofs.bodies.Bodies.matches.Goals as goal

pub returns-then-not-holds : goal.returns-then-not-holds
returns-then-not-holds g c =
    let m = g.K.Kind.meaning in
    let step = c.in-Some.ensures.steps in
    sym
    (sym c.features.invariant.4
    ∙ passes_first m.holds 0 _ _ _ _ _ _ _ _ _ step.0.0 step.0.1 step.1
    ∙ ap (λ (t : Bool). t && matches m c.next.new.self.a.a.rest.now c.next.new.self.a.b.rest.now c.next.new.self.b.rest.now) (sym c.if-not-holds.ensures))

pub features-preserved : goal.features-preserved
features-preserved g c =
    let m = g.K.Kind.meaning in
    let step = c.in-Some.ensures.steps in
    let sizes = ap length step.0.0 in
    let codes = ap length step.0.1 in
    let values = ap length step.1 in (
      ((tt, tt), tt),
      tt,
      omega (arith, c.features.invariant.2),
      omega (arith, c.features.invariant.3),
      sym
          (passes_first m.holds 0 _ _ _ _ _ _ _ _ _ step.0.0 step.0.1 step.1
          ∙ ap (λ (t : Bool). t && matches m c.next.new.self.a.a.rest.now c.next.new.self.a.b.rest.now c.next.new.self.b.rest.now) (sym c.if-not-holds.ensures))
          ∙ c.features.invariant.4,
    )

pub returns : goal.returns
returns g c =
    passes_none g.K.Kind.meaning.holds 0 _ _ _ (all_ended {Z = _} {A = _} {B = _} {C = _} {P = λ x. x ≡ c.features.size-iterator.a.a} {Q = λ x. x ≡ c.features.size-iterator.a.b} {R = λ x. x ≡ c.features.size-iterator.b} _ _ _ c.in-None.ensures.steps c.features.invariant.2 c.features.invariant.3)
    ∙ c.features.invariant.4
