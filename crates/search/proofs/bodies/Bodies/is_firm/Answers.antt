use Rattle.std.proofs.Common.{◌≡◌, ℕ, Bool, ◌&&◌, List, [], length, sym, ap, ◌∙◌, arith, rules}
use Rattle.search.specs.Misses.{firm}
use Rattle.search.proofs.Zipped.{passes, passes_first, passes_none, all_ended}
use Rattle.search.proofs.bodies.Bodies.is_firm.Goals as goal

pub returns-then-loosens : goal.returns-then-loosens
returns-then-loosens g c =
    let m = g.K.Kind.meaning in
    let ns = c.args.self.now.sizes.now in
    let firm_by : ℕ → ℕ → List Bool → Bool = λ n c near. firm m n near c in
    let table : c.into_iter-size-iterator.result.b.rest.now ≡ c.args.near.now = search rules in
    let step = c.in-Some.ensures.steps in
    sym
    (sym c.features.invariant.4
    ∙ passes_first firm_by [] _ _ _ _ _ _ _ _ _ step.0.0 step.0.1 step.1
    ∙ ap (λ (t : Bool). t && passes firm_by [] c.next.new.self.a.a.rest.now c.next.new.self.a.b.rest.now c.next.new.self.b.rest.now) (sym c.if-loosens.ensures))
    ∙ ap (passes firm_by [] ns c.args.body.now) table

pub features-preserved : goal.features-preserved
features-preserved g c =
    let m = g.K.Kind.meaning in
    let firm_by : ℕ → ℕ → List Bool → Bool = λ n c near. firm m n near c in
    let step = c.in-Some.ensures.steps in
    let sizes = ap length step.0.0 in
    let codes = ap length step.0.1 in
    let rows = ap length step.1 in (
      ((tt, tt), tt),
      tt,
      omega (arith, c.features.invariant.2),
      omega (arith, c.features.invariant.3),
      sym
          (passes_first firm_by [] _ _ _ _ _ _ _ _ _ step.0.0 step.0.1 step.1
          ∙ ap (λ (t : Bool). t && passes firm_by [] c.next.new.self.a.a.rest.now c.next.new.self.a.b.rest.now c.next.new.self.b.rest.now) (sym c.if-loosens.ensures))
          ∙ c.features.invariant.4,
    )

pub returns : goal.returns
returns g c =
    let m = g.K.Kind.meaning in
    let ns = c.args.self.now.sizes.now in
    let firm_by : ℕ → ℕ → List Bool → Bool = λ n c near. firm m n near c in
    let table : c.into_iter-size-iterator.result.b.rest.now ≡ c.args.near.now = search rules in
    passes_none firm_by [] _ _ _
    (all_ended {Z = _} {A = _} {B = _} {C = _} {P = λ x. x ≡ c.features.size-iterator.a.a} {Q = λ x. x ≡ c.features.size-iterator.a.b} {R = λ x. x ≡ c.features.size-iterator.b} _ _ _ c.in-None.ensures.steps c.features.invariant.2 c.features.invariant.3)
    ∙ c.features.invariant.4
    ∙ ap (passes firm_by [] ns c.args.body.now) table
