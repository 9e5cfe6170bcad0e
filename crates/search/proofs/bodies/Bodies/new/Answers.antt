use Rattle.std.proofs.Common.{◌≡◌, ℕ, ◌+◌, ◌*◌, ◌≤◌, drop, refl, sym, ap, ◌∙◌, subst, mul-le-mul, arith, rules}
use Rattle.std.proofs.ByRecursion.{All-get_or, All-more}
use Rattle.model.specs.Limits.{body_count, Listable}
use Rattle.search.proofs.Counts.{count_more, too_many}
use Rattle.search.proofs.bodies.Bodies.new.Goals as goal

pub returns-then-size-widest : goal.returns-then-size-widest
returns-then-size-widest g c = (
  refl,
  λ listable. let same = subst (Listable g.K.Kind.meaning) (sym c.feature_sizes-sizes.ensures.value) listable in
      let narrow = All-get_or (λ n. n ≤ g.K.Kind.meaning.largest) c.feature_sizes-sizes.result.now c.sizes.size-index 0 c.sizes-test.true same.0 in
      omega arith,
)

pub overflow_mul-bodies : goal.overflow_mul-bodies
overflow_mul-bodies g c =
    let byte : c.from-bodies.result ≤ 255 = search rules in
    let small : c.sizes.bodies * c.from-bodies.result ≤ 1000000 * 255 = mul-le-mul c.sizes.invariant.0 byte in
    search rules

pub returns-then-bodies-gt-MOST_BODIES : goal.returns-then-bodies-gt-MOST_BODIES
returns-then-bodies-gt-MOST_BODIES g c =
    let m = g.K.Kind.meaning in
    let ns = c.feature_sizes-sizes.result.now in
    let i = c.sizes.size-index in
    let here = c.from-bodies.ensures ∙ c.conditions.ensures in
    let so_far : c.sizes.bodies * c.from-bodies.result * body_count m (drop (i + 1) ns) ≡ body_count m ns =
    ap (λ (k : ℕ). c.sizes.bodies * k * body_count m (drop (i + 1) ns)) here ∙ count_more m ns c.sizes.bodies i c.sizes-test.true c.sizes.invariant.2 in (
      refl,
      λ listable. too_many m g.met.K.Kind.lawful ns (c.sizes.bodies * c.from-bodies.result) (i + 1) c.feature_sizes-sizes.ensures.lawful.2 c.if-bodies-gt-MOST_BODIES.true so_far (subst (Listable m) (sym c.feature_sizes-sizes.ensures.value) listable),
    )

pub sizes-preserved : goal.sizes-preserved
sizes-preserved g c =
    let m = g.K.Kind.meaning in
    let ns = c.feature_sizes-sizes.result.now in
    let i = c.sizes.size-index in
    let here = c.from-bodies.ensures ∙ c.conditions.ensures in (
      c.if-bodies-gt-MOST_BODIES.false,
      All-more (λ n. n ≤ m.largest) ns i 0 c.sizes-test.true c.sizes.invariant.1 (omega arith),
      ap (λ (k : ℕ). c.sizes.bodies * k * body_count m (drop (i + 1) ns)) here ∙ count_more m ns c.sizes.bodies i c.sizes-test.true c.sizes.invariant.2,
    )
