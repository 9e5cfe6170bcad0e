use Rattle.std.proofs.Common.{ℕ, ◌+◌, List, [], sym, refl, ◌∙◌, subst, inl, inr, arith, rules}
use Rattle.std.proofs.lemmas.List.{take_all}
use Rattle.search.specs.Misses.{Noted}
use Rattle.search.proofs.Firm.{firm_tight, firm_first}
use Rattle.search.proofs.Misses.{noted_none, noted_more_beside, table_more}
use Rattle.search.proofs.bodies.Bodies.is_tight.Goals as goal
use Rattle.search.proofs.bodies.Bodies.is_tight.Goals.{then-row-i-lt8, else-row-i-lt8}

pub rows-init : goal.rows-init
rows-init g c = (refl, search rules, noted_none g.K.Kind.meaning c.args.self.now.sizes.now c.args.body.now)

pub rows-preserved-in_default : goal.rows-preserved-in_default
rows-preserved-in_default g c = (
  c.rows.invariant.0,
  c.rows.invariant.1,
  noted_more_beside g.K.Kind.meaning c.args.self.now.sizes.now c.args.body.now c.args.opposed.now c.rows.near c.rows.at [] c.rows-test.true c.rows.invariant.2 c.in_default.ensures,
)

pub rows-preserved : goal.rows-preserved
rows-preserved g c =
    table_more g.K.Kind.meaning c.args.self.now.sizes.now c.args.body.now c.args.opposed.now c.rows.at c.in-Some.i c.rows.near _ c.rows-test.true c.args.self.now.lawful.1 c.rows.invariant c.in-Some.ensures
    (elim c.if-row-i-lt8.branch [
      | then-row-i-lt8 w ↦ inl (w.from.result, omega (arith, w.if-row-i-lt8.true, w.from.ensures), w.from.ensures, w.near-is)
      | else-row-i-lt8 w ↦ inr (w.if-row-i-lt8.false, w.near-is)
    ])

pub returns-then-is_firm : goal.returns-then-is_firm
returns-then-is_firm g c =
    let m = g.K.Kind.meaning in
    let ns = c.args.self.now.sizes.now in
    let b = c.args.body.now in
    let opposed = c.args.opposed.now in
    let table =
    table_more m ns b opposed c.rows.at c.in-Some.i c.rows.near c.if-row-i-lt8.near c.rows-test.true c.args.self.now.lawful.1 c.rows.invariant c.in-Some.ensures
    (elim c.if-row-i-lt8.branch [
      | then-row-i-lt8 w ↦ inl (w.from.result, omega (arith, w.if-row-i-lt8.true, w.from.ensures), w.from.ensures, w.near-is)
      | else-row-i-lt8 w ↦ inr (w.if-row-i-lt8.false, w.near-is)
    ]) in
    sym (firm_first m ns opposed (c.rows.at + 1) g.met.K.Kind.lawful c.args.self.now.lawful.2 b (search rules) (search rules) c.requires c.if-row-i-lt8.near table.2 (sym c.if-is_firm.ensures))

pub returns : goal.returns
returns g c =
    let m = g.K.Kind.meaning in
    let ns = c.args.self.now.sizes.now in
    let opposed = c.args.opposed.now in
    let noted = subst (λ (vs : List (List ℕ)). Noted m ns vs c.args.body.now c.rows.near) (take_all c.rows.at opposed c.rows-test.false) c.rows.invariant.2 in
    c.is_firm-2.ensures ∙ firm_tight m ns opposed g.met.K.Kind.lawful c.args.self.now.lawful.2 c.args.body.now (search rules) (search rules) c.requires c.rows.near noted
