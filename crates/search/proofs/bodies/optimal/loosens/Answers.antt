use Rattle.std.proofs.Common.{Bool, not, ◌&&◌, eqb, sym, ap, arith}
use Rattle.std.proofs.lemmas.Bool.{and_from, and_left, and_right, eq-eqb, ne_eqb}
use Rattle.model.specs.Below.{each_below_more, each_below_fails}
use Rattle.search.specs.Misses.{spares, frees}
use Rattle.search.proofs.bodies.optimal.loosens.Goals as goal
use Rattle.search.proofs.bodies.optimal.loosens.Goals.{then-other-code-via-then-other-code, then-other-code-via-else-other-code+then-not-weaker}

pub codes-preserved-then-other-code : goal.codes-preserved-then-other-code
codes-preserved-then-other-code g c =
    let m = g.K.Kind.meaning in
    let n = c.args.size in
    let code = c.args.code in
    let other = c.codes.other in
    let differs : Bool = not (eqb other code) in
    let weaker : Bool = m.weaker n other code in
    each_below_more other (λ o. not (frees m n c.args.near.now code o)) c.codes.invariant
    (ap not (and_left (differs && weaker) (spares m n c.args.near.now other) (elim c.then-other-code.branch [
      | then-other-code-via-then-other-code w ↦ and_left differs weaker (ap not (eq-eqb other code w.if-other-code.true))
      | then-other-code-via-else-other-code+then-not-weaker w ↦ and_right differs weaker (sym w.if-not-weaker.ensures)
    ])))

pub returns-then-lets_none_in : goal.returns-then-lets_none_in
returns-then-lets_none_in g c =
    let m = g.K.Kind.meaning in
    let n = c.args.size in
    let code = c.args.code in
    let other = c.codes.other in
    let differs : Bool = not (eqb other code) in
    let weaker : Bool = m.weaker n other code in
    sym (each_below_fails (m.conditions n) other (λ o. not (frees m n c.args.near.now code o)) (omega (arith, c.codes-test.true, c.conditions-other-end.ensures))
    (ap not (and_from (differs && weaker) (spares m n c.args.near.now other) (and_from differs weaker (ap not (ne_eqb other code c.if-other-code.false)) (sym c.if-not-weaker.ensures)) (sym c.if-lets_none_in.ensures))))

pub codes-preserved : goal.codes-preserved
codes-preserved g c =
    let m = g.K.Kind.meaning in
    let n = c.args.size in
    let code = c.args.code in
    let other = c.codes.other in
    each_below_more other (λ o. not (frees m n c.args.near.now code o)) c.codes.invariant
    (ap not (and_right (not (eqb other code) && m.weaker n other code) (spares m n c.args.near.now other) (sym c.if-lets_none_in.ensures)))
