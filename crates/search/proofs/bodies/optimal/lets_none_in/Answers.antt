use Rattle.std.proofs.Common.{◌≡◌, ℕ, Bool, false, not, ◌&&◌, get_or, sym, ap, ◌∙◌, arith}
use Rattle.std.proofs.lemmas.Bool.{and_from, and_left, and_right}
use Rattle.model.specs.Rules.{each_below}
use Rattle.model.specs.Below.{each_below_more, each_below_fails}
use Rattle.search.proofs.bodies.optimal.lets_none_in.Goals as goal
use Rattle.search.proofs.bodies.optimal.lets_none_in.Goals.{else-near-from-via-then-near-from+else-holds, else-near-from-via-else-near-from}

pub returns-then-holds : goal.returns-then-holds
returns-then-holds g c =
    let noted : ℕ → Bool = λ x. get_or c.args.near.now x false in
    let holds : ℕ → Bool = λ x. g.K.Kind.meaning.holds c.args.size c.args.code x in
    let x = c.values.value in
    sym (each_below_fails 8 x (λ x. not (noted x && holds x)) c.values-test.true
    (ap not (and_from (noted x) (holds x) (ap noted (sym c.from.ensures) ∙ c.if-near-from.true) (sym c.if-holds.ensures))))

pub values-preserved : goal.values-preserved
values-preserved g c =
    let noted : ℕ → Bool = λ x. get_or c.args.near.now x false in
    let holds : ℕ → Bool = λ x. g.K.Kind.meaning.holds c.args.size c.args.code x in
    let x = c.values.value in
    each_below_more x (λ x. not (noted x && holds x)) c.values.invariant
    (elim c.else-near-from.branch [
      | else-near-from-via-then-near-from+else-holds w ↦ ap not (and_right (noted x) (holds x) (sym w.if-holds.ensures))
      | else-near-from-via-else-near-from w ↦ ap not (and_left (noted x) (holds x) (ap noted (sym c.from.ensures) ∙ w.if-near-from.false))
    ])

pub returns : goal.returns
returns g c =
    let noted : ℕ → Bool = λ x. get_or c.args.near.now x false in
    let holds : ℕ → Bool = λ x. g.K.Kind.meaning.holds c.args.size c.args.code x in
    let done : c.values.value ≡ 8 = omega arith in
    sym c.values.invariant ∙ ap (λ (n : ℕ). each_below n (λ x. not (noted x && holds x))) done
