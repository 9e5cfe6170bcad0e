use Rattle.std.proofs.Common.{◌≡◌, ℕ, ◌<◌, List, ◌∷◌, length, IfSome, Option, sym, ap, ◌∙◌, subst, arith}
use Rattle.std.proofs.lemmas.Bool.{and_from, and_left, and_right}
use Rattle.search.specs.Walks.{Standing, left, to_find}
use Rattle.search.proofs.Finds.{within_reach, zeros_reach, left_less, to_find_best, to_find_none}
use Rattle.search.proofs.rules.walking.RulesIterator.next.Goals as goal
use Rattle.search.proofs.rules.walking.RulesIterator.next.Goals.{else-clear-via-then-clear+else-is_tight, else-clear-via-else-clear}

pub after-self-requires : goal.after-self-requires
after-self-requires g c =
    let m = g.K.Kind.meaning in
    let ns = c.bodies.self.bodies.now.sizes.now in
    let standing : Standing m ns c.in-Some.body = subst (λ (o : Option (List ℕ)). IfSome o (Standing m ns)) c.in-Some.is c.bodies.self.standing in
    record {
      standing = standing;
      within = within_reach m ns c.in-Some.body c.reach-reach.result c.is_clear-clear.result standing c.reach-reach.ensures;
      zeros = zeros_reach m ns c.in-Some.body c.reach-reach.result c.is_clear-clear.result standing c.reach-reach.ensures;
    }

pub returns-then-is_tight : goal.returns-then-is_tight
returns-then-is_tight g c =
    let m = g.K.Kind.meaning in
    let ns = c.bodies.self.bodies.now.sizes.now in
    let opposed = c.bodies.self.opposed.now in
    let standing : Standing m ns c.in-Some.body = subst (λ (o : Option (List ℕ)). IfSome o (Standing m ns)) c.in-Some.is c.bodies.self.standing in
    let found : to_find m c.args.self.now.bodies.now.sizes.now c.args.self.now.opposed.now c.args.self.now.next ≡ c.in-Some.body ∷ to_find m ns opposed c.after-self.result =
    c.bodies.invariant
    ∙ ap (to_find m ns opposed) c.in-Some.is
    ∙ to_find_best m ns c.in-Some.body c.reach-reach.result c.is_clear-clear.result standing c.reach-reach.ensures c.after-self.result c.after-self.ensures.passed g.met.K.Kind.lawful opposed c.bodies.self.bodies.now.lawful.1 c.is_clear-clear.ensures
    (and_from _ _ (sym c.if-clear.ensures) (sym c.if-is_tight.ensures)) in
    let less = ap length found in
    record {
      steps = found;
      goes = record { on = λ _. (tt, tt, omega arith); keeps = tt; rests = λ _. tt };
    }

pub bodies-smaller : goal.bodies-smaller
bodies-smaller g c =
    let m = g.K.Kind.meaning in
    let ns = c.bodies.self.bodies.now.sizes.now in
    let standing : Standing m ns c.in-Some.body = subst (λ (o : Option (List ℕ)). IfSome o (Standing m ns)) c.in-Some.is c.bodies.self.standing in
    subst (λ (o : Option (List ℕ)). length (left m ns c.after-self.result) < length (left m ns o)) (sym c.in-Some.is)
    (left_less m ns c.in-Some.body c.reach-reach.result c.is_clear-clear.result standing c.reach-reach.ensures c.after-self.result c.after-self.ensures.passed)

pub bodies-preserved : goal.bodies-preserved
bodies-preserved g c =
    let m = g.K.Kind.meaning in
    let ns = c.bodies.self.bodies.now.sizes.now in
    let opposed = c.bodies.self.opposed.now in
    let standing : Standing m ns c.in-Some.body = subst (λ (o : Option (List ℕ)). IfSome o (Standing m ns)) c.in-Some.is c.bodies.self.standing in
    c.bodies.invariant
    ∙ ap (to_find m ns opposed) c.in-Some.is
    ∙ to_find_none m ns c.in-Some.body c.reach-reach.result c.is_clear-clear.result standing c.reach-reach.ensures c.after-self.result c.after-self.ensures.passed g.met.K.Kind.lawful opposed c.bodies.self.bodies.now.lawful.1 c.is_clear-clear.ensures
    (elim c.else-clear.branch [
      | else-clear-via-then-clear+else-is_tight w ↦ and_right _ _ (sym w.if-is_tight.ensures)
      | else-clear-via-else-clear w ↦ and_left _ _ (sym w.if-clear.ensures)
    ])
