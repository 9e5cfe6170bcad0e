use Rattle.std.proofs.Common.{◌+◌, ◌≢◌, get_or, subst, arith}
use Rattle.search.proofs.Depths.{zeros_from}
use Rattle.search.proofs.bodies.order.depth.Goals as goal

pub returns-in-Some : goal.returns-in-Some
returns-in-Some c =
    let found = c.in-Some.ensures in
    record {
      within = omega (arith, found.within);
      zeros = zeros_from c.args.body.now (c.in-Some.last + 1) (λ k ge lt. found.open_after k (omega arith) lt);
      last = λ i e. subst (λ j. get_or c.args.body.now j 0 ≢ 0) (omega arith) found.closed;
    }

pub returns-in-None : goal.returns-in-None
returns-in-None c = record {
  within = omega arith;
  zeros = zeros_from c.args.body.now 0 (λ k ge lt. c.in-None.ensures k lt);
  last = λ i e. absurd (omega arith);
}
