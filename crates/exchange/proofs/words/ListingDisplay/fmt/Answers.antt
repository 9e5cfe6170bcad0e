use Rattle.std.proofs.Common.{rules, arith, None}
use Rattle.exchange.proofs.Lines.{line_more}
use Rattle.exchange.specs.declared.rule.Rule.{Rule}
use Rattle.exchange.proofs.words.ListingDisplay.fmt.Goals as goal

pub loop-rule-preserved : goal.loop-rule-preserved
loop-rule-preserved g c = λ p.
    let any : Rule = record { busy = None; wrapped = None } in
    line_more _ _ _ _ _ _ any (omega arith) (c.loop-rule.invariant p) (search rules)
