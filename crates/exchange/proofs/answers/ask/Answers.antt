use Rattle.std.proofs.Common.{inr}
use Rattle.std.proofs.lemmas.Result.{err_from_is_err_and}
use Rattle.exchange.proofs.answers.ask.Goals as goal

pub returns-in_err-forecasts-clause-refused : goal.returns-in_err-forecasts-clause-refused
returns-in_err-forecasts-clause-refused c =
    let p = err_from_is_err_and c.from_residual-in_err-forecasts.result c.from_residual-in_err-forecasts.ensures.1 in
    let kept = c.in_ok-rules.ensures.kept in
    rw (p.1, p.2) (inr (rw (kept.shape, kept.log) at c.in_err-forecasts.ensures.answer))
