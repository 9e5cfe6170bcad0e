use Rattle.std.proofs.Common.{rules, arith}
use Rattle.std.proofs.lemmas.Result.{err_from_is_err_and}
use Rattle.std.proofs.lemmas.List.{get_or_default}
use Rattle.logs.specs.Packed.{shown}
use Rattle.exchange.proofs.Told.{forecast_more}
use Rattle.exchange.specs.declared.messages.TheConstants.{STATES}
use Rattle.exchange.proofs.forecasts.forecast_all.Goals as goal

pub returns-in_err-forecast-clause-answer : goal.returns-in_err-forecast-clause-answer
returns-in_err-forecast-clause-answer c =
    let p = err_from_is_err_and c.from_residual.result c.from_residual.ensures.1 in
    rw (p.1, p.2) (c.states.state-index, _, omega arith, get_or_default STATES c.states.state-index _ _ (omega arith), rw (c.states.invariant.shape, c.states.invariant.log) at c.in_err-forecast.ensures.answer)

pub states-preserved : goal.states-preserved
states-preserved c = record {
  shape = search rules;
  log = search rules;
  told = forecast_more c.args.book.now.shape (shown c.args.book.now.log.bytes.items) STATES c.states.state-index _ c.states.forecasts.items c.push.new.self.items c.in_ok-forecast.forecast (omega arith) c.in_ok-forecast.ensures.answer.0 (search rules) c.states.invariant.told (rw (c.states.invariant.shape, c.states.invariant.log) at c.in_ok-forecast.ensures.answer.1);
}
