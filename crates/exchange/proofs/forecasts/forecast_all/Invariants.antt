use Rattle.std.proofs.Common.{◌≡◌, take}
use Rattle.logs.specs.Packed.{shown}
use Rattle.exchange.specs.Answers.{AreForecasts}
use Rattle.exchange.specs.declared.messages.TheConstants.{STATES}
use Rattle.exchange.proofs.forecasts.forecast_all.Given as goal

abbrev pub invariant-states : goal.invariant-states
invariant-states l = record {
  shape : l.book.shape ≡ l.initial.book.shape;
  log : l.book.log ≡ l.initial.book.log;
  told : AreForecasts l.initial.book.shape (shown l.initial.book.log.bytes.items) (take l.state-index STATES) l.forecasts.items;
}
