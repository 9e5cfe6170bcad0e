-- One forecast more. Assumes nothing.
use Rattle.std.proofs.Common.{◌≡◌, ℕ, ◌+◌, ◌<◌, List, [], ◌∷◌, ◌++◌, length, take, get_or}
use Rattle.std.proofs.lemmas.Grind.{common_steps}
use Rattle.model.specs.declared.row.Row.{Row}
use Rattle.model.specs.declared.shape.Shape.{Shape}
use Rattle.exchange.specs.Answers.{IsForecast, AreForecasts}
use Rattle.exchange.specs.declared.forecasts.Forecast.{Forecast}
use Rattle.exchange.specs.declared.messages.State.{State}
use Rattle.std.proofs.Common.{arith}

module _ (s : Shape) (rows : List Row) where
  pub forecast_more : (states : List State) (i : ℕ) (d : State) (before after : List Forecast) (f : Forecast) → i < length states → f.state ≡ get_or states i d → after ≡ before ++ f ∷ [] → AreForecasts s rows (take i states) before → IsForecast s rows f → AreForecasts s rows (take (i + 1) states) after
  forecast_more states i d before after f within same put are is = record { at = grind (arith, common_steps, are.at); told = grind (arith, common_steps, are.told) }
