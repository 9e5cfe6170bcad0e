-- What a book of the exchange's messages answers. Assumes nothing.
use Rattle.std.specs.Prelude.{◌≡◌, ℕ, ◌⊎◌, List, All, Any, map, replicate, Ok, Err, Result}
use Rattle.model.specs.Exact.{exact}
use Rattle.model.specs.Foretold.{Foretold}
use Rattle.model.specs.Listed.{RefusedList}
use Rattle.model.specs.Wholes.{rules_of}
use Rattle.model.specs.declared.refusal.Refusal.{Refusal}
use Rattle.model.specs.declared.row.Row.{Row}
use Rattle.model.specs.declared.sense.Sense.TheVariants.{Can}
use Rattle.model.specs.declared.shape.Shape.{Shape}
use Rattle.exchange.specs.Messages.{values_of}
use Rattle.exchange.specs.Rules.{rule_of}
use Rattle.exchange.specs.declared.messages.TheConstants.{STATES, DISCARDED}
use Rattle.exchange.specs.declared.forecasts.Forecast.{Forecast}
use Rattle.exchange.specs.declared.messages.State.{State}
use Rattle.exchange.specs.declared.rule.Rule.{Rule}

module _ (s : Shape) (rows : List Row) where
  -- every optimal rule for a discard
  abbrev pub rules_for_discard : List Rule
  rules_for_discard = map rule_of (rules_of exact s rows DISCARDED Can)

  -- why they are not listed: the refusal of a listing into 64 bytes
  abbrev pub NotListed : Refusal → Type 0
  NotListed e = RefusedList exact s rows DISCARDED (rules_of exact s rows DISCARDED Can) (replicate 64 0) e

  -- what a book answers when it is asked for the forecast of a discard at a state
  pub record ForetoldAt (state : State) (r : Result (ℕ × ℕ × ℕ) Refusal) : Type 0 where
    pub told : Foretold exact s rows DISCARDED (values_of state) r

  -- the forecast of a discard at its state
  abbrev pub IsForecast : Forecast → Type 0
  IsForecast f = ForetoldAt f.state (Ok (f.pro, f.contra, f.percentage))

  -- the forecasts of a discard, at each of these states in turn
  pub record AreForecasts (states : List State) (fs : List Forecast) : Type 0 where
    pub at : map (λ f. f.state) fs ≡ states
    pub told : All IsForecast fs

  -- why there are no forecasts: the refusal of a forecast at one of the states
  abbrev pub NotForetold : Refusal → Type 0
  NotForetold e = Any (λ state. ForetoldAt state (Err e)) STATES

  -- why a book answers nothing
  abbrev pub NotAnswered : Refusal → Type 0
  NotAnswered e = NotListed e ⊎ NotForetold e
