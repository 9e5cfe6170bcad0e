-- When two books answer a question alike. Assumes nothing.
use Rattle.std.specs.Prelude.{◌≡◌, ℕ, ◌*◌, List, length, take, Ok, Result}
use Rattle.model.specs.Foretold.{Foretold}
use Rattle.model.specs.Kinds.{Meaning}
use Rattle.model.specs.Wholes.{ListedWhole}
use Rattle.model.specs.declared.head.Head.{Head}
use Rattle.model.specs.declared.refusal.Refusal.{Refusal}
use Rattle.model.specs.declared.row.Row.{Row}
use Rattle.model.specs.declared.sense.Sense.{Sense}
use Rattle.model.specs.declared.shape.Shape.{Shape}

-- two listings came to the same: the same number of rules or the same refusal, and the same rules in rule memory
abbrev pub SameListing : Result ℕ Refusal → Result ℕ Refusal → List ℕ → List ℕ → Type 0
SameListing r r' after after' = (r ≡ r') × ((n : ℕ) → r ≡ Ok n → take (8 * n) after ≡ take (8 * n) after')

-- a listing from rows took rule memory from before to after
abbrev pub Lists : Meaning → Shape → List Row → Head → Sense → List ℕ → List ℕ → Type 0
Lists m s rows h sense before after = (r : Result ℕ Refusal) × ListedWhole m s rows h sense before after r

module _ (m : Meaning) (s s' : Shape) (rows rows' : List Row) where
  -- a head and a sense: whatever stands in rule memory before, the two listings come to the same
  abbrev pub AlikeListing : Head → Sense → ℕ → ℕ → Type 0
  AlikeListing h sense room room' =
      (before before' after after' : List ℕ) (r r' : Result ℕ Refusal)
      → length before ≡ room → length before' ≡ room'
      → ListedWhole m s rows h sense before after r → ListedWhole m s' rows' h sense before' after' r'
      → SameListing r r' after after'

  -- a head and a state: the two forecasts are the same
  abbrev pub AlikeForecast : Head → List ℕ → Type 0
  AlikeForecast h state = (r r' : Result (ℕ × ℕ × ℕ) Refusal) → Foretold m s rows h state r → Foretold m s' rows' h state r' → r ≡ r'
