-- What a forecast from the observations of a log's rows answers. Assumes nothing.
use Rattle.std.specs.Prelude.{ℕ, List, Option, Result}
use Rattle.model.specs.Forecasts.{Forecasted}
use Rattle.model.specs.Kinds.{Meaning}
use Rattle.model.specs.Observations.{observations}
use Rattle.model.specs.Shapes.{features}
use Rattle.model.specs.Weights.{best_weight}
use Rattle.model.specs.declared.head.Head.{Head}
use Rattle.model.specs.declared.refusal.Refusal.{Refusal}
use Rattle.model.specs.declared.row.Row.{Row}
use Rattle.model.specs.declared.sense.Sense.{Sense}
use Rattle.model.specs.declared.sense.Sense.TheVariants.{Can, Cannot}
use Rattle.model.specs.declared.shape.Shape.{Shape}

module _ (m : Meaning) (s : Shape) (rows : List Row) (h : Head) (state : List ℕ) where
  -- the best matching weight of a sense, by the observations of the rows
  abbrev pub weight_of : Sense → Option ℕ
  weight_of sense = best_weight m (features s) (observations s rows) h.target h.value sense state

  -- the forecast from those weights, or a refusal
  abbrev pub Foretold : Result (ℕ × ℕ × ℕ) Refusal → Type 0
  Foretold r = Forecasted m s rows h state (weight_of Can) (weight_of Cannot) r
