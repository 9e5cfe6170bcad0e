-- The rules that a search finds for a shape and the rows of a log. Assumes nothing.
use Rattle.std.specs.Prelude.{ℕ, List, None, filter, Option}
use Rattle.model.specs.Bodies.{bodies}
use Rattle.model.specs.Kinds.{Meaning}
use Rattle.model.specs.Shapes.{features}
use Rattle.model.specs.declared.head.Head.{Head}
use Rattle.model.specs.declared.row.Row.{Row}
use Rattle.model.specs.declared.sense.Sense.{Sense}
use Rattle.model.specs.declared.shape.Shape.{Shape}
use Rattle.search.specs.Opposing.{best, states_against}
use Rattle.search.specs.Surveys.{surveyed}
use Rattle.search.specs.Weights.{heaviest}

module _ (m : Meaning) (s : Shape) (rows : List Row) (h : Head) (sense : Sense) where
  -- every rule that is consistent and cannot be weakened, in rising order
  abbrev pub found : List (List ℕ)
  found = filter (best m (features s) (states_against sense (surveyed s h.target h.value rows))) (bodies m (features s))

  -- the largest weight among those that match a state
  abbrev pub best_matching : List ℕ → Option ℕ
  best_matching state = heaviest m (features s) sense (surveyed s h.target h.value rows) state None found
