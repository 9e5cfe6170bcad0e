-- What a shape sees of the rows of a log. Assumes nothing.
use Rattle.std.specs.Prelude.{ℕ, List, map, length, take, drop}
use Rattle.model.specs.Shapes.{features, targets}
use Rattle.model.specs.declared.row.Row.{Row}
use Rattle.model.specs.declared.shape.Shape.{Shape}

-- a state, one value for each feature, and an outcome, one value for each target
pub record Observation : Type 0 where
  pub state : List ℕ
  pub outcome : List ℕ

-- features stand in cells 0 to 7 and targets in 8 to 11; cells beyond the shape are ignored
abbrev pub observation : Shape → Row → Observation
observation s r = record { state = take (length (features s)) r.cells; outcome = take (length (targets s)) (drop 8 r.cells) }

abbrev pub observations : Shape → List Row → List Observation
observations s rows = map (observation s) rows
