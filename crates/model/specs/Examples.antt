-- Worked examples, as one table of what the definitions give. Assumes nothing.
use Rattle.std.specs.Prelude.{◌≡◌, ℕ, Bool, true, false, List, [], ◌∷◌, ◌++◌, map, replicate}
use Rattle.model.specs.Band.{band}
use Rattle.model.specs.Exact.{exact}
use Rattle.model.specs.Kinds.{Meaning}
use Rattle.model.specs.Listings.{listing}
use Rattle.model.specs.Observations.{Observation}
use Rattle.model.specs.Retention.{shown_by}
use Rattle.model.specs.Weights.{forecast}
use Rattle.model.specs.declared.sense.Sense.{Sense}
use Rattle.model.specs.declared.sense.Sense.TheVariants.{Can, Cannot}

-- a state, and the value that its one target had
abbrev pub saw : List ℕ → ℕ → Observation
saw s v = record { state = s; outcome = v ∷ [] }

-- two features of size 2
abbrev pub two_features : List Observation
two_features = saw (0 ∷ 0 ∷ []) 0 ∷ saw (1 ∷ 0 ∷ []) 0 ∷ saw (1 ∷ 1 ∷ []) 1 ∷ []

-- every state of them, always 0
abbrev pub never_one : List Observation
never_one = saw (0 ∷ 0 ∷ []) 0 ∷ saw (0 ∷ 1 ∷ []) 0 ∷ saw (1 ∷ 0 ∷ []) 0 ∷ saw (1 ∷ 1 ∷ []) 0 ∷ []

-- one feature of size 3, with an upper range of ones
abbrev pub upper : List Observation
upper = saw (0 ∷ []) 0 ∷ saw (1 ∷ []) 1 ∷ saw (2 ∷ []) 1 ∷ []

-- and with ones at its two ends
abbrev pub outer : List Observation
outer = saw (0 ∷ []) 1 ∷ saw (1 ∷ []) 0 ∷ saw (2 ∷ []) 1 ∷ []

-- the rules of a head of target 0
pub record ListingExample : Type 0 where
  pub kind : Meaning
  pub sizes : List ℕ
  pub seen : List Observation
  pub value : ℕ
  pub sense : Sense
  pub rules : List (List ℕ)

-- each with its rules
abbrev pub listings : List ListingExample
listings =
    record { kind = exact; sizes = 2 ∷ 2 ∷ []; seen = []; value = 1; sense = Can; rules = (0 ∷ 0 ∷ []) ∷ [] }
    ∷ record { kind = exact; sizes = 2 ∷ 2 ∷ []; seen = []; value = 1; sense = Cannot; rules = (0 ∷ 0 ∷ []) ∷ [] }
    ∷ record { kind = exact; sizes = 2 ∷ 2 ∷ []; seen = two_features; value = 1; sense = Can; rules = (0 ∷ 2 ∷ []) ∷ [] }
    ∷ record { kind = exact; sizes = 2 ∷ 2 ∷ []; seen = two_features; value = 1; sense = Cannot; rules = (0 ∷ 1 ∷ []) ∷ (1 ∷ 0 ∷ []) ∷ [] }
    ∷ record { kind = exact; sizes = 2 ∷ 2 ∷ []; seen = two_features; value = 0; sense = Can; rules = (0 ∷ 1 ∷ []) ∷ (1 ∷ 0 ∷ []) ∷ [] }
    ∷ record { kind = exact; sizes = 2 ∷ 2 ∷ []; seen = two_features ++ saw (1 ∷ 1 ∷ []) 0 ∷ []; value = 0; sense = Can; rules = (0 ∷ 0 ∷ []) ∷ [] }
    ∷ record { kind = exact; sizes = 2 ∷ 2 ∷ []; seen = never_one; value = 1; sense = Can; rules = [] }
    ∷ record { kind = exact; sizes = 3 ∷ []; seen = upper; value = 1; sense = Can; rules = (2 ∷ []) ∷ (3 ∷ []) ∷ [] }
    ∷ record { kind = band; sizes = 3 ∷ []; seen = upper; value = 1; sense = Can; rules = (2 ∷ []) ∷ [] }
    ∷ record { kind = band; sizes = 3 ∷ []; seen = outer; value = 1; sense = Can; rules = (3 ∷ []) ∷ (5 ∷ []) ∷ [] }
    ∷ []

-- the forecast of value 1 of target 0 by the exact kind, for two features of size 2
pub record ForecastExample : Type 0 where
  pub seen : List Observation
  pub state : List ℕ
  pub answer : ℕ × ℕ × ℕ

-- each with its answer
abbrev pub forecasts : List ForecastExample
forecasts =
    record { seen = []; state = 0 ∷ 0 ∷ []; answer = (0, 0, 50) }
    ∷ record { seen = two_features; state = 1 ∷ 0 ∷ []; answer = (0, 2, 0) }
    ∷ record { seen = two_features; state = 0 ∷ 1 ∷ []; answer = (1, 1, 50) }
    ∷ []

-- a row of class 3 and day 110, kept for 90 days
abbrev pub kept_row : ℕ → Bool
kept_row today = shown_by (0 ∷ 0 ∷ 90 ∷ []) today (record { class = 3; day = 110; cells = replicate 12 0 })

-- the definitions give the tables
pub record ExamplesStand : Type 0 where
  pub listed : map (λ e. listing e.kind e.sizes e.seen 0 e.value e.sense) listings ≡ map (λ e. e.rules) listings
  pub told : map (λ e. forecast exact (2 ∷ 2 ∷ []) e.seen 0 1 e.state) forecasts ≡ map (λ e. e.answer) forecasts
  pub kept : kept_row 199 ≡ true
  pub dropped : kept_row 200 ≡ false
