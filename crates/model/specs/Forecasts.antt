-- What a forecast answers. Assumes nothing.
use Rattle.std.specs.Prelude.{◌≡◌, ℕ, ◌+◌, ◌*◌, ◌/◌, cond, List, Option, Result, MatchResult, ◌==◌}
use Rattle.std.specs.Option.{unwrap_or}
use Rattle.std.specs.List.{AllByRecursion}
use Rattle.model.specs.Heads.{KnownHead}
use Rattle.model.specs.Kinds.{Meaning}
use Rattle.model.specs.Limits.{Listable}
use Rattle.model.specs.Shapes.{features}
use Rattle.model.specs.Strays.{LawfulRow, FirstStray}
use Rattle.model.specs.Values.{Fitting}
use Rattle.model.specs.declared.head.Head.{Head}
use Rattle.model.specs.declared.refusal.Refusal.{Refusal}
use Rattle.model.specs.declared.refusal.Refusal.TheVariants.{Shape as refused_shape, Image, Observation, NotAdmitted, Full, Head as refused_head, Bodies, Stray, Rules, State, Line, Output}
use Rattle.model.specs.declared.row.Row.{Row}
use Rattle.model.specs.declared.shape.Shape.{Shape}

-- the share of the weight that is for the head, in whole percent rounded down; 50 where there is no weight at all
abbrev pub percentage : ℕ → ℕ → ℕ
percentage pro contra = cond (pro + contra == 0) 50 (100 * pro / (pro + contra))

module _ (m : Meaning) (s : Shape) (rows : List Row) (h : Head) (state : List ℕ) where
  -- why a forecast is refused: the checks in their order, each after those before it passed
  abbrev pub RefusedForecast : Refusal → Type 0
  RefusedForecast refused_head = KnownHead s h → ⊥
  RefusedForecast State = KnownHead s h × (Fitting (features s) state → ⊥)
  RefusedForecast Bodies = KnownHead s h × Fitting (features s) state × (Listable m (features s) → ⊥)
  RefusedForecast (Stray f) = KnownHead s h × Fitting (features s) state × Listable m (features s) × FirstStray s rows f
  RefusedForecast refused_shape = ⊥
  RefusedForecast Image = ⊥
  RefusedForecast Observation = ⊥
  RefusedForecast NotAdmitted = ⊥
  RefusedForecast Full = ⊥
  RefusedForecast (Rules n) = ⊥
  RefusedForecast Line = ⊥
  RefusedForecast (Output written lines) = ⊥

  -- for, against and their percentage, from the best matching weights, where none counts as 0; or a refusal
  abbrev pub Forecasted : Option ℕ → Option ℕ → Result (ℕ × ℕ × ℕ) Refusal → Type 0
  Forecasted pro contra r =
      MatchResult r
      (λ answer. KnownHead s h × Fitting (features s) state × Listable m (features s) × AllByRecursion (LawfulRow s) rows
      × (answer ≡ (unwrap_or pro 0, unwrap_or contra 0, percentage (unwrap_or pro 0) (unwrap_or contra 0))))
      RefusedForecast
