-- What forecasts tell of the states that were noted, as a statement. Assumes nothing.
use Rattle.std.specs.Prelude.{◌≡◌, ℕ, cond, ◌⊎◌, List, [], ◌∷◌, length, take, drop, Result, MatchResult}
use Rattle.std.specs.List.{flat_map}
use Rattle.model.specs.Foretold.{Foretold}
use Rattle.model.specs.Heads.{KnownHead}
use Rattle.model.specs.Kinds.{Meaning}
use Rattle.model.specs.Limits.{Listable}
use Rattle.model.specs.Observations.{Observation}
use Rattle.model.specs.Optimal.{Shown, ShownWith}
use Rattle.model.specs.Shapes.{features}
use Rattle.model.specs.declared.head.Head.{Head}
use Rattle.model.specs.declared.refusal.Refusal.{Refusal}
use Rattle.model.specs.declared.row.Row.{Row}
use Rattle.model.specs.declared.shape.Shape.{Shape}
use Rattle.runs.specs.Runs.{granted}
use Rattle.runs.specs.declared.entry.Entry.{Entry}
use Rattle.runs.specs.declared.entry.Entry.TheVariants.{Note, List as Listing, Forecast}

-- the state and the outcome of a note whose answer is no refusal
abbrev pub accepted : Shape → Entry → List Observation
accepted s (Note class day cells answer) =
    cond (granted answer) (record { state = take (length (features s)) cells.now; outcome = drop (length (features s)) cells.now } ∷ []) []
accepted s (Listing head sense answer) = []
accepted s (Forecast head state answer) = []

-- the percentage is 100, and some of these observations has the state and the head; or it is 0, and none has
abbrev pub Tells : List Observation → Head → List ℕ → ℕ → Type 0
Tells os h st percentage = ((percentage ≡ 100) × ShownWith os h.target h.value st) ⊎ ((percentage ≡ 0) × (ShownWith os h.target h.value st → ⊥))

-- From an empty log, under a shape that can be listed: at the state of each accepted note, a forecast of a head is not
-- refused, and its percentage is 100 exactly when some accepted note has that state and that head, and 0 otherwise.
abbrev pub NotedStatesTold : Meaning → Shape → List Row → List Entry → List Row → Type 0
NotedStatesTold m s before es after =
    before ≡ [] → Listable m (features s) → (st : List ℕ) → Shown (flat_map (accepted s) es) st → (h : Head) → KnownHead s h
    → (r : Result (ℕ × ℕ × ℕ) Refusal) → Foretold m s after h st r → MatchResult r (λ answer. Tells (flat_map (accepted s) es) h st answer.2) (λ _. ⊥)
