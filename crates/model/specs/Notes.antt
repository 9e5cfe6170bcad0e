-- What noting an observation answers, and what it leaves in the log. Assumes nothing.
use Rattle.std.specs.Prelude.{◌≡◌, ℕ, ◌≤◌, Bool, ◌⊎◌, List, [], ◌∷◌, ◌++◌, length, take, drop, Ok, Err, Result, MatchResult}
use Rattle.model.specs.Appending.{verdict}
use Rattle.model.specs.Memory.{place}
use Rattle.model.specs.Shapes.{features, targets}
use Rattle.model.specs.Values.{Fitting}
use Rattle.model.specs.declared.refusal.Refusal.{Refusal}
use Rattle.model.specs.declared.refusal.Refusal.TheVariants.{Observation}
use Rattle.model.specs.declared.row.Row.{Row}
use Rattle.model.specs.declared.shape.Shape.{Shape}

module _ (s : Shape) (class day : ℕ) (cells : List ℕ) where
  -- an observation that may be noted: class 1 to 3, and a state and an outcome of the shape
  abbrev pub Notable : Type 0
  Notable = (1 ≤ class) × (class ≤ 3) × Fitting (features s) (take (length (features s)) cells) × Fitting (targets s) (drop (length (features s)) cells)

  -- its row: features from cell 0 on, targets from cell 8 on, and 0 beyond the shape
  abbrev pub noted_row : Row
  noted_row = record { class = class; day = day; cells = place (take (length (features s)) cells) ++ take 4 (place (drop (length (features s)) cells)) }

  -- why it is refused: it may not be noted, or the intake does not take its row
  abbrev pub RefusedNote : Bool → ℕ → Refusal → Type 0
  RefusedNote admitted free e = ((e ≡ Observation) × (Notable → ⊥)) ⊎ (Notable × (verdict admitted free ≡ Err e))

  -- its row is appended, and the answer is the number of rows then shown; or the rows are as they were
  abbrev pub Noted : Bool → ℕ → List Row → List Row → Result ℕ Refusal → Type 0
  Noted admitted free before after r =
      MatchResult r
      (λ n. Notable × (verdict admitted free ≡ Ok tt) × (after ≡ before ++ noted_row ∷ []) × (n ≡ length after))
      (λ e. (after ≡ before) × RefusedNote admitted free e)
