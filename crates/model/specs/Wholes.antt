-- What a listing from the observations of a log's rows answers, and that it is whole. Assumes nothing.
use Rattle.std.specs.Prelude.{◌≡◌, ℕ, List, length, Result, MatchResult}
use Rattle.std.specs.List.{ContainsAt as Has, AllByRecursion}
use Rattle.model.specs.Exactly.{Exactly, Rivals}
use Rattle.model.specs.Kinds.{Meaning}
use Rattle.model.specs.Listed.{Listed}
use Rattle.model.specs.Listings.{listing}
use Rattle.model.specs.Memory.{written}
use Rattle.model.specs.Observations.{observations}
use Rattle.model.specs.Program.{Program, OptimalProgram}
use Rattle.model.specs.Shapes.{features, targets}
use Rattle.model.specs.declared.head.Head.{Head}
use Rattle.model.specs.declared.refusal.Refusal.{Refusal}
use Rattle.model.specs.declared.row.Row.{Row}
use Rattle.model.specs.declared.sense.Sense.{Sense}
use Rattle.model.specs.declared.sense.Sense.TheVariants.{Can}
use Rattle.model.specs.declared.shape.Shape.{Shape}

module _ (m : Meaning) (s : Shape) (rows : List Row) (h : Head) (sense : Sense) where
  -- the listing from the observations of the rows
  abbrev pub rules_of : List (List ℕ)
  rules_of = listing m (features s) (observations s rows) h.target h.value sense

  -- the rules of that listing are in memory, or a refusal
  abbrev pub ListedWhole : List ℕ → List ℕ → Result ℕ Refusal → Type 0
  ListedWhole before after r = Listed m s rows h rules_of before after r

  -- what stands in memory after a listing is whole: exactly the optimal rules, each once and rising; and any set of
  -- consistent rules in which every consistent rule finds a dominating one contains each of them
  abbrev pub Whole : List ℕ → Result ℕ Refusal → Type 0
  Whole after r =
      MatchResult r
      (λ n. Exactly m (features s) (observations s rows) h.target h.value sense (written (length (features s)) n after)
      × ((rivals : List (List ℕ)) → Rivals m (features s) (observations s rows) h.target h.value sense rivals → AllByRecursion (Has rivals) (written (length (features s)) n after)))
      (λ e. Unit {0})

-- the optimal rules in the sense can of each head: a program
abbrev pub program_of : Meaning → Shape → List Row → Program
program_of m s rows target value = listing m (features s) (observations s rows) target value Can

-- after a listing that is not refused: the can rules of all heads together are the optimal program of the observations,
-- and in the sense can the rules that stand in memory are its rules for the head
abbrev pub Programmed : Meaning → Shape → List Row → Head → Sense → List ℕ → Result ℕ Refusal → Type 0
Programmed m s rows h sense after r =
    MatchResult r
    (λ n. OptimalProgram m (features s) (targets s) (observations s rows) (program_of m s rows)
    × (sense ≡ Can → written (length (features s)) n after ≡ program_of m s rows h.target h.value))
    (λ e. Unit {0})
