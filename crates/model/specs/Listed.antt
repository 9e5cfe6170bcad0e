-- What a listing answers, and what it leaves in rule memory. Assumes nothing.
use Rattle.std.specs.Prelude.{◌≡◌, ℕ, ◌*◌, ◌<◌, ◌≤◌, List, length, Result, MatchResult}
use Rattle.std.specs.List.{AllByRecursion}
use Rattle.model.specs.Heads.{KnownHead}
use Rattle.model.specs.Kinds.{Meaning}
use Rattle.model.specs.Limits.{Listable}
use Rattle.model.specs.Memory.{filled}
use Rattle.model.specs.Shapes.{features}
use Rattle.model.specs.Strays.{LawfulRow, FirstStray}
use Rattle.model.specs.declared.head.Head.{Head}
use Rattle.model.specs.declared.refusal.Refusal.{Refusal}
use Rattle.model.specs.declared.refusal.Refusal.TheVariants.{Shape as refused_shape, Image, Observation, NotAdmitted, Full, Head as refused_head, Bodies, Stray, Rules, State, Line, Output}
use Rattle.model.specs.declared.row.Row.{Row}
use Rattle.model.specs.declared.shape.Shape.{Shape}

module _ (m : Meaning) (s : Shape) (rows : List Row) (h : Head) where
  -- why a listing of these rules is refused: the checks in their order, each after those before it passed
  abbrev pub RefusedList : List (List ℕ) → List ℕ → Refusal → Type 0
  RefusedList rules memory refused_head = KnownHead s h → ⊥
  RefusedList rules memory Bodies = KnownHead s h × (Listable m (features s) → ⊥)
  RefusedList rules memory (Stray f) = KnownHead s h × Listable m (features s) × FirstStray s rows f
  RefusedList rules memory (Rules n) = KnownHead s h × Listable m (features s) × AllByRecursion (LawfulRow s) rows × (n ≡ length rules) × (length memory < 8 * length rules)
  RefusedList rules memory refused_shape = ⊥
  RefusedList rules memory Image = ⊥
  RefusedList rules memory Observation = ⊥
  RefusedList rules memory NotAdmitted = ⊥
  RefusedList rules memory Full = ⊥
  RefusedList rules memory State = ⊥
  RefusedList rules memory Line = ⊥
  RefusedList rules memory (Output written lines) = ⊥

  -- the rules are in memory, and their number is the answer; or memory is as it was, and the refusal says why
  abbrev pub Listed : List (List ℕ) → List ℕ → List ℕ → Result ℕ Refusal → Type 0
  Listed rules before after r =
      MatchResult r
      (λ n. KnownHead s h × Listable m (features s) × AllByRecursion (LawfulRow s) rows × (n ≡ length rules) × (8 * length rules ≤ length before) × (after ≡ filled rules before))
      (λ e. (after ≡ before) × RefusedList rules before e)
