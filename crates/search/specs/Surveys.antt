-- A survey: the different states shown, each with whether it came with the head. Assumes nothing.
use Rattle.std.specs.Prelude.{◌≡◌, ℕ, ◌+◌, ◌<◌, Bool, cond, not, ◌||◌, List, [], ◌∷◌, length, take, fold, ◌==◌, ◌≢◌, slice_index, slice_index_or}
use Rattle.std.specs.Str.{bytes_eq}
use Rattle.model.specs.Memory.{place}
use Rattle.model.specs.Shapes.{features}
use Rattle.model.specs.declared.row.Row.{Row}
use Rattle.model.specs.declared.sense.Sense.{Sense}
use Rattle.model.specs.declared.sense.Sense.TheVariants.{Can, Cannot}
use Rattle.model.specs.declared.shape.Shape.{Shape}
use Rattle.search.specs.declared.survey.Seen.{Seen}

-- a state that was shown is against the head
abbrev pub against : Sense → Seen → Bool
against Can s = not s.with_head
against Cannot s = s.with_head

-- a state is none of the first n that were seen
abbrev pub Unseen : List Seen → List ℕ → ℕ → Type 0
Unseen seen v n = (k : ℕ) (d : Seen) → k < n → (slice_index_or seen k d).state ≢ v

-- a state was first seen at place i
pub record SeenAt (seen : List Seen) (v : List ℕ) (i : ℕ) : Type 0 where
  pub within : i < length seen
  pub here : (d : Seen) → (slice_index_or seen i d).state ≡ v
  pub before : Unseen seen v i

-- one more row: its state is seen, and seen with the head if it was before or the row has the head's value
abbrev pub marked : List Seen → List ℕ → Bool → List Seen
marked [] v w = record { state = v; with_head = w } ∷ []
marked (s ∷ ss) v w = cond (bytes_eq s.state v) (record { state = s.state; with_head = s.with_head || w } ∷ ss) (s ∷ marked ss v w)

-- the different states of some rows, in the order of their first rows
abbrev pub surveyed : Shape → ℕ → ℕ → List Row → List Seen
surveyed s target value rows = fold (λ seen r. marked seen (place (take (length (features s)) r.cells)) (slice_index r.cells (8 + target) == value)) [] rows
