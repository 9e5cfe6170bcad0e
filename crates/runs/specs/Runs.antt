-- A run of calls on a book: what each call answers, and which rows are taken in. Assumes nothing.
use Rattle.std.specs.Prelude.{◌≡◌, ℕ, ◌-◌, Bool, false, cond, List, [], ◌∷◌, ◌++◌, length, is_ok, Some, None, Option, Result, MatchOption}
use Rattle.model.specs.Foretold.{Foretold}
use Rattle.model.specs.Kinds.{Meaning}
use Rattle.model.specs.Wholes.{ListedWhole, Whole}
use Rattle.model.specs.Notes.{noted_row, Noted}
use Rattle.model.specs.declared.refusal.Refusal.{Refusal}
use Rattle.model.specs.declared.row.Row.{Row}
use Rattle.model.specs.declared.shape.Shape.{Shape}
use Rattle.runs.specs.declared.entry.Entry.{Entry}
use Rattle.runs.specs.declared.entry.Entry.TheVariants.{Note, List as Listing, Forecast}

-- the call of an entry, without its answer
abbrev pub call_of : Entry → Entry
call_of (Note class day cells answer) = Note class day cells None
call_of (Listing head sense answer) = Listing head sense None
call_of (Forecast head state answer) = Forecast head state None

-- an answer was given, and it is no refusal
abbrev pub granted : {X : Type 0} → Option (Result X Refusal) → Bool
granted None = false
granted (Some r) = is_ok r

-- the row that a call brought into the log: that of a note that was not refused
abbrev pub taken_in : Shape → Entry → List Row
taken_in s (Note class day cells answer) = cond (granted answer) (noted_row s class day cells.now ∷ []) []
taken_in s (Listing head sense answer) = []
taken_in s (Forecast head state answer) = []

module _ (m : Meaning) (s : Shape) (admits : Row → Bool) where
  -- an entry has the answer that its call gets from a book with these free places and rows; rule memory before and after
  abbrev pub Answered : ℕ → List Row → List ℕ → List ℕ → Entry → Type 0
  Answered free rows before after (Note class day cells answer) =
      MatchOption answer ⊥ (λ r. (after ≡ before) × Noted s class day cells.now (admits (noted_row s class day cells.now)) free rows (rows ++ cond (is_ok r) (noted_row s class day cells.now ∷ []) []) r)
  Answered free rows before after (Listing head sense answer) =
      MatchOption answer ⊥ (λ r. ListedWhole m s rows head sense before after r × Whole m s rows head sense after r)
  Answered free rows before after (Forecast head state answer) =
      MatchOption answer ⊥ (λ r. (after ≡ before) × Foretold m s rows head state.now r)

  -- each entry has its answer, from what those before it left
  abbrev pub Ran : ℕ → List Row → List ℕ → List Entry → List ℕ → Type 0
  Ran free rows before [] after = after ≡ before
  Ran free rows before (e ∷ es) after =
      (between : List ℕ) × Answered free rows before between e × Ran (free - length (taken_in s e)) (rows ++ taken_in s e) between es after
