-- Questions put to two books: when an entry is right, what is left in rule memory, and the law of order and repeats. Assumes nothing.
use Rattle.std.specs.Prelude.{◌≡◌, ℕ, Bool, true, false, List, [], ◌∷◌, Decides}
use Rattle.std.specs.List.{AllByRecursion}
use Rattle.model.specs.Kinds.{Meaning}
use Rattle.model.specs.Observations.{observations}
use Rattle.model.specs.Sets.{SameSet}
use Rattle.model.specs.Strays.{LawfulRow}
use Rattle.model.specs.declared.row.Row.{Row}
use Rattle.model.specs.declared.shape.Shape.{Shape}
use Rattle.agreement.specs.Alike.{Lists, AlikeListing, AlikeForecast}
use Rattle.agreement.specs.declared.questions.Asked.{Asked}
use Rattle.agreement.specs.declared.questions.Asked.TheVariants.{List as listing, Forecast as forecast}

-- the question of an entry, whatever was found
abbrev pub question_of : Asked → Asked
question_of (listing h sense alike) = listing h sense false
question_of (forecast h state alike) = forecast h state false

-- what was found
abbrev pub alike_of : Asked → Bool
alike_of (listing h sense alike) = alike
alike_of (forecast h state alike) = alike

module _ (m : Meaning) (s : Shape) (rows : List Row) where
  -- what a question leaves in a book's rule memory: a listing answers there, a forecast leaves it
  abbrev pub Leaves : Asked → List ℕ → List ℕ → Type 0
  Leaves (listing h sense alike) before after = Lists m s rows h sense before after
  Leaves (forecast h state alike) before after = after ≡ before

  -- one question after another
  abbrev pub Leave : List Asked → List ℕ → List ℕ → Type 0
  Leave [] before after = after ≡ before
  Leave (q ∷ qs) before after = (between : List ℕ) × Leaves q before between × Leave qs between after

module _ (m : Meaning) (s s' : Shape) (rows rows' : List Row) (room room' : ℕ) where
  -- an entry is right: it says whether the two books answer its question alike
  abbrev pub Right : Asked → Type 0
  Right (listing h sense alike) = Decides alike (AlikeListing m s s' rows rows' h sense room room')
  Right (forecast h state alike) = Decides alike (AlikeForecast m s s' rows rows' h state.now)

  -- order and repeats do not matter: over lawful rows that show the same set of observations, every question is answered alike
  abbrev pub Law : List Asked → Type 0
  Law asked =
      s ≡ s' → room ≡ room' → AllByRecursion (LawfulRow s) rows → AllByRecursion (LawfulRow s') rows'
      → SameSet (observations s rows) (observations s' rows')
      → AllByRecursion (λ q. alike_of q ≡ true) asked
