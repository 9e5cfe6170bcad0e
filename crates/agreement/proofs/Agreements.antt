-- Rows that give the same answers: the same rows, and lawful rows with the same observations. Assumes nothing.
use Rattle.std.proofs.Common.{◌≡◌, ℕ, List, refl}
use Rattle.std.specs.List.{AllByRecursion}
use Rattle.model.specs.Kinds.{Meaning}
use Rattle.model.specs.Wholes.{rules_of}
use Rattle.model.specs.Observations.{observations}
use Rattle.model.specs.Sets.{SameSet}
use Rattle.model.specs.Shapes.{features}
use Rattle.model.specs.Strays.{LawfulRow, FirstStray}
use Rattle.model.specs.Weights.{forecast}
use Rattle.model.specs.declared.head.Head.{Head}
use Rattle.model.specs.declared.refusal.Stray.{Stray}
use Rattle.model.specs.declared.row.Row.{Row}
use Rattle.model.specs.declared.sense.Sense.{Sense}
use Rattle.model.specs.declared.shape.Shape.{Shape}
use Rattle.model.proofs.Sets.{listing_same, forecast_same}
use Rattle.agreement.proofs.Strays.{no_stray, same_stray}

-- all that an answer depends on is the same
pub record SameAnswers (m : Meaning) (s : Shape) (rows rows' : List Row) : Type 0 where
  pub rules : (h : Head) (sense : Sense) → rules_of m s rows h sense ≡ rules_of m s rows' h sense
  pub weights : (h : Head) (state : List ℕ) → forecast m (features s) (observations s rows) h.target h.value state ≡ forecast m (features s) (observations s rows') h.target h.value state
  pub onward : AllByRecursion (LawfulRow s) rows → AllByRecursion (LawfulRow s) rows'
  pub back : AllByRecursion (LawfulRow s) rows' → AllByRecursion (LawfulRow s) rows
  pub strays : (f g : Stray) → FirstStray s rows f → FirstStray s rows' g → f ≡ g

module _ (m : Meaning) (s : Shape) (rows : List Row) where
  pub answers_itself : SameAnswers m s rows rows
  answers_itself =
      record {
        rules = λ h sense. refl;
        weights = λ h state. refl;
        onward = λ lawful. lawful;
        back = λ lawful. lawful;
        strays = same_stray s rows;
      }

  pub answers_set : (rows' : List Row) → AllByRecursion (LawfulRow s) rows → AllByRecursion (LawfulRow s) rows' → SameSet (observations s rows) (observations s rows') → SameAnswers m s rows rows'
  answers_set rows' lawful lawful' same =
      record {
        rules = λ h sense. listing_same m (features s) (observations s rows) (observations s rows') same h.target h.value sense;
        weights = λ h state. forecast_same m (features s) (observations s rows) (observations s rows') same h.target h.value state;
        onward = λ _. lawful';
        back = λ _. lawful;
        strays = λ f g first _. absurd (no_stray s rows f first lawful);
      }
