-- Entries one after another: a step of the questions, and the law over them all. Assumes nothing.
use Rattle.std.proofs.Common.{◌≡◌, ℕ, ◌+◌, ◌<◌, true, List, [], ◌∷◌, ◌++◌, map, length, get_or, take, set, refl, ◌∙◌}
use Rattle.std.specs.List.{AllByRecursion}
use Rattle.std.proofs.ByRecursion.{All-push, All-weaker}
use Rattle.std.proofs.Math.Seq.{map-set_same}
use Rattle.std.proofs.lemmas.List.{take_more_set}
use Rattle.book.specs.Keeps.{Keeps}
use Rattle.book.specs.declared.book.Book.{Book}
use Rattle.model.specs.Kinds.{Meaning}
use Rattle.model.specs.Observations.{observations}
use Rattle.model.specs.Sets.{SameSet}
use Rattle.model.specs.Strays.{LawfulRow}
use Rattle.model.specs.declared.row.Row.{Row}
use Rattle.model.specs.declared.shape.Shape.{Shape}
use Rattle.agreement.specs.Asking.{question_of, alike_of, Leaves, Leave, Right, Law}
use Rattle.agreement.specs.declared.questions.Asked.{Asked}
use Rattle.agreement.specs.declared.questions.Asked.TheVariants.{List as listing, Forecast as forecast}
use Rattle.agreement.proofs.Alike.{listings_alike, forecasts_alike}

leave_push : (m : Meaning) (s : Shape) (rows : List Row) (qs : List Asked) (q : Asked) (before between after : List ℕ) → Leave m s rows qs before between → Leaves m s rows q between after → Leave m s rows (qs ++ q ∷ []) before after
leave_push m s rows [] q before between after so_far last = (after, rw so_far at last, refl)
leave_push m s rows (p ∷ qs) q before between after so_far last = (so_far.0, so_far.1, leave_push m s rows qs q so_far.0 between after so_far.2 last)

-- a book after some questions: the book and its rule memory as they are, and as they were
pub record Side {K L : Type 0} (m : Meaning) (rows : L → List Row) (book book₀ : Book K L) (asked : List Asked) (memory memory₀ : List ℕ) : Type 0 where
  pub kept : Keeps book₀ book
  pub room : length memory ≡ length memory₀
  pub leave : Leave m book₀.shape (rows book₀.log) asked memory₀ memory

-- one more question
side_more : {K L : Type 0} {m : Meaning} {rows : L → List Row} {book book' book₀ : Book K L} {asked : List Asked} {memory memory₀ : List ℕ} (memory' : List ℕ) (q : Asked)
    → Side m rows book book₀ asked memory memory₀ → Keeps book book' → length memory' ≡ length memory → Leaves m book.shape (rows book.log) q memory memory'
    → Side m rows book' book₀ (asked ++ q ∷ []) memory' memory₀
side_more {m = m} {rows = rows} {book₀ = book₀} {asked = asked} {memory = memory} {memory₀ = memory₀} memory' q so_far kept room leaves = record {
  kept = record { shape = kept.shape ∙ so_far.kept.shape; log = kept.log ∙ so_far.kept.log };
  room = room ∙ so_far.room;
  leave = leave_push m book₀.shape (rows book₀.log) asked q memory₀ memory memory' so_far.leave (rw (so_far.kept.shape, so_far.kept.log) at leaves);
}

-- two books after the first i questions, and the entries as they are and as they were
pub record Compared {K L M : Type 0} (m : Meaning) (rows : L → List Row) (rows' : M → List Row) (first first₀ : Book K L) (second second₀ : Book K M) (asked asked₀ : List Asked) (i : ℕ) (left left₀ right right₀ : List ℕ) : Type 0 where
  pub one : Side m rows first first₀ (take i asked) left left₀
  pub other : Side m rows' second second₀ (take i asked) right right₀
  pub questions : map question_of asked ≡ map question_of asked₀
  pub alike : AllByRecursion (Right m first₀.shape second₀.shape (rows first₀.log) (rows' second₀.log) (length left₀) (length right₀)) (take i asked)

module _ {K L M : Type 0} {m : Meaning} {rows : L → List Row} {rows' : M → List Row} {first first₀ : Book K L} {second second₀ : Book K M} {asked asked₀ : List Asked} {i : ℕ} {left left₀ right right₀ : List ℕ}
    (so_far : Compared m rows rows' first first₀ second second₀ asked asked₀ i left left₀ right right₀) where
  -- one more question
  pub compared_more : {first' : Book K L} {second' : Book K M} {left' right' : List ℕ} (q d : Asked) → i < length asked
      → Keeps first first' → Keeps second second' → length left' ≡ length left → length right' ≡ length right → question_of q ≡ question_of (get_or asked i d)
      → Leaves m first.shape (rows first.log) q left left' → Leaves m second.shape (rows' second.log) q right right'
      → Right m first.shape second.shape (rows first.log) (rows' second.log) (length left) (length right) q
      → Compared m rows rows' first' first₀ second' second₀ (set asked i q) asked₀ (i + 1) left' left₀ right' right₀
  compared_more {left'} {right'} q d inside kept kept' room room' question leaves leaves' found =
      let one = so_far.one in
      let other = so_far.other in
      let put = take_more_set asked i q inside in
      let right-then = rw (one.kept.shape, one.kept.log, other.kept.shape, other.kept.log, one.room, other.room) at found in
      record {
        one = rw put (side_more left' q one kept room leaves);
        other = rw put (side_more right' q other kept' room' leaves');
        questions = map-set_same question_of asked i q d question ∙ so_far.questions;
        alike = rw put (All-push _ (take i asked) q so_far.alike right-then);
      }

module _ (m : Meaning) (s s' : Shape) (rows rows' : List Row) (room room' : ℕ) where
  -- a right entry over the same set of observations says that the books answered alike
  alike_from_right : s ≡ s' → room ≡ room' → AllByRecursion (LawfulRow s) rows → AllByRecursion (LawfulRow s') rows' → SameSet (observations s rows) (observations s' rows') → (q : Asked) → Right m s s' rows rows' room room' q → alike_of q ≡ true
  alike_from_right one rooms lawful lawful' set (listing h sense alike) d = d.1 (listings_alike m s s' rows rows' h sense room room' one rooms lawful lawful' set)
  alike_from_right one rooms lawful lawful' set (forecast h state alike) d = d.1 (forecasts_alike m s s' rows rows' h state.now one lawful lawful' set)

  pub law_from_right : (asked : List Asked) → AllByRecursion (Right m s s' rows rows' room room') asked → Law m s s' rows rows' room room' asked
  law_from_right asked right one rooms lawful lawful' set =
      All-weaker (Right m s s' rows rows' room room') (λ q. alike_of q ≡ true) (alike_from_right one rooms lawful lawful' set) asked right
