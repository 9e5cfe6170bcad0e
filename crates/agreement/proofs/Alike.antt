-- Two books that were asked tell whether they answer alike; over the same set of observations they do. Assumes nothing.
use Rattle.std.proofs.Common.{◌≡◌, ℕ, Bool, List, length, Decides, Result, sym, refl, ◌∙◌}
use Rattle.std.specs.List.{AllByRecursion}
use Rattle.model.specs.Foretold.{Foretold}
use Rattle.model.specs.Kinds.{Meaning}
use Rattle.model.specs.Wholes.{ListedWhole}
use Rattle.model.specs.Observations.{observations}
use Rattle.model.specs.Sets.{SameSet}
use Rattle.model.specs.Strays.{LawfulRow}
use Rattle.model.specs.declared.head.Head.{Head}
use Rattle.model.specs.declared.refusal.Refusal.{Refusal}
use Rattle.model.specs.declared.row.Row.{Row}
use Rattle.model.specs.declared.sense.Sense.{Sense}
use Rattle.model.specs.declared.shape.Shape.{Shape}
use Rattle.agreement.specs.Alike.{SameListing, AlikeListing, AlikeForecast}
use Rattle.agreement.proofs.Agreements.{answers_itself, answers_set}
use Rattle.agreement.proofs.Forecasts.{forecasted_same}
use Rattle.agreement.proofs.Listings.{listed_same}

module _ (m : Meaning) (s s' : Shape) (rows rows' : List Row) (h : Head) (sense : Sense) where
  pub decides_listing : (before before' after after' : List ℕ) (r r' : Result ℕ Refusal) (b : Bool) → ListedWhole m s rows h sense before after r → ListedWhole m s' rows' h sense before' after' r' → Decides b (SameListing r r' after after') → Decides b (AlikeListing m s s' rows rows' h sense (length before) (length before'))
  decides_listing before before' after after' r r' b l l' d = (
    λ told start start' end end' q q' long long' k k'.
        let found = d.0 told in
        let one = listed_same m s h sense rows rows (answers_itself m s rows) before start (sym long) after end r q l k in
        let other = listed_same m s' h sense rows' rows' (answers_itself m s' rows') before' start' (sym long') after' end' r' q' l' k' in (
          sym one.0 ∙ found.0 ∙ other.0,
          λ n at. sym (one.1 n (one.0 ∙ at)) ∙ found.1 n (one.0 ∙ at) ∙ other.1 n (sym found.0 ∙ one.0 ∙ at),
        ),
    λ alike. d.1 (alike before before' after after' r r' refl refl l l'),
  )

  pub listings_alike : (room room' : ℕ) → s ≡ s' → room ≡ room' → AllByRecursion (LawfulRow s) rows → AllByRecursion (LawfulRow s') rows' → SameSet (observations s rows) (observations s' rows') → AlikeListing m s s' rows rows' h sense room room'
  listings_alike room room' one rooms lawful lawful' set before before' after after' r r' long long' =
      let same = answers_set m s rows rows' lawful (rw (← one) at lawful') (rw (← one) at set) in
      rw (← one) (listed_same m s h sense rows rows' same before before' (long ∙ rooms ∙ sym long') after after' r r')

module _ (m : Meaning) (s s' : Shape) (rows rows' : List Row) (h : Head) (state : List ℕ) where
  pub decides_forecast : (r r' : Result (ℕ × ℕ × ℕ) Refusal) (b : Bool) → Foretold m s rows h state r → Foretold m s' rows' h state r' → Decides b (r ≡ r') → Decides b (AlikeForecast m s s' rows rows' h state)
  decides_forecast r r' b l l' d = (
    λ told q q' k k'.
        sym (forecasted_same m s h state rows rows (answers_itself m s rows) r q l k)
        ∙ d.0 told
        ∙ forecasted_same m s' h state rows' rows' (answers_itself m s' rows') r' q' l' k',
    λ alike. d.1 (alike r r' l l'),
  )

  pub forecasts_alike : s ≡ s' → AllByRecursion (LawfulRow s) rows → AllByRecursion (LawfulRow s') rows' → SameSet (observations s rows) (observations s' rows') → AlikeForecast m s s' rows rows' h state
  forecasts_alike one lawful lawful' set =
      let same = answers_set m s rows rows' lawful (rw (← one) at lawful') (rw (← one) at set) in
      rw (← one) (forecasted_same m s h state rows rows' same)
