-- What forecasts tell of the states that a run noted. Assumes nothing.
use Rattle.std.proofs.Common.{◌≡◌, ℕ, ◌-◌, Bool, List, [], ◌∷◌, ◌++◌, map, length, Some, None, Ok, Err, Result, refl, ap, ◌∙◌, subst, inl, inr, MatchResult}
use Rattle.std.specs.List.{flat_map, AllByRecursion}
use Rattle.std.proofs.ByRecursion.{All-append, All-get_or, all-has}
use Rattle.std.proofs.lemmas.List.{map-append}
use Rattle.std.proofs.lemmas.Bool.{cases_Bool, both_ways}
use Rattle.model.specs.Forecasts.{RefusedForecast}
use Rattle.model.specs.Foretold.{Foretold}
use Rattle.model.specs.Heads.{KnownHead}
use Rattle.model.specs.Kinds.{Meaning, Laws}
use Rattle.model.specs.Limits.{Listable}
use Rattle.model.specs.Listings.{shown_with}
use Rattle.model.specs.Observations.{Observation, observation, observations}
use Rattle.model.specs.Optimal.{Shown, ShownWith}
use Rattle.model.specs.Rows.{no_row}
use Rattle.model.specs.Shapes.{features}
use Rattle.model.specs.Strays.{LawfulRow, FirstStray}
use Rattle.model.specs.Values.{Fitting}
use Rattle.model.specs.Weights.{forecast}
use Rattle.model.specs.declared.head.Head.{Head}
use Rattle.model.specs.declared.refusal.Refusal.{Refusal}
use Rattle.model.specs.declared.refusal.Refusal.TheVariants.{Head as refused_head, Bodies, Stray, State}
use Rattle.model.specs.declared.refusal.Stray.{Stray as Fault}
use Rattle.model.specs.declared.row.Row.{Row}
use Rattle.model.specs.declared.shape.Shape.{Shape}
use Rattle.model.proofs.Fits.{taken_features}
use Rattle.model.proofs.Telling.{told}
use Rattle.model.proofs.Ties.{shown_with_decides}
use Rattle.runs.specs.Runs.{taken_in, Answered, Ran}
use Rattle.runs.specs.Told.{accepted, Tells, NotedStatesTold}
use Rattle.runs.specs.declared.entry.Entry.{Entry}
use Rattle.runs.specs.declared.entry.Entry.TheVariants.{Note, List as Listing, Forecast}
use Rattle.runs.proofs.Noted.{observed, lawful_noted}

-- what some rows show is these observations, which fit the sizes, and the rows are lawful
pub record Shows (s : Shape) (rows : List Row) (os : List Observation) : Type 0 where
  pub same : observations s rows ≡ os
  pub lawful : AllByRecursion (LawfulRow s) rows
  pub fit : AllByRecursion (λ o. Fitting (features s) o.state) os

shows_none : (s : Shape) → Shows s [] []
shows_none s = record { same = refl; lawful = tt; fit = tt }

shows_more : (s : Shape) (rows later : List Row) (os next : List Observation) → Shows s rows os → Shows s later next → Shows s (rows ++ later) (os ++ next)
shows_more s rows later os next a b = record {
  same = map-append (observation s) rows later ∙ ap (λ (xs : List Observation). xs ++ map (observation s) later) a.same ∙ ap (λ (xs : List Observation). os ++ xs) b.same;
  lawful = All-append (LawfulRow s) rows later a.lawful b.lawful;
  fit = All-append (λ o. Fitting (features s) o.state) os next a.fit b.fit;
}

module _ (m : Meaning) (s : Shape) (admits : Row → Bool) where
  -- the row that an entry brought in shows the note that was accepted
  entry_shows : (free : ℕ) (rows : List Row) (before after : List ℕ) (e : Entry) → Answered m s admits free rows before after e → Shows s (taken_in s e) (accepted s e)
  entry_shows free rows before after (Note class day cells None) answered = absurd answered
  entry_shows free rows before after (Note class day cells (Some (Err e))) answered = shows_none s
  entry_shows free rows before after (Note class day cells (Some (Ok n))) answered =
      let notable = answered.1.0 in
      record {
        same = ap (λ (o : Observation). o ∷ []) (observed s class day cells.now notable);
        lawful = (lawful_noted s class day cells.now notable, tt);
        fit = (notable.2, tt);
      }
  entry_shows free rows before after (Listing head sense answer) answered = shows_none s
  entry_shows free rows before after (Forecast head state answer) answered = shows_none s

  pub run_shows : (free : ℕ) (rows : List Row) (before : List ℕ) (es : List Entry) (after : List ℕ) → Ran m s admits free rows before es after → Shows s (flat_map (taken_in s) es) (flat_map (accepted s) es)
  run_shows free rows before [] after ran = shows_none s
  run_shows free rows before (e ∷ es) after ran =
      shows_more s (taken_in s e) (flat_map (taken_in s) es) (accepted s e) (flat_map (accepted s) es)
      (entry_shows free rows before ran.0 e ran.1)
      (run_shows (free - length (taken_in s e)) (rows ++ taken_in s e) ran.0 es after ran.2)

stray_never : (s : Shape) (rows : List Row) (f : Fault) → FirstStray s rows f → AllByRecursion (LawfulRow s) rows → ⊥
stray_never s rows f first lawful = All-get_or (LawfulRow s) rows f.row no_row first.row_within lawful f.cell first.cell_within first.here

module _ (m : Meaning) (laws : Laws m) (s : Shape) (rows : List Row) (os : List Observation) (shows : Shows s rows os) (listable : Listable m (features s)) (st : List ℕ) (shown : Shown os st) (h : Head) (known : KnownHead s h) where
  fits : Fitting (features s) st
  fits = subst (Fitting (features s)) shown.2 (all-has (λ o. Fitting (features s) o.state) os shown.0 shows.fit shown.1)

  tells : (answer : ℕ × ℕ × ℕ) → answer ≡ forecast m (features s) os h.target h.value st → Tells os h st answer.2
  tells answer same =
      let all = told m laws (features s) (taken_features m s listable) os shows.fit h.target h.value st in
      let ways = shown_with_decides os h.target h.value st in
      elim (cases_Bool (shown_with os h.target h.value st)) [
        | inl yes' ↦ let w = all.with_head (ways.0 yes') in inl (ap (λ (a : ℕ × ℕ × ℕ). a.2) (same ∙ w.2), ways.0 yes')
        | inr not' ↦
            let never : ShownWith os h.target h.value st → ⊥ = λ found. both_ways (shown_with os h.target h.value st) not' (ways.1 found) in
            let w = all.without shown never in inr (ap (λ (a : ℕ × ℕ × ℕ). a.2) (same ∙ w.2), never)
      ]

  refused : (e : Refusal) → RefusedForecast m s rows h st e → ⊥
  refused refused_head never = never known
  refused State never = never.1 fits
  refused Bodies never = never.2 listable
  refused (Stray f) never = stray_never s rows f never.3 shows.lawful
  refused _ never = never

  pub tells_noted : (r : Result (ℕ × ℕ × ℕ) Refusal) → Foretold m s rows h st r → MatchResult r (λ answer. Tells os h st answer.2) (λ _. ⊥)
  tells_noted (Ok answer) forecasted = tells answer (forecasted.4 ∙ ap (λ (xs : List Observation). forecast m (features s) xs h.target h.value st) shows.same)
  tells_noted (Err e) forecasted = refused e forecasted

pub noted_states_told : (m : Meaning) → Laws m → (s : Shape) (admits : Row → Bool) (free : ℕ) (before after : List Row) (memory memory' : List ℕ) (es : List Entry)
    → Ran m s admits free before memory es memory' → after ≡ before ++ flat_map (taken_in s) es → NotedStatesTold m s before es after
noted_states_told m laws s admits free before after memory memory' es ran grown none listable st shown h known r forecasted =
    let shows : Shows s (flat_map (taken_in s) es) (flat_map (accepted s) es) = run_shows m s admits free before memory es memory' ran in
    let rows : after ≡ flat_map (taken_in s) es = grown ∙ ap (λ (rs : List Row). rs ++ flat_map (taken_in s) es) none in
    tells_noted m laws s (flat_map (taken_in s) es) (flat_map (accepted s) es) shows listable st shown h known r (subst (λ (rs : List Row). Foretold m s rs h st r) rows forecasted)
