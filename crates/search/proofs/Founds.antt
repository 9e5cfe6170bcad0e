-- What a search finds by the survey is the listing of the observations, and its best matching weights are theirs.
-- Assumes nothing.
use Rattle.std.proofs.Common.{◌≡◌, ℕ, ◌<◌, List, length, get_or, Ok, Err, Result, Option, subst, inl, inr, arith}
use Rattle.std.proofs.lemmas.Bool.{cases_lt}
use Rattle.std.proofs.lemmas.List.{get_or_past}
use Rattle.std.specs.List.{AllByRecursion}
use Rattle.model.specs.Forecasts.{Forecasted}
use Rattle.model.specs.Foretold.{weight_of, Foretold}
use Rattle.model.specs.Heads.{KnownHead}
use Rattle.model.specs.Kinds.{Meaning, Laws}
use Rattle.model.specs.Limits.{Listable}
use Rattle.model.specs.Listed.{RefusedList, Listed}
use Rattle.model.specs.Rows.{Twelve}
use Rattle.model.specs.Shapes.{features, targets}
use Rattle.model.specs.Wholes.{rules_of, ListedWhole}
use Rattle.model.specs.declared.head.Head.{Head}
use Rattle.model.specs.declared.refusal.Refusal.{Refusal}
use Rattle.model.specs.declared.refusal.Refusal.TheVariants.{Shape as refused_shape, Image, Observation, NotAdmitted, Full, Head as refused_head, Bodies, Stray, Rules, State, Line, Output}
use Rattle.model.specs.declared.row.Row.{Row}
use Rattle.model.specs.declared.sense.Sense.{Sense}
use Rattle.model.specs.declared.sense.Sense.TheVariants.{Can, Cannot}
use Rattle.model.specs.declared.shape.Shape.{Shape}
use Rattle.model.proofs.Fits.{few_features, taken_features}
use Rattle.search.specs.Found.{found, best_matching}
use Rattle.search.proofs.Ties.{found_listing, heaviest_best}

-- a target with a value is one of the targets
known_within : (ts : List ℕ) (t v : ℕ) → v < get_or ts t 0 → t < length ts
known_within ts t v known = elim (cases_lt t (length ts)) [ inl lt ↦ lt | inr ge ↦ let none = get_or_past ts t 0 ge in absurd (omega (arith, none)) ]

module _ (m : Meaning) (laws : Laws m) (s : Shape) (rows : List Row) (h : Head) (twelve : AllByRecursion Twelve rows) where
  module _ (known : KnownHead s h) (listable : Listable m (features s)) (sense : Sense) where
    within : h.target < length (targets s)
    within = known_within (targets s) h.target h.value known

    found_rules : found m s rows h sense ≡ rules_of m s rows h sense
    found_rules = found_listing m s h.target h.value rows (few_features s) twelve within sense laws (taken_features m s listable)

    matching_weight : (state : List ℕ) → best_matching m s rows h sense state ≡ weight_of m s rows h state sense
    matching_weight state = heaviest_best m s h.target h.value rows (few_features s) twelve within sense laws (taken_features m s listable) state

  module _ (sense : Sense) where
    refused_whole : (memory : List ℕ) (e : Refusal) → RefusedList m s rows h (found m s rows h sense) memory e → RefusedList m s rows h (rules_of m s rows h sense) memory e
    refused_whole memory (Rules n) r = subst (λ (rules : List (List ℕ)). RefusedList m s rows h rules memory (Rules n)) (found_rules r.0 r.1 sense) r
    refused_whole memory refused_head r = r
    refused_whole memory Bodies r = r
    refused_whole memory (Stray f) r = r
    refused_whole memory refused_shape r = r
    refused_whole memory Image r = r
    refused_whole memory Observation r = r
    refused_whole memory NotAdmitted r = r
    refused_whole memory Full r = r
    refused_whole memory State r = r
    refused_whole memory Line r = r
    refused_whole memory (Output bytes lines) r = r

    -- a listing of what the search finds is the listing of the observations
    pub listed_whole : (before after : List ℕ) (r : Result ℕ Refusal) → Listed m s rows h (found m s rows h sense) before after r → ListedWhole m s rows h sense before after r
    listed_whole before after (Ok n) listed = subst (λ (rules : List (List ℕ)). Listed m s rows h rules before after (Ok n)) (found_rules listed.0 listed.1 sense) listed
    listed_whole before after (Err e) refused = (refused.0, refused_whole before e refused.1)

  -- a forecast by the survey is the forecast from the observations
  pub foretold : (state : List ℕ) (r : Result (ℕ × ℕ × ℕ) Refusal) → Forecasted m s rows h state (best_matching m s rows h Can state) (best_matching m s rows h Cannot state) r → Foretold m s rows h state r
  foretold state (Ok answer) told =
      subst (λ (contra : Option ℕ). Forecasted m s rows h state (weight_of m s rows h state Can) contra (Ok answer)) (matching_weight told.0 told.2 Cannot state)
      (subst (λ (pro : Option ℕ). Forecasted m s rows h state pro (best_matching m s rows h Cannot state) (Ok answer)) (matching_weight told.0 told.2 Can state) told)
  foretold state (Err e) refused = refused
