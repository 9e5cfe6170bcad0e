-- Picking out the states against from a survey, one state at a time. Assumes nothing.
use Rattle.std.proofs.Common.{◌≡◌, ℕ, ◌+◌, ◌<◌, Bool, true, false, cond, List, [], ◌∷◌, ◌++◌, map, length, get_or, take, filter, ap, ◌∙◌}
use Rattle.std.proofs.lemmas.List.Elements.{filter_more}
use Rattle.std.proofs.lemmas.List.{append-nil, map-append}
use Rattle.model.specs.declared.sense.Sense.{Sense}
use Rattle.search.specs.Opposing.{states_against}
use Rattle.search.specs.Surveys.{against}
use Rattle.search.specs.declared.survey.Seen.{Seen}

module _ (sense : Sense) (seen : List Seen) (i : ℕ) (d : Seen) (within : i < length seen) where
  against_more : (t : Bool) → against sense (get_or seen i d) ≡ t → states_against sense (take (i + 1) seen) ≡ states_against sense (take i seen) ++ map (λ s. s.state) (cond t (get_or seen i d ∷ []) [])
  against_more t e =
      ap (map (λ s. s.state)) (filter_more (against sense) seen i d within ∙ ap (λ (t : Bool). filter (against sense) (take i seen) ++ cond t (get_or seen i d ∷ []) []) e)
      ∙ map-append (λ s. s.state) (filter (against sense) (take i seen)) (cond t (get_or seen i d ∷ []) [])

  -- a state that is against
  pub against_more_yes : against sense (get_or seen i d) ≡ true → states_against sense (take (i + 1) seen) ≡ states_against sense (take i seen) ++ (get_or seen i d).state ∷ []
  against_more_yes e = against_more true e

  -- a state that is not
  pub against_more_no : against sense (get_or seen i d) ≡ false → states_against sense (take (i + 1) seen) ≡ states_against sense (take i seen)
  against_more_no e = against_more false e ∙ append-nil (states_against sense (take i seen))
