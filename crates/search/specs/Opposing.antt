-- Consistency and optimality over the states of a survey that are against. Assumes nothing.
use Rattle.std.specs.Prelude.{ℕ, Bool, not, ◌&&◌, List, map, length, filter, ◌==◌, slice_index, slice_set}
use Rattle.std.specs.List.{list_all}
use Rattle.model.specs.Kinds.{Meaning}
use Rattle.model.specs.Rules.{matches, each_below}
use Rattle.model.specs.declared.sense.Sense.{Sense}
use Rattle.search.specs.Surveys.{against}
use Rattle.search.specs.declared.survey.Seen.{Seen}

-- the states against the head, in the order in which they were seen
abbrev pub states_against : Sense → List Seen → List (List ℕ)
states_against sense seen = map (λ s. s.state) (filter (against sense) seen)

module _ (m : Meaning) (ns : List ℕ) (opposed : List (List ℕ)) where
  -- a rule matches no state against
  abbrev pub clear : List ℕ → Bool
  clear b = list_all (λ v. not (matches m ns b v)) opposed

  -- code c is another, weaker condition on feature i that leaves the rule clear
  abbrev pub loose : List ℕ → ℕ → ℕ → Bool
  loose b i c = (not (c == slice_index b i) && m.weaker (slice_index ns i) c (slice_index b i)) && clear (slice_set b i c)

  -- the condition on feature i cannot be weakened
  abbrev pub tight_at : List ℕ → ℕ → Bool
  tight_at b i = each_below (m.conditions (slice_index ns i)) (λ c. not (loose b i c))

  -- no single condition can be weakened
  abbrev pub tight : List ℕ → Bool
  tight b = each_below (length ns) (tight_at b)

  -- a rule is clear, and no single condition of it can be weakened
  abbrev pub best : List ℕ → Bool
  best b = clear b && tight b
