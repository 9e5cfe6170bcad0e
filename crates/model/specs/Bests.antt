-- What the best weight of a sense at a state is, as a statement. Assumes nothing.
use Rattle.std.specs.Prelude.{◌≡◌, ℕ, ◌≤◌, List, MatchOption}
use Rattle.model.specs.Kinds.{Meaning}
use Rattle.model.specs.Observations.{Observation}
use Rattle.model.specs.Optimal.{Matches, Optimal}
use Rattle.model.specs.Weights.{weight, best_weight}
use Rattle.model.specs.declared.sense.Sense.{Sense}

module _ (m : Meaning) (ns : List ℕ) (os : List Observation) (target value : ℕ) (sense : Sense) (s : List ℕ) where
  -- a weight is the best: an optimal rule that matches the state has it, and none has more
  pub record BestWeight (w : ℕ) : Type 0 where
    pub reached : (b : List ℕ) × Optimal m ns os target value sense b × Matches m ns b s × (weight m ns os target value sense b ≡ w)
    pub unbeaten : (b : List ℕ) → Optimal m ns os target value sense b → Matches m ns b s → weight m ns os target value sense b ≤ w

-- there is a best weight, or no optimal rule matches
abbrev pub BestWeights : Meaning → Type 0
BestWeights m = (ns : List ℕ) (os : List Observation) (target value : ℕ) (sense : Sense) (s : List ℕ)
    → MatchOption (best_weight m ns os target value sense s) ((b : List ℕ) → Optimal m ns os target value sense b → Matches m ns b s → ⊥) (BestWeight m ns os target value sense s)
