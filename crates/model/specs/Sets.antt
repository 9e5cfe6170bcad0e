-- Weights count different states, and order and repeats of observations do not matter, as statements. Assumes nothing.
use Rattle.std.specs.Prelude.{◌≡◌, ℕ, List, length}
use Rattle.std.specs.List.{ContainsAt as Has}
use Rattle.model.specs.Exactly.{Once}
use Rattle.model.specs.Kinds.{Meaning}
use Rattle.model.specs.Listings.{listing}
use Rattle.model.specs.Observations.{Observation}
use Rattle.model.specs.Optimal.{Matches, Against}
use Rattle.model.specs.Weights.{opposite, weight, forecast}
use Rattle.model.specs.declared.sense.Sense.{Sense}

module _ (m : Meaning) (ns : List ℕ) (os : List Observation) (target value : ℕ) (sense : Sense) (b : List ℕ) where
  -- a state is on the rule's own side, and the rule matches it
  abbrev pub Supports : List ℕ → Type 0
  Supports s = Against os target value (opposite sense) s × Matches m ns b s

  -- a list has each of these states once, and nothing else
  pub record Supporters (ss : List (List ℕ)) : Type 0 where
    pub once : Once ss
    pub sound : (s : List ℕ) → Has ss s → Supports s
    pub whole : (s : List ℕ) → Supports s → Has ss s

  -- there is such a list, and the weight is the length of each
  pub record Weighs : Type 0 where
    pub some : (ss : List (List ℕ)) × Supporters ss
    pub each : (ss : List (List ℕ)) → Supporters ss → weight m ns os target value sense b ≡ length ss

-- two lists have the same elements, in whatever order and however often
abbrev pub SameSet : List Observation → List Observation → Type 0
SameSet os ps = (o : Observation) → (Has os o → Has ps o) × (Has ps o → Has os o)

module _ (m : Meaning) where
  -- the weight of a rule is how many different states support it
  abbrev pub WeightsCount : Type 0
  WeightsCount = (ns : List ℕ) (os : List Observation) (target value : ℕ) (sense : Sense) (b : List ℕ) → Weighs m ns os target value sense b

  -- over the same observations the listings, the weights and the forecasts are the same
  pub record Agree (os ps : List Observation) : Type 0 where
    pub listings : (ns : List ℕ) (target value : ℕ) (sense : Sense) → listing m ns os target value sense ≡ listing m ns ps target value sense
    pub weights : (ns : List ℕ) (target value : ℕ) (sense : Sense) (b : List ℕ) → weight m ns os target value sense b ≡ weight m ns ps target value sense b
    pub forecasts : (ns : List ℕ) (target value : ℕ) (s : List ℕ) → forecast m ns os target value s ≡ forecast m ns ps target value s

  -- listings, weights and forecasts depend on the set of observations only
  abbrev pub SetsDecide : Type 0
  SetsDecide = (os ps : List Observation) → SameSet os ps → Agree os ps
