-- What holds of the rules of every lawful kind: domination, consistency, optima and single weakenings, as statements.
-- Assumes nothing.
use Rattle.std.specs.Prelude.{◌≡◌, ℕ, ◌<◌, true, List, length, ◌≢◌, slice_index, slice_set}
use Rattle.model.specs.Bodies.{Body}
use Rattle.model.specs.Kinds.{Meaning}
use Rattle.model.specs.Observations.{Observation}
use Rattle.model.specs.Optimal.{Taken, Matches, Dominates, Consistent, Optimal}
use Rattle.model.specs.declared.sense.Sense.{Sense}

module _ (m : Meaning) (ns : List ℕ) where
  -- domination is a partial order
  pub record PartialOrder : Type 0 where
    pub itself : (b : List ℕ) → Body m ns b → Dominates m ns b b
    pub through : (b c d : List ℕ) → Dominates m ns b c → Dominates m ns c d → Dominates m ns b d
    pub same : (b c : List ℕ) → Body m ns b → Body m ns c → Dominates m ns b c → Dominates m ns c b → b ≡ c

module _ (m : Meaning) (ns : List ℕ) (os : List Observation) (target value : ℕ) (sense : Sense) where
  -- consistency passes from a rule to every rule that it dominates
  abbrev pub PassesDown : Type 0
  PassesDown = (c b : List ℕ) → Dominates m ns c b → Consistent m ns os target value sense c → Consistent m ns os target value sense b

  -- every consistent rule is dominated by an optimal one
  abbrev pub OptimumAbove : Type 0
  OptimumAbove = (b : List ℕ) → Body m ns b → Consistent m ns os target value sense b → (c : List ℕ) × Optimal m ns os target value sense c × Dominates m ns c b

  -- weakening any single condition of a rule makes it inconsistent
  abbrev pub Tight : List ℕ → Type 0
  Tight b = (i c : ℕ) → i < length ns → (c ≢ slice_index b i) → m.weaker (slice_index ns i) c (slice_index b i) ≡ true
      → Consistent m ns os target value sense (slice_set b i c) → ⊥

  -- a rule is optimal exactly when it is consistent and tight
  pub record OptimalWhenTight (b : List ℕ) : Type 0 where
    pub tight : Optimal m ns os target value sense b → Consistent m ns os target value sense b × Tight b
    pub best : Consistent m ns os target value sense b → Tight b → Optimal m ns os target value sense b

module _ (m : Meaning) where
  -- domination is a partial order on the rules of a head
  abbrev pub DominationOrders : Type 0
  DominationOrders = (ns : List ℕ) → Taken m ns → PartialOrder m ns

  -- a rule that dominates a matching rule matches
  abbrev pub MatchingPassesUp : Type 0
  MatchingPassesUp = (ns : List ℕ) → Taken m ns → (c b s : List ℕ) → Dominates m ns c b → Matches m ns b s → Matches m ns c s

  -- consistency passes down, for every head and sense
  abbrev pub ConsistencyPassesDown : Type 0
  ConsistencyPassesDown = (ns : List ℕ) → Taken m ns → (os : List Observation) (target value : ℕ) (sense : Sense) → PassesDown m ns os target value sense

  -- optimal rules lie above, for every head and sense
  abbrev pub OptimaAbove : Type 0
  OptimaAbove = (ns : List ℕ) → Taken m ns → (os : List Observation) (target value : ℕ) (sense : Sense) → OptimumAbove m ns os target value sense

  -- to see that a rule is optimal, single weakenings suffice
  abbrev pub OneWeakeningSuffices : Type 0
  OneWeakeningSuffices = (ns : List ℕ) → Taken m ns → (os : List Observation) (target value : ℕ) (sense : Sense) (b : List ℕ) → Body m ns b
      → OptimalWhenTight m ns os target value sense b
