-- The tests that a listing computes with decide the relations, as a statement. Assumes nothing.
use Rattle.std.specs.Prelude.{ℕ, List, Decides}
use Rattle.model.specs.Bodies.{Body}
use Rattle.model.specs.Kinds.{Meaning}
use Rattle.model.specs.Listings.{shown, shown_with, against, consistent, optimal}
use Rattle.model.specs.Observations.{Observation}
use Rattle.model.specs.Optimal.{Matches, Dominates, Shown, ShownWith, Against, Consistent, Optimal}
use Rattle.model.specs.Rules.{matches, dominates}
use Rattle.model.specs.declared.sense.Sense.{Sense}

module _ (m : Meaning) (ns : List ℕ) (os : List Observation) (target value : ℕ) (sense : Sense) where
  -- each test has its relation; optimality only at bodies, which are all that its test looks at
  pub record Decided : Type 0 where
    pub by_matches : (b s : List ℕ) → Decides (matches m ns b s) (Matches m ns b s)
    pub by_dominates : (c b : List ℕ) → Decides (dominates m ns c b) (Dominates m ns c b)
    pub by_shown : (s : List ℕ) → Decides (shown os s) (Shown os s)
    pub by_shown_with : (s : List ℕ) → Decides (shown_with os target value s) (ShownWith os target value s)
    pub by_against : (s : List ℕ) → Decides (against os target value sense s) (Against os target value sense s)
    pub by_consistent : (b : List ℕ) → Decides (consistent m ns os target value sense b) (Consistent m ns os target value sense b)
    pub by_optimal : (b : List ℕ) → Body m ns b → Decides (optimal m ns os target value sense b) (Optimal m ns os target value sense b)

-- for all sizes, observations, heads and senses
abbrev pub TestsDecide : Meaning → Type 0
TestsDecide m = (ns : List ℕ) (os : List Observation) (target value : ℕ) (sense : Sense) → Decided m ns os target value sense
