-- The optimal program of some observations, and that the can listings of all heads are it, as a statement. Assumes nothing.
use Rattle.std.specs.Prelude.{ℕ, ◌<◌, ◌≤◌, List, length, slice_index}
use Rattle.std.specs.List.{ContainsAt as Has, AllByRecursion}
use Rattle.model.specs.Bodies.{Body}
use Rattle.model.specs.Kinds.{Meaning}
use Rattle.model.specs.Listings.{listing}
use Rattle.model.specs.Observations.{Observation}
use Rattle.model.specs.Optimal.{Among, Taken, Matches, Dominates, Consistent}
use Rattle.model.specs.Telling.{StatesFit}
use Rattle.model.specs.Values.{Fitting}
use Rattle.model.specs.declared.sense.Sense.TheVariants.{Can}

-- a program has a list of rules for each head: a target and one of its values
abbrev pub Program : Type 0
Program = ℕ → ℕ → List (List ℕ)

module _ (m : Meaning) (ns ts : List ℕ) (os : List Observation) where
  -- a program is suitable: consistent, realizing every observation, complete, and dominating every consistent rule
  pub record Suitable (program : Program) : Type 0 where
    -- each rule is consistent
    pub consistent : (target value : ℕ) → value < slice_index ts target → AllByRecursion (λ b. Body m ns b × Consistent m ns os target value Can b) (program target value)
    -- for each target of an observation a rule for its value there matches its state
    pub realizing : (o : Observation) → Has os o → (target : ℕ) → target < length ts
        → Among (program target (slice_index o.outcome target)) (λ b. Matches m ns b o.state)
    -- for each state and each target some rule matches
    pub complete : (s : List ℕ) → Fitting ns s → (target : ℕ) → target < length ts
        → (value : ℕ) × (value < slice_index ts target) × Among (program target value) (λ b. Matches m ns b s)
    -- each consistent rule is dominated by a rule of the program
    pub dominating : (target value : ℕ) → value < slice_index ts target → (b : List ℕ) → Body m ns b → Consistent m ns os target value Can b → Among (program target value) (λ c. Dominates m ns c b)

  -- a program is optimal: suitable, and a rule of a suitable program that dominates one of its rules is dominated by it too
  pub record OptimalProgram (program : Program) : Type 0 where
    pub suitable : Suitable program
    pub maximal : (other : Program) → Suitable other → (target value : ℕ) → value < slice_index ts target → (b c : List ℕ) → Has (program target value) b → Has (other target value) c
        → Dominates m ns c b → Dominates m ns b c

-- the outcome of each observation has a value below its size for each target
abbrev pub OutcomesFit : List ℕ → List Observation → Type 0
OutcomesFit ts os = AllByRecursion (λ o. Fitting ts o.outcome) os

-- over observations that fit the sizes, the can listings of all heads together are the optimal program
abbrev pub ListingsAreProgram : Meaning → Type 0
ListingsAreProgram m = (ns ts : List ℕ) → Taken m ns → AllByRecursion (λ n. 1 ≤ n) ts → (os : List Observation) → StatesFit ns os → OutcomesFit ts os
    → OptimalProgram m ns ts os (λ target value. listing m ns os target value Can)
