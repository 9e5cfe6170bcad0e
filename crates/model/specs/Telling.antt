-- What a forecast tells of a state that was shown, as a statement. Assumes nothing.
use Rattle.std.specs.Prelude.{◌≡◌, ℕ, ◌≤◌, List}
use Rattle.std.specs.List.{AllByRecursion}
use Rattle.model.specs.Kinds.{Meaning}
use Rattle.model.specs.Observations.{Observation}
use Rattle.model.specs.Optimal.{Taken, Shown, ShownWith}
use Rattle.model.specs.Values.{Fitting}
use Rattle.model.specs.Weights.{forecast}

-- the state of each observation has a value below its size for each feature
abbrev pub StatesFit : List ℕ → List Observation → Type 0
StatesFit ns os = AllByRecursion (λ o. Fitting ns o.state) os

module _ (m : Meaning) (ns : List ℕ) (os : List Observation) (target value : ℕ) (s : List ℕ) where
  -- where the state was shown with the head, all weight is for it: 100 percent; where never, all is against it: 0 percent
  pub record Told : Type 0 where
    pub with_head : ShownWith os target value s → (w : ℕ) × (1 ≤ w) × (forecast m ns os target value s ≡ (w, 0, 100))
    pub without : Shown os s → (ShownWith os target value s → ⊥) → (w : ℕ) × (1 ≤ w) × (forecast m ns os target value s ≡ (0, w, 0))

-- for all states and heads, over observations that fit the sizes
abbrev pub ShownStatesTold : Meaning → Type 0
ShownStatesTold m = (ns : List ℕ) → Taken m ns → (os : List Observation) → StatesFit ns os → (target value : ℕ) (s : List ℕ) → Told m ns os target value s
