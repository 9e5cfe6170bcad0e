-- A listing holds exactly the optimal rules, each once and rising, and every rival set contains it, as statements.
-- Assumes nothing.
use Rattle.std.specs.Prelude.{◌≡◌, ℕ, ◌<◌, ◌⊎◌, List, [], ◌∷◌}
use Rattle.std.specs.List.{ContainsAt as Has, AllByRecursion}
use Rattle.model.specs.Bodies.{Body}
use Rattle.model.specs.Kinds.{Meaning}
use Rattle.model.specs.Listings.{listing}
use Rattle.model.specs.Observations.{Observation}
use Rattle.model.specs.Optimal.{Among, Dominates, Consistent, Optimal}
use Rattle.model.specs.declared.sense.Sense.{Sense}

-- no element stands twice
abbrev pub Once : {X : Type 0} → List X → Type 0
Once [] = Unit {0}
Once (x ∷ xs) = (Has xs x → ⊥) × Once xs

-- one rule stands before another: at the first feature where they differ its code is smaller
abbrev pub Before : List ℕ → List ℕ → Type 0
Before [] c = ⊥
Before (x ∷ b) [] = ⊥
Before (x ∷ b) (y ∷ c) = (x < y) ⊎ ((x ≡ y) × Before b c)

-- each rule stands before all that follow it
abbrev pub Rising : List (List ℕ) → Type 0
Rising [] = Unit {0}
Rising (b ∷ bs) = AllByRecursion (Before b) bs × Rising bs

module _ (m : Meaning) (ns : List ℕ) (os : List Observation) (target value : ℕ) (sense : Sense) where
  -- a list has each optimal rule once and nothing else, in rising order
  pub record Exactly (rules : List (List ℕ)) : Type 0 where
    pub sound : (b : List ℕ) → Has rules b → Optimal m ns os target value sense b
    pub whole : (b : List ℕ) → Optimal m ns os target value sense b → Has rules b
    pub once : Once rules
    pub rising : Rising rules

  -- a set of consistent rules in which every consistent rule finds a dominating one
  pub record Rivals (rules : List (List ℕ)) : Type 0 where
    pub consistent : AllByRecursion (λ b. Body m ns b × Consistent m ns os target value sense b) rules
    pub dominating : (b : List ℕ) → Body m ns b → Consistent m ns os target value sense b → Among rules (λ c. Dominates m ns c b)

module _ (m : Meaning) where
  -- a listing is exact
  abbrev pub ListingsExact : Type 0
  ListingsExact = (ns : List ℕ) (os : List Observation) (target value : ℕ) (sense : Sense) → Exactly m ns os target value sense (listing m ns os target value sense)

  -- a set of rivals contains every rule of the listing
  abbrev pub RivalsContain : Type 0
  RivalsContain = (ns : List ℕ) (os : List Observation) (target value : ℕ) (sense : Sense) (rules : List (List ℕ)) → Rivals m ns os target value sense rules
      → AllByRecursion (Has rules) (listing m ns os target value sense)
