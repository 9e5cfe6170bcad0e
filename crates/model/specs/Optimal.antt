-- What an optimal rule is: matching, domination, the states shown and against, consistent and optimal, each as a relation
-- over all states and all rules. Assumes nothing.
use Rattle.std.specs.Prelude.{◌≡◌, ℕ, ◌<◌, ◌≤◌, true, List, length, slice_index}
use Rattle.std.specs.List.{ContainsAt as Has, AllByRecursion}
use Rattle.model.specs.Kinds.{Meaning}
use Rattle.model.specs.Bodies.{Body}
use Rattle.model.specs.Observations.{Observation}
use Rattle.model.specs.declared.sense.Sense.{Sense}
use Rattle.model.specs.declared.sense.Sense.TheVariants.{Can, Cannot}

-- some element of a list has a property
abbrev pub Among : {X : Type 0} → List X → (X → Type 0) → Type 0
Among {X} xs P = (x : X) × Has xs x × P x

module _ (m : Meaning) (ns : List ℕ) where
  -- the kind takes each of the feature sizes
  abbrev pub Taken : Type 0
  Taken = AllByRecursion (λ n. (2 ≤ n) × (n ≤ m.largest)) ns

  -- a rule matches a state: each of its conditions holds of its value
  abbrev pub Matches : List ℕ → List ℕ → Type 0
  Matches b s = (i : ℕ) → i < length ns → m.holds (slice_index ns i) (slice_index b i) (slice_index s i) ≡ true

  -- a rule dominates another, itself too: each of its conditions is weaker or equal
  abbrev pub Dominates : List ℕ → List ℕ → Type 0
  Dominates c b = (i : ℕ) → i < length ns → m.weaker (slice_index ns i) (slice_index c i) (slice_index b i) ≡ true

module _ (os : List Observation) where
  -- a state is shown: some observation has it
  abbrev pub Shown : List ℕ → Type 0
  Shown s = Among os (λ o. o.state ≡ s)

  module _ (target value : ℕ) where
    -- a state is shown with a head: some observation has it, and the head's value at its target
    abbrev pub ShownWith : List ℕ → Type 0
    ShownWith s = Among os (λ o. (o.state ≡ s) × (slice_index o.outcome target ≡ value))

    -- a state is against a head: it was shown and never with the head, or for cannot it was shown with the head
    abbrev pub Against : Sense → List ℕ → Type 0
    Against Can s = Shown s × (ShownWith s → ⊥)
    Against Cannot s = ShownWith s

module _ (m : Meaning) (ns : List ℕ) (os : List Observation) (target value : ℕ) (sense : Sense) where
  -- a rule is consistent: it matches no state against
  abbrev pub Consistent : List ℕ → Type 0
  Consistent b = (s : List ℕ) → Against os target value sense s → Matches m ns b s → ⊥

  -- a rule is optimal: it is consistent, and each consistent rule that dominates it is the rule itself
  abbrev pub Optimal : List ℕ → Type 0
  Optimal b = Body m ns b × Consistent b × ((c : List ℕ) → Body m ns c → Consistent c → Dominates m ns c b → c ≡ b)
