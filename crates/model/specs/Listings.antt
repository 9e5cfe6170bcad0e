-- The listing of a head: its optimal rules, in rising order. Each notion as a test that computes. Assumes nothing.
use Rattle.std.specs.Prelude.{ℕ, Bool, false, not, ◌&&◌, ◌||◌, List, [], ◌∷◌, filter, ◌==◌, slice_index}
use Rattle.std.specs.List.{list_all}
use Rattle.std.specs.Str.{bytes_eq}
use Rattle.model.specs.Kinds.{Meaning}
use Rattle.model.specs.Bodies.{bodies}
use Rattle.model.specs.Rules.{matches, dominates}
use Rattle.model.specs.Observations.{Observation}
use Rattle.model.specs.declared.sense.Sense.{Sense}
use Rattle.model.specs.declared.sense.Sense.TheVariants.{Can, Cannot}

-- some element passes a test
abbrev pub some_passes : {X : Type 0} → (X → Bool) → List X → Bool
some_passes p [] = false
some_passes p (x ∷ xs) = p x || some_passes p xs

module _ (os : List Observation) where
  -- some observation has the state
  abbrev pub shown : List ℕ → Bool
  shown s = some_passes (λ o. bytes_eq o.state s) os

  module _ (target value : ℕ) where
    -- some observation has the state, and the head's value at its target
    abbrev pub shown_with : List ℕ → Bool
    shown_with s = some_passes (λ o. bytes_eq o.state s && slice_index o.outcome target == value) os

    -- can: shown and never with the head; cannot: shown with the head
    abbrev pub against : Sense → List ℕ → Bool
    against Can s = shown s && not (shown_with s)
    against Cannot s = shown_with s

module _ (m : Meaning) (ns : List ℕ) (os : List Observation) (target value : ℕ) (sense : Sense) where
  -- a rule is consistent when it matches no state against
  abbrev pub consistent : List ℕ → Bool
  consistent b = list_all (λ o. not (against os target value sense o.state && matches m ns b o.state)) os

  -- a rule is optimal when it is consistent and no other consistent rule dominates it
  abbrev pub optimal : List ℕ → Bool
  optimal b = consistent b && list_all (λ c. not (consistent c && dominates m ns c b) || bytes_eq c b) (bodies m ns)

  -- the optimal rules, in rising order of their codes, feature 0 first
  abbrev pub listing : List (List ℕ)
  listing = filter optimal (bodies m ns)
