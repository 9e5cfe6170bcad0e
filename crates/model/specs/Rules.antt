-- When a rule matches a state, and when one rule dominates another. Assumes nothing.
use Rattle.std.specs.Prelude.{ℕ, zero, suc, Bool, true, ◌&&◌, List, length, slice_index}
use Rattle.model.specs.Kinds.{Meaning}

-- a test passes at each number below n
abbrev pub each_below : ℕ → (ℕ → Bool) → Bool
each_below zero test = true
each_below (suc n) test = test n && each_below n test

module _ (m : Meaning) (sizes : List ℕ) where
  -- a rule matches a state when each condition holds of its value
  abbrev pub matches : List ℕ → List ℕ → Bool
  matches body state = each_below (length sizes) (λ i. m.holds (slice_index sizes i) (slice_index body i) (slice_index state i))

  -- a rule dominates another, itself too, when each of its conditions is weaker or equal
  abbrev pub dominates : List ℕ → List ℕ → Bool
  dominates body other = each_below (length sizes) (λ i. m.weaker (slice_index sizes i) (slice_index body i) (slice_index other i))
