-- What a condition kind means, and the four laws that every kind keeps. Assumes nothing.
use Rattle.std.specs.Prelude.{◌≡◌, ℕ, ◌<◌, ◌≤◌, Bool, true}

-- Conditions on one value, for sizes from 2 up to a largest: how many there are, coded from 0; whether a condition
-- holds of a value; whether one condition is weaker than another; and for each value its pin.
pub record Meaning : Type 0 where
  pub largest : ℕ
  pub conditions : ℕ → ℕ
  pub holds : ℕ → ℕ → ℕ → Bool
  pub weaker : ℕ → ℕ → ℕ → Bool
  pub pin : ℕ → ℕ → ℕ

-- The laws at one size.
pub record Fair (m : Meaning) (size : ℕ) : Type 0 where
  -- there are 1 to 127 conditions
  pub some : 1 ≤ m.conditions size
  pub few : m.conditions size ≤ 127
  -- code 0 holds of every value and is weaker than each code
  pub open_holds : (v : ℕ) → v < size → m.holds size 0 v ≡ true
  pub open_weaker : (c : ℕ) → c < m.conditions size → m.weaker size 0 c ≡ true
  -- weaker is reflexive, transitive and antisymmetric
  pub reflexive : (c : ℕ) → c < m.conditions size → m.weaker size c c ≡ true
  pub transitive : (c d e : ℕ) → m.weaker size c d ≡ true → m.weaker size d e ≡ true → m.weaker size c e ≡ true
  pub antisymmetric : (c d : ℕ) → m.weaker size c d ≡ true → m.weaker size d c ≡ true → c ≡ d
  -- a weaker condition holds wherever the other holds
  pub passes : (c e v : ℕ) → m.weaker size c e ≡ true → m.holds size e v ≡ true → m.holds size c v ≡ true
  -- the pin of a value is a code, and holds of that value only
  pub pin_code : (v : ℕ) → v < size → m.pin size v < m.conditions size
  pub pin_holds : (v : ℕ) → v < size → m.holds size (m.pin size v) v ≡ true
  pub pin_only : (v w : ℕ) → v < size → m.holds size (m.pin size v) w ≡ true → w ≡ v

-- Outside its sizes, codes and values a kind answers no or 0.
pub record Silent (m : Meaning) : Type 0 where
  pub holds_inside : (n c v : ℕ) → m.holds n c v ≡ true → (2 ≤ n) × (n ≤ m.largest) × (c < m.conditions n) × (v < n)
  pub weaker_inside : (n c e : ℕ) → m.weaker n c e ≡ true → (2 ≤ n) × (n ≤ m.largest) × (c < m.conditions n) × (e < m.conditions n)
  pub conditions_inside : (n : ℕ) → 0 < m.conditions n → (2 ≤ n) × (n ≤ m.largest)
  pub pin_inside : (n v : ℕ) → 0 < m.pin n v → (2 ≤ n) × (n ≤ m.largest) × (v < n)

pub record Laws (m : Meaning) : Type 0 where
  pub at : (size : ℕ) → 2 ≤ size → size ≤ m.largest → Fair m size
  pub outside : Silent m
