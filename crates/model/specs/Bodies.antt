-- The bodies of rules: one condition code for each feature. Assumes nothing.
use Rattle.std.specs.Prelude.{ℕ, ◌<◌, List, [], ◌∷◌, map}
use Rattle.std.specs.List.{range_with_len, flat_map}
use Rattle.model.specs.Kinds.{Meaning}

module _ (m : Meaning) where
  -- a body has a code of its size for each feature
  abbrev pub Body : List ℕ → List ℕ → Type 0
  Body [] [] = Unit {0}
  Body [] (c ∷ b) = ⊥
  Body (n ∷ ns) [] = ⊥
  Body (n ∷ ns) (c ∷ b) = (c < m.conditions n) × Body ns b

  -- all bodies, in rising order of their codes, feature 0 first
  abbrev pub bodies : List ℕ → List (List ℕ)
  bodies [] = [] ∷ []
  bodies (n ∷ ns) = flat_map (λ c. map (λ b. c ∷ b) (bodies ns)) (range_with_len 0 (m.conditions n))
