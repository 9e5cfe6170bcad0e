-- What can be listed. Assumes nothing.
use Rattle.std.specs.Prelude.{ℕ, ◌*◌, ◌≤◌, List, [], ◌∷◌}
use Rattle.std.specs.List.{AllByRecursion}
use Rattle.model.specs.Kinds.{Meaning}

module _ (m : Meaning) where
  -- how many bodies there are
  abbrev pub body_count : List ℕ → ℕ
  body_count [] = 1
  body_count (n ∷ ns) = m.conditions n * body_count ns

  -- no feature size is above the kind's largest, and there are at most 1,000,000 bodies
  abbrev pub Listable : List ℕ → Type 0
  Listable ns = AllByRecursion (λ n. n ≤ m.largest) ns × (body_count ns ≤ 1000000)
