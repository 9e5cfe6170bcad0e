-- The bodies from one on, in rising order: what a search has still to look at. Assumes nothing.
use Rattle.std.specs.Prelude.{◌≡◌, ℕ, ◌+◌, ◌-◌, ◌<◌, ◌≤◌, Bool, true, false, cond, List, [], ◌∷◌, ◌++◌, map, length, drop, replicate, ◌≢◌, slice_index}
use Rattle.std.specs.List.{range_with_len, flat_map}
use Rattle.model.specs.Kinds.{Meaning}
use Rattle.model.specs.Bodies.{Body, bodies}

module _ (m : Meaning) where
  -- the bodies whose first code is c or a later one of n codes
  abbrev pub starting : List ℕ → ℕ → ℕ → List (List ℕ)
  starting ns c n = flat_map (λ d. map (λ b. d ∷ b) (bodies m ns)) (range_with_len c n)

  -- the bodies from one on
  abbrev pub rest : List ℕ → List ℕ → List (List ℕ)
  rest [] b = [] ∷ []
  rest (n ∷ ns) [] = []
  rest (n ∷ ns) (c ∷ b) = map (λ b. c ∷ b) (rest ns b) ++ starting ns (c + 1) (m.conditions n - (c + 1))

  -- stepping on from a body: whether there is a next one, and which
  pub record Advanced (ns before after : List ℕ) (more : Bool) : Type 0 where
    pub body : Body m ns after
    pub next : rest ns before ≡ before ∷ cond more (rest ns after) []
    pub over : more ≡ false → after ≡ replicate (length ns) 0

-- the last condition of a body that is not open
pub record Last (b : List ℕ) (i : ℕ) : Type 0 where
  pub within : i < length b
  pub closed : slice_index b i ≢ 0
  pub open_after : (k : ℕ) → i < k → k < length b → slice_index b k ≡ 0

-- how many conditions a body has up to the last one that is not open
pub record Depth (b : List ℕ) (d : ℕ) : Type 0 where
  pub within : d ≤ length b
  pub zeros : drop d b ≡ replicate (length b - d) 0
  pub last : (i : ℕ) → i + 1 ≡ d → slice_index b i ≢ 0

-- how many conditions of a body a search steps on in: from a clear one only those up to its depth
abbrev pub Reach : Bool → List ℕ → ℕ → Type 0
Reach true b d = Depth b d
Reach false b d = d ≡ length b
