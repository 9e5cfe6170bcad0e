-- Near misses of a rule: the states against that a single condition of it keeps out. A clear rule is tight exactly when
-- each weaker condition would let one of them in. Assumes nothing.
use Rattle.std.specs.Prelude.{◌≡◌, ℕ, ◌<◌, Bool, true, false, not, ◌&&◌, ◌≢◌, List, [], length, Decides, ◌==◌, slice_index, slice_index_or}
use Rattle.model.specs.Kinds.{Meaning}
use Rattle.model.specs.Optimal.{Among}
use Rattle.model.specs.Rules.{each_below}

module _ (m : Meaning) (ns : List ℕ) where
  -- the condition of a rule on feature i holds of a state's value
  abbrev pub meets : List ℕ → List ℕ → ℕ → Bool
  meets b v i = m.holds (slice_index ns i) (slice_index b i) (slice_index v i)

  -- of the first n conditions of a rule only that on feature i keeps a state out
  pub record Lone (b v : List ℕ) (n i : ℕ) : Type 0 where
    pub within : i < n
    pub fails : meets b v i ≡ false
    pub others : (j : ℕ) → j < n → j ≢ i → meets b v j ≡ true

  -- a state with value x on feature i that only the condition there keeps out
  abbrev pub Missed : List ℕ → ℕ → ℕ → List ℕ → Type 0
  Missed b i x v = Lone b v (length ns) i × (slice_index v i ≡ x)

  -- a table with a row of eight places for each feature has the values of the near misses
  abbrev pub Noted : List (List ℕ) → List ℕ → List (List Bool) → Type 0
  Noted opposed b near = (i x : ℕ) → i < 8 → x < 8 → Decides (slice_index_or (slice_index_or near i []) x false) (Among opposed (Missed b i x))

-- for one feature, with its size and its row of that table
module _ (m : Meaning) (size : ℕ) (near : List Bool) where
  -- a code holds of no value noted there
  abbrev pub spares : ℕ → Bool
  spares c = each_below 8 (λ x. not (slice_index_or near x false && m.holds size c x))

  -- code c is another, weaker condition than a code, and lets no near miss in
  abbrev pub frees : ℕ → ℕ → Bool
  frees code c = (not (c == code) && m.weaker size c code) && spares c

  -- each weaker condition than a code lets a near miss in
  abbrev pub firm : ℕ → Bool
  firm code = each_below (m.conditions size) (λ c. not (frees code c))

-- each weaker condition of a rule, on whichever feature, lets a near miss of that table in
abbrev pub firm_all : Meaning → List ℕ → List (List Bool) → List ℕ → Bool
firm_all m ns near b = each_below (length ns) (λ i. firm m (slice_index ns i) (slice_index_or near i []) (slice_index b i))
