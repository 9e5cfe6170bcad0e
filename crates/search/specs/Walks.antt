-- A walk over the bodies: what it has still to look at, and which rules it has still to find. Assumes nothing.
use Rattle.std.specs.Prelude.{◌≡◌, ℕ, ◌-◌, List, [], ◌∷◌, ◌++◌, map, length, take, drop, replicate, filter, Option, Some, None}
use Rattle.std.proofs.Props.{props}
use Rattle.model.specs.Kinds.{Meaning}
use Rattle.model.specs.Bodies.{Body, bodies}
use Rattle.model.specs.Memory.{place}
use Rattle.search.specs.Rest.{rest}
use Rattle.search.specs.Opposing.{best}

module _ (m : Meaning) (ns : List ℕ) where
  -- a body in its place of eight bytes, with 0 beyond the features
  abbrev pub Standing : List ℕ → Type 0
  Standing b = (length b ≡ 8) × (drop (length ns) b ≡ replicate (8 - length ns) 0) × Body m ns (take (length ns) b)

  -- the bodies from one on, where there is one
  abbrev pub left : Option (List ℕ) → List (List ℕ)
  left (Some b) = rest m ns (take (length ns) b)
  left None = []

  -- the bodies that have the first d conditions of one
  abbrev pub alike : ℕ → List ℕ → List (List ℕ)
  alike d b = map (λ t. take d b ++ t) (bodies m (drop d ns))

  -- the rules still to be found, each in its place
  abbrev pub to_find : List (List ℕ) → Option (List ℕ) → List (List ℕ)
  to_find opposed o = map place (filter (best m ns opposed) (left o))

  -- all the rules, each in its place
  abbrev pub places : List (List ℕ) → List (List ℕ)
  places opposed = map place (filter (best m ns opposed) (bodies m ns))

body_prop : (m : Meaning) (ns b : List ℕ) → IsProp (Body m ns b)
body_prop m [] [] = Prim.hlevel props
body_prop m [] (c ∷ b) = Prim.hlevel props
body_prop m (n ∷ ns) [] = Prim.hlevel props
body_prop m (n ∷ ns) (c ∷ b) = Prim.hlevel (props, body_prop m ns b)

-- that a body stands in its place has one proof at most, so it may be a ghost field
pub Standing-prop : (m : Meaning) (ns b : List ℕ) → IsProp (Standing m ns b)
Standing-prop m ns b = Prim.hlevel (props, body_prop)
