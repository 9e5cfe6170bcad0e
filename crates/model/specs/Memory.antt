-- Rules in rule memory. Assumes nothing.
use Rattle.std.specs.Prelude.{ℕ, zero, suc, ◌-◌, ◌*◌, List, [], ◌∷◌, ◌++◌, length, take, drop, replicate}
use Rattle.std.specs.List.{flat_map}

-- a rule in its place of eight bytes: one code a byte, unused bytes 0
abbrev pub place : List ℕ → List ℕ
place b = b ++ replicate (8 - length b) 0

-- rule memory after a listing: the rules from its front on, and then its bytes as they were
abbrev pub filled : List (List ℕ) → List ℕ → List ℕ
filled rules memory = flat_map place rules ++ drop (8 * length rules) memory

-- the rules in the first n places of rule memory, with one code for each of k features
abbrev pub written : ℕ → ℕ → List ℕ → List (List ℕ)
written k zero memory = []
written k (suc n) memory = take k memory ∷ written k n (drop 8 memory)
