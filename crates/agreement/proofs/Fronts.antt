-- The front of rule memory that a listing writes. Assumes nothing.
use Rattle.std.proofs.Common.{◌≡◌, ℕ, ◌*◌, ◌≤◌, Bool, List, [], ◌∷◌, length, take, drop, Ok, Decides, Result, arith}
use Rattle.std.specs.List.{flat_map}
use Rattle.std.proofs.lemmas.List.{length-append, length-replicate, take-append-le}
use Rattle.model.specs.Memory.{place, filled}
use Rattle.model.specs.declared.refusal.Refusal.{Refusal}
use Rattle.agreement.specs.Alike.{SameListing}

-- two answers with a number of rules, by the bytes of these rules
pub decides_front : (r r' : Result ℕ Refusal) (after after' : List ℕ) (n : ℕ) (b : Bool) → r ≡ r' → r ≡ Ok n → Decides b (take (8 * n) after ≡ take (8 * n) after') → Decides b (SameListing r r' after after')
decides_front r r' after after' n b same is d = (λ told. (same, λ k at. cc (d.0 told)), λ h. d.1 (h.1 n is))

-- a place has no fewer than eight bytes
length_places : (rules : List (List ℕ)) → 8 * length rules ≤ length (flat_map place rules)
length_places [] = omega arith
length_places (b ∷ rules) = omega (arith, length-append {A = ℕ}, length-replicate {A = ℕ}, length_places rules)

-- the bytes that the rules fill
abbrev front : List (List ℕ) → List ℕ
front rules = take (8 * length rules) (flat_map place rules)

pub front_filled : (rules : List (List ℕ)) (before : List ℕ) → take (8 * length rules) (filled rules before) ≡ front rules
front_filled rules before = take-append-le (8 * length rules) (flat_map place rules) (drop (8 * length rules) before) (length_places rules)
