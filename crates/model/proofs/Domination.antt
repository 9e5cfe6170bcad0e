-- Domination of one rule by another, from the laws of a kind. Assumes nothing.
use Rattle.std.proofs.Common.{◌≡◌, ℕ, zero, suc, ◌<◌, ◌≤◌, List, [], ◌∷◌, length, get_or, sym, ◌∙◌, le_of_suc-le-suc, not-suc-le-zero, arith}
use Rattle.std.proofs.ByRecursion.{All-get_or}
use Rattle.std.proofs.lemmas.List.{ext_get_or}
use Rattle.model.specs.Kinds.{Meaning, Fair, Laws}
use Rattle.model.specs.Bodies.{Body}
use Rattle.model.specs.Observations.{Observation}
use Rattle.model.specs.Optimal.{Taken, Matches, Dominates, Consistent}
use Rattle.model.specs.declared.sense.Sense.{Sense}
use Rattle.model.proofs.Bodies.{length_body}

module _ (m : Meaning) where
  pub body_code : (ns b : List ℕ) → Body m ns b → (i : ℕ) → i < length ns → get_or b i 0 < m.conditions (get_or ns i 0)
  body_code [] b k i h = absurd (not-suc-le-zero h)
  body_code (n ∷ ns) [] k i h = absurd k
  body_code (n ∷ ns) (c ∷ b) k zero h = k.0
  body_code (n ∷ ns) (c ∷ b) k (suc i) h = body_code ns b k.1 i (le_of_suc-le-suc h)

  pub body_from : (ns b : List ℕ) → length b ≡ length ns → ((i : ℕ) → i < length ns → get_or b i 0 < m.conditions (get_or ns i 0)) → Body m ns b
  body_from [] [] e f = tt
  body_from [] (c ∷ b) e f = let z : ⊥ = omega arith in absurd z
  body_from (n ∷ ns) [] e f = let z : ⊥ = omega arith in absurd z
  body_from (n ∷ ns) (c ∷ b) e f = (f 0 (omega arith), body_from ns b (omega arith) (λ i h. f (suc i) (omega arith)))

module _ (m : Meaning) (laws : Laws m) (ns : List ℕ) (taken : Taken m ns) where
  pub fair : (i : ℕ) → i < length ns → Fair m (get_or ns i 0)
  fair i h = let size = All-get_or (λ n. (2 ≤ n) × (n ≤ m.largest)) ns i 0 h taken in laws.at (get_or ns i 0) size.0 size.1

  pub dominates_itself : (b : List ℕ) → Body m ns b → Dominates m ns b b
  dominates_itself b body i h = (fair i h).reflexive (get_or b i 0) (body_code m ns b body i h)

  pub dominates_through : (b c d : List ℕ) → Dominates m ns b c → Dominates m ns c d → Dominates m ns b d
  dominates_through b c d over under i h = (fair i h).transitive (get_or b i 0) (get_or c i 0) (get_or d i 0) (over i h) (under i h)

  pub same_from_dominates : (b c : List ℕ) → Body m ns b → Body m ns c → Dominates m ns b c → Dominates m ns c b → b ≡ c
  same_from_dominates b c body other over under =
      let long = length_body m ns b body in
      ext_get_or 0 b c (long ∙ sym (length_body m ns c other))
      (λ i h. let lt : i < length ns = omega arith in (fair i lt).antisymmetric (get_or b i 0) (get_or c i 0) (over i lt) (under i lt))

  pub matches_above : (c b s : List ℕ) → Dominates m ns c b → Matches m ns b s → Matches m ns c s
  matches_above c b s over hit i h = (fair i h).passes (get_or c i 0) (get_or b i 0) (get_or s i 0) (over i h) (hit i h)

  pub consistent_below : (os : List Observation) (target value : ℕ) (sense : Sense) (c b : List ℕ) → Dominates m ns c b
      → Consistent m ns os target value sense c → Consistent m ns os target value sense b
  consistent_below os target value sense c b over clear s opposed hit = clear s opposed (matches_above c b s over hit)
