-- An array made by a closure that changes nothing and answers a function of the index. Assumes nothing.
use Rattle.std.proofs.Common.{◌≡◌, ℕ, zero, suc, ◌+◌, ◌<◌, ◌≤◌, List, get_or, ◌∙◌, subst, refl, inl, inr, arith}
use Rattle.std.specs.Array.{IsFromFnResult, IsFromFnResultFrom}
use Rattle.std.specs.Fn.{Called}
use Rattle.std.proofs.lemmas.Bool.{cases_lt}
use denote.Param.Members.{Mut}

module _ {F : Type 0} (g : Mut F (ℕ × Unit {0}) ℕ) (f : F) (h : ℕ → ℕ) (pure : (i y : ℕ) (q : F) → Called g f (i, tt) y q → (q ≡ f) × (y ≡ h i)) where
  made_from : (p : F) (ys : List ℕ) (i n k : ℕ) → p ≡ f → IsFromFnResultFrom g p ys i n → i ≤ k → k < i + n → get_or ys k 0 ≡ h k
  made_from p ys i zero k same made from below = absurd (omega arith)
  made_from p ys i (suc n) k same made from below =
      let call : Called g f (i, tt) made.1 made.0 = subst (λ (x : F). Called g x (i, tt) made.1 made.0) same made.3 in
      let answer = pure i made.1 made.0 call in
      elim (cases_lt i k) [
        | inl lt ↦ made_from made.0 ys (i + 1) n k answer.0 made.4 (omega arith) (omega arith)
        | inr ge ↦ let at : k ≡ i = omega arith in rw at (made.2.1 0 ∙ answer.1)
      ]

  -- each element is the function at its index
  pub made : (ys : List ℕ) (n k : ℕ) → IsFromFnResult g f ys n → k < n → get_or ys k 0 ≡ h k
  made ys n k is below = made_from f ys 0 n k refl is.each (omega arith) (omega arith)
