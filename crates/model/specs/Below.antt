-- Tests at each number below a bound. Assumes nothing.
use Rattle.std.specs.Prelude.{◌≡◌, ℕ, zero, suc, ◌+◌, ◌<◌, Bool, true, false, ◌&&◌, refl}
use Rattle.std.proofs.Common.{not-suc-le-zero, add-one, arith, sym, ap, ◌∙◌, inl, inr}
use Rattle.std.proofs.lemmas.Bool.{and_parts, cases_eq}
use Rattle.model.specs.Rules.{each_below}

and_false : (x : Bool) → (x && false) ≡ false
and_false true = refl
and_false false = refl

pub each_below_more : (n : ℕ) (test : ℕ → Bool) → each_below n test ≡ true → test n ≡ true → each_below (n + 1) test ≡ true
each_below_more n test before here = ap (λ (k : ℕ). each_below k test) (add-one n) ∙ ap (λ (t : Bool). t && each_below n test) here ∙ before

pub each_below_at : (n k : ℕ) (test : ℕ → Bool) → each_below n test ≡ true → k < n → test k ≡ true
each_below_at zero k test all lt = absurd (not-suc-le-zero lt)
each_below_at (suc n) k test all lt =
    let parts = and_parts (test n) (each_below n test) all in
    elim (cases_eq k n) [ inl e ↦ ap test e ∙ parts.0 | inr ne ↦ each_below_at n k test parts.1 (omega arith) ]

pub each_below_fails : (n k : ℕ) (test : ℕ → Bool) → k < n → test k ≡ false → each_below n test ≡ false
each_below_fails zero k test lt bad = absurd (not-suc-le-zero lt)
each_below_fails (suc n) k test lt bad =
    elim (cases_eq k n) [
      | inl e ↦ ap (λ (t : Bool). t && each_below n test) (ap test (sym e) ∙ bad)
      | inr ne ↦ ap (λ (t : Bool). test n && t) (each_below_fails n k test (omega arith) bad) ∙ and_false (test n)
    ]

pub each_below_same : (n : ℕ) (test other : ℕ → Bool) → ((k : ℕ) → k < n → test k ≡ other k) → each_below n test ≡ each_below n other
each_below_same zero test other same = refl
each_below_same (suc n) test other same =
    ap (λ (t : Bool). t && each_below n test) (same n (omega arith)) ∙ ap (λ (t : Bool). other n && t) (each_below_same n test other (λ k h. same k (omega arith)))
