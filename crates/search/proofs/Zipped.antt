-- A test of three lists place by place: of the first place, and of the others. Assumes nothing.
use Rattle.std.proofs.Common.{◌≡◌, ℕ, zero, suc, ◌≤◌, Bool, true, false, ◌&&◌, ◌⊎◌, List, ◌∷◌, length, get_or, refl, sym, ap, ◌∙◌, inl, inr, arith}
use Rattle.model.specs.Rules.{each_below}

and_swap : (x y z : Bool) → (x && (y && z)) ≡ (y && (x && z))
and_swap true true z = refl
and_swap true false z = refl
and_swap false true z = refl
and_swap false false z = refl

each_below_first : (n : ℕ) (test : ℕ → Bool) → each_below (suc n) test ≡ (test 0 && each_below n (λ i. test (suc i)))
each_below_first zero test = refl
each_below_first (suc n) test =
    ap (λ (t : Bool). test (suc n) && t) (each_below_first n test) ∙ and_swap (test (suc n)) (test 0) (each_below n (λ i. test (suc i)))

module _ {X : Type 0} (test : ℕ → ℕ → X → Bool) (d : X) where
  -- the test holds at each place of the first list
  abbrev pub passes : List ℕ → List ℕ → List X → Bool
  passes ns cs xs = each_below (length ns) (λ i. test (get_or ns i 0) (get_or cs i 0) (get_or xs i d))

  pub passes_first : (ns cs : List ℕ) (xs : List X) (n : ℕ) (ms : List ℕ) (c : ℕ) (bs : List ℕ) (x : X) (ys : List X) → ns ≡ n ∷ ms → cs ≡ c ∷ bs → xs ≡ x ∷ ys
      → passes ns cs xs ≡ (test n c x && passes ms bs ys)
  passes_first ns cs xs n ms c bs x ys first second third =
      rw (first, second, third) (each_below_first (length ms) (λ i. test (get_or (n ∷ ms) i 0) (get_or (c ∷ bs) i 0) (get_or (x ∷ ys) i d)))

  pub passes_none : (ns cs : List ℕ) (xs : List X) → length ns ≡ 0 → true ≡ passes ns cs xs
  passes_none ns cs xs none = sym (ap (λ (n : ℕ). each_below n (λ i. test (get_or ns i 0) (get_or cs i 0) (get_or xs i d))) none)

-- of three zipped lists that end at one of them, the first, which is no longer than the others, has ended
pub all_ended : {Z A B C : Type 0} {P : A → Type 0} {Q : B → Type 0} {R : C → Type 0} (x y z : ℕ)
    → ◌⊎◌ (Z × ◌⊎◌ ((a : A) × ((x ≡ 0) × P a)) ((b : B) × ((y ≡ 0) × Q b))) ((c : C) × ((z ≡ 0) × R c)) → x ≤ y → x ≤ z → x ≡ 0
all_ended x y z (inl (_, inl first)) second third = first.1.0
all_ended x y z (inl (_, inr middle)) second third = let e = middle.1.0 in omega arith
all_ended x y z (inr last) second third = let e = last.1.0 in omega arith
