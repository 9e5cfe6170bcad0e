-- A test that looks at single weakenings only keeps the same rules as the listing. Assumes nothing.
use Rattle.std.proofs.Common.{◌≡◌, ℕ, ◌<◌, Bool, true, not, ◌&&◌, eqb, List, [], ◌∷◌, length, get_or, set, Decides, filter, refl, ◌∙◌, inl, inr}
use Rattle.std.specs.List.{AllByRecursion}
use Rattle.std.proofs.ByRecursion.{All-weaker}
use Rattle.std.proofs.lemmas.Bool.{cases_Bool}
use Rattle.std.proofs.lemmas.Bool.Decides.{same_from_decides, Decides-at, Decides-like, Decides-and, Decides-not, Decides-eqb, Decides-below_and}
use Rattle.model.specs.Bodies.{Body, bodies}
use Rattle.model.specs.Kinds.{Meaning, Laws}
use Rattle.model.specs.Listings.{consistent, optimal, listing}
use Rattle.model.specs.Observations.{Observation}
use Rattle.model.specs.Optimal.{Taken, Consistent}
use Rattle.model.specs.Rules.{each_below}
use Rattle.model.specs.Theory.{Tight}
use Rattle.model.specs.declared.sense.Sense.{Sense}
use Rattle.model.proofs.Bodies.{bodies_are}
use Rattle.model.proofs.Ties.{consistent_decides, optimal_decides}
use Rattle.model.proofs.Weakening.{optimal_when_tight}

pub kept_same : {X : Type 0} (p q : X → Bool) (xs : List X) → AllByRecursion (λ x. p x ≡ q x) xs → filter p xs ≡ filter q xs
kept_same p q [] all = refl
kept_same p q (x ∷ xs) all =
    elim (cases_Bool (q x)) [
      | inl yes' ↦ rw (all.0 ∙ yes', yes', kept_same p q xs all.1)
      | inr not' ↦ rw (all.0 ∙ not', not') (kept_same p q xs all.1)
    ]

-- with a test `free` for consistency: a rule that is free, and no longer free once any single condition is weakened
abbrev pub loose : Meaning → List ℕ → (List ℕ → Bool) → List ℕ → ℕ → ℕ → Bool
loose m ns free b i c = (not (eqb c (get_or b i 0)) && m.weaker (get_or ns i 0) c (get_or b i 0)) && free (set b i c)

abbrev pub tight : Meaning → List ℕ → (List ℕ → Bool) → List ℕ → Bool
tight m ns free b = each_below (length ns) (λ i. each_below (m.conditions (get_or ns i 0)) (λ c. not (loose m ns free b i c)))

module _ (m : Meaning) (laws : Laws m) (ns : List ℕ) (taken : Taken m ns) (os : List Observation) (target value : ℕ) (sense : Sense)
    (free : List ℕ → Bool) (same : (b : List ℕ) → free b ≡ consistent m ns os target value sense b) where
  free_decides : (b : List ℕ) → Decides (free b) (Consistent m ns os target value sense b)
  free_decides b = Decides-at (free b) (consistent m ns os target value sense b) (same b) (consistent_decides m ns os target value sense b)

  loose_decides : (b : List ℕ) (i c : ℕ) → Decides (loose m ns free b i c) (((c ≡ get_or b i 0 → ⊥) × (m.weaker (get_or ns i 0) c (get_or b i 0) ≡ true)) × Consistent m ns os target value sense (set b i c))
  loose_decides b i c =
      Decides-and (not (eqb c (get_or b i 0)) && m.weaker (get_or ns i 0) c (get_or b i 0)) (free (set b i c))
      (Decides-and (not (eqb c (get_or b i 0))) (m.weaker (get_or ns i 0) c (get_or b i 0)) (Decides-not (eqb c (get_or b i 0)) (Decides-eqb c (get_or b i 0))) (λ h. h, λ h. h))
      (free_decides (set b i c))

  tight_decides : (b : List ℕ) → Decides (tight m ns free b) (Tight m ns os target value sense b)
  tight_decides b =
      let never : ℕ → ℕ → Type 0 = λ i c. ((c ≡ get_or b i 0 → ⊥) × (m.weaker (get_or ns i 0) c (get_or b i 0) ≡ true)) × Consistent m ns os target value sense (set b i c) → ⊥ in
      let at : ℕ → ℕ → Bool = λ i n. each_below n (λ c. not (loose m ns free b i c)) in
      Decides-like (tight m ns free b)
      (λ h i c within other weaker clear. h i within c (laws.outside.weaker_inside (get_or ns i 0) c (get_or b i 0) weaker).2 ((other, weaker), clear))
      (λ h i within c code loose. h i c within loose.0.0 loose.0.1 loose.1)
      (Decides-below_and (λ i. at i (m.conditions (get_or ns i 0))) (λ i. (c : ℕ) → c < m.conditions (get_or ns i 0) → never i c)
      (λ n. each_below n (λ i. at i (m.conditions (get_or ns i 0))))
      (λ i. Decides-below_and (λ c. not (loose m ns free b i c)) (never i) (at i) (λ c. Decides-not (loose m ns free b i c) (loose_decides b i c)) refl (λ _. refl) (m.conditions (get_or ns i 0)))
      refl (λ _. refl) (length ns))

  pub listing_tight : filter (λ b. free b && tight m ns free b) (bodies m ns) ≡ listing m ns os target value sense
  listing_tight =
      kept_same (λ b. free b && tight m ns free b) (optimal m ns os target value sense) (bodies m ns)
      (All-weaker (Body m ns) (λ b. (free b && tight m ns free b) ≡ optimal m ns os target value sense b)
      (λ b body. let both = optimal_when_tight m laws ns taken os target value sense b body in
      same_from_decides (free b && tight m ns free b) (optimal m ns os target value sense b)
      (Decides-like (free b && tight m ns free b) (λ h. both.best h.0 h.1) (λ h. both.tight h) (Decides-and (free b) (tight m ns free b) (free_decides b) (tight_decides b)))
      (optimal_decides m ns os target value sense b body))
      (bodies m ns) (bodies_are m ns))
