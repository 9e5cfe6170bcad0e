-- One weakening suffices: a rule is optimal when no single condition can be weakened. Assumes nothing.
use Rattle.std.proofs.Common.{◌≡◌, ℕ, ◌<◌, true, ◌≢◌, List, length, get_or, set, sym, ap, ◌∙◌, inl, inr, arith}
use Rattle.std.proofs.lemmas.List.{ext_get_or, length-set, get_or-set_same, get_or-set_other}
use Rattle.std.proofs.lemmas.Bool.{cases_eq}
use Rattle.model.specs.Kinds.{Meaning, Laws}
use Rattle.model.specs.Bodies.{Body}
use Rattle.model.specs.Observations.{Observation}
use Rattle.model.specs.Optimal.{Taken, Dominates, Consistent, Optimal}
use Rattle.model.specs.Theory.{Tight, OptimalWhenTight}
use Rattle.model.specs.declared.sense.Sense.{Sense}
use Rattle.model.proofs.Bodies.{length_body}
use Rattle.model.proofs.Domination.{body_code, body_from, dominates_itself, consistent_below}

-- what holds of one condition at its place and of the others at theirs, holds of a rule with that condition changed
pub at_each_set : (P : ℕ → ℕ → Type 0) (b : List ℕ) (i c j : ℕ) → i < length b → P i c → (j ≢ i → P j (get_or b j 0)) → P j (get_or (set b i c) j 0)
at_each_set P b i c j within here others =
    elim (cases_eq j i) [
      | inl e ↦ rw e (rw (get_or-set_same b i c 0 within) here)
      | inr ne ↦ rw (get_or-set_other b i j c 0 ne) (others ne)
    ]

module _ (m : Meaning) (laws : Laws m) (ns : List ℕ) (taken : Taken m ns) where
  pub body_set : (b : List ℕ) (i c : ℕ) → Body m ns b → i < length ns → c < m.conditions (get_or ns i 0) → Body m ns (set b i c)
  body_set b i c body within code =
      let long = length_body m ns b body in
      body_from m ns (set b i c) (length-set b i c ∙ long)
      (λ j h. at_each_set (λ j c. c < m.conditions (get_or ns j 0)) b i c j (omega arith) code (λ _. body_code m ns b body j h))

  -- a weaker condition gives a rule that dominates
  pub set_dominates : (b : List ℕ) (i c : ℕ) → Body m ns b → i < length ns → m.weaker (get_or ns i 0) c (get_or b i 0) ≡ true → Dominates m ns (set b i c) b
  set_dominates b i c body within weaker j h =
      let long = length_body m ns b body in
      at_each_set (λ j c. m.weaker (get_or ns j 0) c (get_or b j 0) ≡ true) b i c j (omega arith) weaker (λ _. dominates_itself m laws ns taken b body j h)

  -- a single condition of a dominating rule gives a rule between the two
  pub dominates_set : (b c : List ℕ) (i : ℕ) → Body m ns b → Body m ns c → i < length ns → Dominates m ns c b → Dominates m ns c (set b i (get_or c i 0))
  dominates_set b c i body other within over j h =
      let long = length_body m ns b body in
      at_each_set (λ j d. m.weaker (get_or ns j 0) (get_or c j 0) d ≡ true) b i (get_or c i 0) j (omega arith) (dominates_itself m laws ns taken c other i within) (λ _. over j h)

  module _ (os : List Observation) (target value : ℕ) (sense : Sense) (b : List ℕ) (body : Body m ns b) where
    tight_from_optimal : Optimal m ns os target value sense b → Tight m ns os target value sense b
    tight_from_optimal best i c within other weaker clear =
        let long = length_body m ns b body in
        let code = (laws.outside.weaker_inside (get_or ns i 0) c (get_or b i 0) weaker).2 in
        let same = best.2 (set b i c) (body_set b i c body within code) clear (set_dominates b i c body within weaker) in
        other (sym (get_or-set_same b i c 0 (omega arith)) ∙ ap (λ (d : List ℕ). get_or d i 0) same)

    optimal_from_tight : Consistent m ns os target value sense b → Tight m ns os target value sense b → Optimal m ns os target value sense b
    optimal_from_tight clear tight = (
      body,
      clear,
      λ c other consistent over.
          let long = length_body m ns c other in
          ext_get_or 0 c b (long ∙ sym (length_body m ns b body))
          (λ i h. let within : i < length ns = omega arith in
          elim (cases_eq (get_or c i 0) (get_or b i 0)) [
            | inl e ↦ e
            | inr ne ↦ absurd (tight i (get_or c i 0) within ne (over i within) (consistent_below m laws ns taken os target value sense c (set b i (get_or c i 0)) (dominates_set b c i body other within over) consistent))
          ]),
    )

    pub optimal_when_tight : OptimalWhenTight m ns os target value sense b
    optimal_when_tight = record { tight = λ best. (best.1, tight_from_optimal best); best = optimal_from_tight }
