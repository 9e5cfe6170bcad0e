-- A clear rule is the only one of those that it dominates that can be best. Assumes nothing.
use Rattle.std.proofs.Common.{◌≡◌, ℕ, ◌<◌, Bool, true, false, not, ◌&&◌, eqb, ◌≢◌, List, [], ◌∷◌, length, get_or, set, sym, refl, ap, ◌∙◌, inl, inr, arith}
use Rattle.std.proofs.lemmas.List.{ext_get_or}
use Rattle.std.proofs.lemmas.Bool.{and_parts, and_from, cases_eq, ne_eqb, false≢true}
use Rattle.model.specs.Kinds.{Meaning, Laws}
use Rattle.model.specs.Bodies.{Body}
use Rattle.model.specs.Optimal.{Taken, Dominates}
use Rattle.model.specs.Rules.{matches}
use Rattle.model.specs.Below.{each_below_at}
use Rattle.model.proofs.Bodies.{length_body}
use Rattle.model.proofs.Domination.{body_code, matches_above}
use Rattle.model.proofs.Ties.{matches_decides}
use Rattle.model.proofs.Weakening.{dominates_set}
use Rattle.search.specs.Opposing.{clear, loose, tight_at, tight, best}

-- a kind takes the sizes of which there is a body
pub taken_body : (m : Meaning) → Laws m → (ns b : List ℕ) → Body m ns b → Taken m ns
taken_body m laws [] [] k = tt
taken_body m laws [] (c ∷ b) k = absurd k
taken_body m laws (n ∷ ns) [] k = absurd k
taken_body m laws (n ∷ ns) (c ∷ b) k = (laws.outside.conditions_inside n (omega (arith, k.0)), taken_body m laws ns b k.1)

misses_below : (over under : Bool) → (under ≡ true → over ≡ true) → not over ≡ true → not under ≡ true
misses_below over false up h = refl
misses_below over true up h = ap not (sym (up refl)) ∙ h

module _ (m : Meaning) (laws : Laws m) (ns : List ℕ) (taken : Taken m ns) where
  pub clear_below : (opposed : List (List ℕ)) (c b : List ℕ) → Dominates m ns c b → clear m ns opposed c ≡ true → clear m ns opposed b ≡ true
  clear_below [] c b over h = refl
  clear_below (v ∷ opposed) c b over h =
      let parts = and_parts (not (matches m ns c v)) (clear m ns opposed c) h in
      and_from (not (matches m ns b v)) (clear m ns opposed b)
      (misses_below (matches m ns c v) (matches m ns b v)
      (λ hit. (matches_decides m ns c v).1 (matches_above m laws ns taken c b v over ((matches_decides m ns b v).0 hit))) parts.0)
      (clear_below opposed c b over parts.1)

  module _ (opposed : List (List ℕ)) (c b : List ℕ) (other : Body m ns c) (body : Body m ns b) (over : Dominates m ns c b) (clears : clear m ns opposed c ≡ true) where
    -- where they differ, the condition of the dominating rule is weaker
    loose_below : (i : ℕ) → i < length ns → get_or c i 0 ≢ get_or b i 0 → loose m ns opposed b i (get_or c i 0) ≡ true
    loose_below i within ne =
        let still : clear m ns opposed (set b i (get_or c i 0)) ≡ true = clear_below opposed c (set b i (get_or c i 0)) (dominates_set m laws ns taken b c i body other within over) clears in
        and_from (not (eqb (get_or c i 0) (get_or b i 0)) && m.weaker (get_or ns i 0) (get_or c i 0) (get_or b i 0)) (clear m ns opposed (set b i (get_or c i 0)))
        (and_from (not (eqb (get_or c i 0) (get_or b i 0))) (m.weaker (get_or ns i 0) (get_or c i 0) (get_or b i 0)) (ap not (ne_eqb (get_or c i 0) (get_or b i 0) ne)) (over i within))
        still

    pub same_from_best : best m ns opposed b ≡ true → b ≡ c
    same_from_best h =
        let long = length_body m ns b body in
        let firm : tight m ns opposed b ≡ true = (and_parts (clear m ns opposed b) (tight m ns opposed b) h).1 in
        ext_get_or 0 b c (long ∙ sym (length_body m ns c other))
        (λ i h. let within : i < length ns = omega arith in
        elim (cases_eq (get_or c i 0) (get_or b i 0)) [
          | inl e ↦ sym e
          | inr ne ↦
              let at : tight_at m ns opposed b i ≡ true = each_below_at (length ns) i (tight_at m ns opposed b) firm within in
              let none : not (loose m ns opposed b i (get_or c i 0)) ≡ true = each_below_at (m.conditions (get_or ns i 0)) (get_or c i 0) (λ c. not (loose m ns opposed b i c)) at (body_code m ns c other i within) in
              absurd (false≢true (sym (ap not (loose_below i within ne)) ∙ none))
        ])
