-- The forecast at a shown state. Assumes nothing.
use Rattle.std.proofs.Common.{◌≡◌, ℕ, ◌*◌, ◌/◌, ◌≤◌, Bool, true, false, cond, eqb, List, [], ◌∷◌, map, None, filter, Option, unwrap_or, refl, ap, ◌∙◌, subst, inl, inr, add-zero, zero-add, mul-div_cancel, arith}
use native.Mathlib.Nat.{zero-div}
use Rattle.std.specs.List.{AllByRecursion}
use Rattle.std.proofs.ByRecursion.{all-has}
use Rattle.std.proofs.lemmas.Bool.{cases_Bool, ne_eqb}
use Rattle.model.specs.Kinds.{Meaning, Laws}
use Rattle.model.specs.Listings.{listing}
use Rattle.model.specs.Observations.{Observation}
use Rattle.model.specs.Optimal.{Taken, Against}
use Rattle.model.specs.Rules.{matches}
use Rattle.model.specs.Telling.{StatesFit, Told}
use Rattle.model.specs.Values.{Fitting}
use Rattle.model.specs.Forecasts.{percentage}
use Rattle.model.specs.Weights.{greatest, opposite, weight, best_weight}
use Rattle.model.specs.declared.sense.Sense.{Sense}
use Rattle.model.specs.declared.sense.Sense.TheVariants.{Can, Cannot}
use Rattle.model.proofs.Greatest.{greatest_le}
use Rattle.model.proofs.Members.{all_from_has, has_kept}
use Rattle.model.proofs.Pins.{matching_rule}
use Rattle.model.proofs.Ties.{matches_decides, shown_from_against, listing_has}
use Rattle.model.proofs.Weighing.{weight_some}

kept_none : {X : Type 0} (p : X → Bool) (xs : List X) → AllByRecursion (λ x. p x ≡ true → ⊥) xs → filter p xs ≡ []
kept_none p [] all = refl
kept_none p (x ∷ xs) all = elim (cases_Bool (p x)) [ inl yes' ↦ absurd (all.0 yes') | inr not' ↦ rw not' (kept_none p xs all.1) ]

-- a state is not against in one sense where it is against in the other
one_side : (os : List Observation) (target value : ℕ) (sense : Sense) (s : List ℕ) → Against os target value (opposite sense) s → Against os target value sense s → ⊥
one_side os target value Can s beside opposed = opposed.1 beside
one_side os target value Cannot s beside opposed = beside.1 opposed

pub percentage_all : (w : ℕ) → 1 ≤ w → percentage w 0 ≡ 100
percentage_all w some =
    let least : eqb w 0 ≡ false = ne_eqb w 0 (λ e. let z : ⊥ = omega arith in z) in
    ap (λ (n : ℕ). cond (eqb n 0) 50 (100 * w / n)) (add-zero w) ∙ ap (λ (t : Bool). cond t 50 (100 * w / w)) least ∙ mul-div_cancel 100 some

pub percentage_none : (w : ℕ) → 1 ≤ w → percentage 0 w ≡ 0
percentage_none w some =
    let least : eqb w 0 ≡ false = ne_eqb w 0 (λ e. let z : ⊥ = omega arith in z) in
    ap (λ (n : ℕ). cond (eqb n 0) 50 (0 / n)) (zero-add w) ∙ ap (λ (t : Bool). cond t 50 (0 / w)) least ∙ zero-div w

module _ (m : Meaning) (laws : Laws m) (ns : List ℕ) (taken : Taken m ns) (os : List Observation) (fit : StatesFit ns os) (target value : ℕ) (s : List ℕ) where
  -- no rule matches a state against
  best_weight_none : (sense : Sense) → Against os target value sense s → best_weight m ns os target value sense s ≡ None
  best_weight_none sense opposed =
      ap (λ (bs : List (List ℕ)). greatest (map (weight m ns os target value sense) bs))
      (kept_none (λ b. matches m ns b s) (listing m ns os target value sense)
      (all_from_has (λ b. matches m ns b s ≡ true → ⊥) (listing m ns os target value sense)
      (λ b h hit. (listing_has m ns os target value sense b h).1 s opposed ((matches_decides m ns b s).0 hit))))

  -- a rule that matches a state on its own side has weight
  best_weight_some : (sense : Sense) → Against os target value (opposite sense) s → 1 ≤ unwrap_or (best_weight m ns os target value sense s) 0
  best_weight_some sense beside =
      let o = shown_from_against os target value (opposite sense) s beside in
      let fits = subst (Fitting ns) o.2 (all-has (λ o. Fitting ns o.state) os o.0 fit o.1) in
      let r = matching_rule m laws ns taken s fits os fit target value sense (one_side os target value sense s beside) in
      let w = weight_some m ns os target value sense r.0 s beside r.2 in
      let le = greatest_le (weight m ns os target value sense) (filter (λ b. matches m ns b s) (listing m ns os target value sense)) r.0
      (has_kept (λ b. matches m ns b s) (listing m ns os target value sense) r.0 r.1 ((matches_decides m ns r.0 s).1 r.2)) in
      omega arith

  pub told : Told m ns os target value s
  told = record {
    with_head = λ w.
        let pro : ℕ = unwrap_or (best_weight m ns os target value Can s) 0 in
        let some : 1 ≤ pro = best_weight_some Can w in (
          pro,
          some,
          ap (λ (contra : Option ℕ). (pro, unwrap_or contra 0, percentage pro (unwrap_or contra 0))) (best_weight_none Cannot w)
              ∙ ap (λ (percent : ℕ). (pro, 0, percent)) (percentage_all pro some),
        );
    without = λ shown never.
        let contra : ℕ = unwrap_or (best_weight m ns os target value Cannot s) 0 in
        let some : 1 ≤ contra = best_weight_some Cannot (shown, never) in (
          contra,
          some,
          ap (λ (pro : Option ℕ). (unwrap_or pro 0, contra, percentage (unwrap_or pro 0) contra)) (best_weight_none Can (shown, never))
              ∙ ap (λ (percent : ℕ). (0, contra, percent)) (percentage_none contra some),
        );
  }
