-- The can listings of all heads are the optimal program. Assumes nothing.
use Rattle.std.proofs.Common.{ℕ, ◌<◌, ◌≤◌, List, length, get_or, sym, refl, subst, inl, inr}
use Rattle.std.specs.List.{ContainsAt as Has, AllByRecursion}
use Rattle.std.proofs.ByRecursion.{all-has, All-get_or}
use Rattle.std.proofs.lemmas.Bool.{cases_Bool, both_ways}
use Rattle.model.specs.Bodies.{Body}
use Rattle.model.specs.Kinds.{Meaning, Laws}
use Rattle.model.specs.Listings.{shown, listing}
use Rattle.model.specs.Observations.{Observation}
use Rattle.model.specs.Optimal.{Among, Taken, Matches, Dominates, Consistent}
use Rattle.model.specs.Program.{Suitable, OptimalProgram, OutcomesFit}
use Rattle.model.specs.Telling.{StatesFit}
use Rattle.model.specs.Values.{Fitting}
use Rattle.model.specs.declared.sense.Sense.TheVariants.{Can}
use Rattle.model.proofs.Domination.{dominates_itself}
use Rattle.model.proofs.Members.{all_from_has}
use Rattle.model.proofs.Optima.{optimum_above}
use Rattle.model.proofs.Pins.{matching_rule}
use Rattle.model.proofs.Ties.{shown_decides, has_listing, listing_has}

module _ (m : Meaning) (laws : Laws m) (ns ts : List ℕ) (taken : Taken m ns) (some : AllByRecursion (λ n. 1 ≤ n) ts) (os : List Observation) (states : StatesFit ns os) (outcomes : OutcomesFit ts os) where
  realizes : (o : Observation) → Has os o → (target : ℕ) → Among (listing m ns os target (get_or o.outcome target 0) Can) (λ b. Matches m ns b o.state)
  realizes o h target =
      matching_rule m laws ns taken o.state (all-has (λ o. Fitting ns o.state) os o states h) os states target (get_or o.outcome target 0) Can
      (λ opposed. opposed.1 (o, h, (refl, refl)))

  completes : (s : List ℕ) → Fitting ns s → (target : ℕ) → target < length ts
      → (value : ℕ) × (value < get_or ts target 0) × Among (listing m ns os target value Can) (λ b. Matches m ns b s)
  completes s fits target within =
      elim (cases_Bool (shown os s)) [
        | inl seen ↦
            let o = (shown_decides os s).0 seen in (
              get_or o.0.outcome target 0,
              (all-has (λ o. Fitting ts o.outcome) os o.0 outcomes o.1).1 target within,
              subst (λ (t : List ℕ). Among (listing m ns os target (get_or o.0.outcome target 0) Can) (λ b. Matches m ns b t)) o.2 (realizes o.0 o.1 target),
            )
        | inr unseen ↦ (
          0,
          All-get_or (λ n. 1 ≤ n) ts target 0 within some,
          matching_rule m laws ns taken s fits os states target 0 Can (λ opposed. both_ways (shown os s) unseen ((shown_decides os s).1 opposed.0)),
        )
      ]

  suitable : Suitable m ns ts os (λ target value. listing m ns os target value Can)
  suitable = record {
    consistent = λ target value known. all_from_has (λ b. Body m ns b × Consistent m ns os target value Can b) (listing m ns os target value Can)
        (λ b h. let best = listing_has m ns os target value Can b h in (best.0, best.1));
    realizing = λ o h target within. realizes o h target;
    complete = completes;
    dominating = λ target value known b body clear. let best = optimum_above m laws ns taken os target value Can b body clear in
        (best.0, has_listing m ns os target value Can best.0 best.1, best.2);
  }

  pub optimal_program : OptimalProgram m ns ts os (λ target value. listing m ns os target value Can)
  optimal_program = record {
    suitable = suitable;
    maximal = λ other fair target value known b c h k over.
        let best = listing_has m ns os target value Can b h in
        let sound = all-has (λ d. Body m ns d × Consistent m ns os target value Can d) (other target value) c (fair.consistent target value known) k in
        subst (λ (d : List ℕ). Dominates m ns b d) (sym (best.2 c sound.0 sound.1 over)) (dominates_itself m laws ns taken b best.0);
  }
