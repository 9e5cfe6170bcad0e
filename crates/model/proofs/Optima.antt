-- Every consistent rule is dominated by an optimal one, and any rival set contains the listing. Assumes nothing.
use Rattle.std.proofs.Common.{ℕ, ◌&&◌, List, [], ◌∷◌, subst, inl, inr}
use Rattle.std.specs.List.{ContainsAt as Has, AllByRecursion}
use Rattle.std.proofs.ByRecursion.{all-has}
use Rattle.std.proofs.lemmas.Bool.{cases_Bool, both_ways}
use Rattle.model.specs.Exactly.{Rivals}
use Rattle.model.specs.Kinds.{Meaning, Laws}
use Rattle.model.specs.Bodies.{Body, bodies}
use Rattle.model.specs.Listings.{consistent, listing}
use Rattle.model.specs.Observations.{Observation}
use Rattle.model.specs.Optimal.{Taken, Dominates, Consistent, Optimal}
use Rattle.model.specs.Theory.{OptimumAbove}
use Rattle.model.specs.Rules.{dominates}
use Rattle.model.specs.declared.sense.Sense.{Sense}
use Rattle.model.proofs.Bodies.{bodies_are}
use Rattle.model.proofs.Domination.{dominates_itself, dominates_through, same_from_dominates}
use Rattle.model.proofs.Members.{all_from_has}
use Rattle.model.proofs.Ties.{above_decides, has_bodies, listing_has}

module _ (m : Meaning) (laws : Laws m) (ns : List ℕ) (taken : Taken m ns) (os : List Observation) (target value : ℕ) (sense : Sense) where
  -- a consistent rule above b, that no rule of a list is above
  pub record Highest (b : List ℕ) (cs : List (List ℕ)) (r : List ℕ) : Type 0 where
    body : Body m ns r
    clear : Consistent m ns os target value sense r
    above : Dominates m ns r b
    top : AllByRecursion (λ c. Consistent m ns os target value sense c → Dominates m ns c r → Dominates m ns r c) cs

  -- go up to each rule of the list that is consistent and dominates the one reached: a rule passed by is not above the last
  highest : (cs : List (List ℕ)) → AllByRecursion (Body m ns) cs → (b : List ℕ) → Body m ns b → Consistent m ns os target value sense b → (r : List ℕ) × Highest b cs r
  highest [] all b body clear = (b, record { body = body; clear = clear; above = dominates_itself m laws ns taken b body; top = tt })
  highest (c ∷ cs) all b body clear =
      let tie = above_decides m ns os target value sense b c in
      elim (cases_Bool (consistent m ns os target value sense c && dominates m ns c b)) [
        | inl both ↦
            let parts = tie.0 both in
            let r = highest cs all.1 c all.0 parts.0 in (
              r.0,
              record {
                body = r.1.body;
                clear = r.1.clear;
                above = dominates_through m laws ns taken r.0 c b r.1.above parts.1;
                top = (λ _ _. r.1.above, r.1.top);
              },
            )
        | inr neither ↦
            let r = highest cs all.1 b body clear in (
              r.0,
              record {
                body = r.1.body;
                clear = r.1.clear;
                above = r.1.above;
                top = (λ free over. absurd (both_ways (consistent m ns os target value sense c && dominates m ns c b) neither (tie.1 (free, dominates_through m laws ns taken c r.0 b over r.1.above))), r.1.top);
              },
            )
      ]

  pub optimum_above : OptimumAbove m ns os target value sense
  optimum_above b body clear =
      let r = highest (bodies m ns) (bodies_are m ns) b body clear in
      let best : Optimal m ns os target value sense r.0 = (
        r.1.body,
        r.1.clear,
        λ c other consistent over.
            same_from_dominates m laws ns taken c r.0 other r.1.body over
            (all-has (λ d. Consistent m ns os target value sense d → Dominates m ns d r.0 → Dominates m ns r.0 d) (bodies m ns) c r.1.top (has_bodies m ns c other) consistent over),
      ) in
      (r.0, best, r.1.above)

module _ (m : Meaning) (ns : List ℕ) (os : List Observation) (target value : ℕ) (sense : Sense) where
  -- an optimal rule is the one that its rival set has above it
  pub rivals_have : (rules : List (List ℕ)) → Rivals m ns os target value sense rules → AllByRecursion (Has rules) (listing m ns os target value sense)
  rivals_have rules rivals =
      all_from_has (Has rules) (listing m ns os target value sense)
      (λ b has. let best = listing_has m ns os target value sense b has in
      let c = rivals.dominating b best.0 best.1 in
      let known = all-has (λ d. Body m ns d × Consistent m ns os target value sense d) rules c.0 rivals.consistent c.1 in
      subst (Has rules) (best.2 c.0 known.0 known.1 c.2) c.1)
