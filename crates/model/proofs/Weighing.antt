-- The weight of a rule, as a number of different states. Assumes nothing.
use Rattle.std.proofs.Common.{◌≡◌, ℕ, ◌≤◌, Bool, ◌&&◌, List, map, length, Decides, filter, sym, ◌∙◌, subst, arith}
use Rattle.std.specs.List.{ContainsAt as Has}
use Rattle.std.proofs.lemmas.List.Sums.{length-filter}
use Rattle.std.proofs.lemmas.Bool.Decides.{Decides-and}
use Rattle.model.specs.Kinds.{Meaning}
use Rattle.model.specs.Listings.{against}
use Rattle.model.specs.Observations.{Observation}
use Rattle.model.specs.Optimal.{Matches, Shown, Against}
use Rattle.model.specs.Rules.{matches}
use Rattle.model.specs.Sets.{Supports, Supporters, Weighs}
use Rattle.model.specs.Weights.{different, opposite, weight}
use Rattle.model.specs.declared.sense.Sense.{Sense}
use Rattle.model.proofs.Members.{has_map, has_kept, kept_has}
use Rattle.model.proofs.Repeats.{length_once, once_kept, has_different, once_different}
use Rattle.model.proofs.Ties.{matches_decides, against_decides, shown_from_against}

states_have : (os : List Observation) (s : List ℕ) → Shown os s → Has (map (λ o. o.state) os) s
states_have os s o = subst (Has (map (λ o. o.state) os)) o.2 (has_map (λ o. o.state) os o.0 o.1)

module _ (m : Meaning) (ns : List ℕ) (os : List Observation) (target value : ℕ) (sense : Sense) (b : List ℕ) where
  -- the states that a rule's weight counts
  abbrev pub weighed : List (List ℕ)
  weighed = filter (λ s. against os target value (opposite sense) s && matches m ns b s) (different (map (λ o. o.state) os))

  pub supporters : Supporters m ns os target value sense b weighed
  supporters =
      let test : List ℕ → Bool = λ s. against os target value (opposite sense) s && matches m ns b s in
      let states : List (List ℕ) = map (λ o. o.state) os in
      let tie : (s : List ℕ) → Decides (test s) (Supports m ns os target value sense b s) =
      λ s. Decides-and (against os target value (opposite sense) s) (matches m ns b s) (against_decides os target value (opposite sense) s) (matches_decides m ns b s) in
      record {
        once = once_kept test (different states) (once_different states);
        sound = λ s h. (tie s).0 (kept_has test (different states) s h).1;
        whole = λ s both. has_kept test (different states) s (has_different states s (states_have os s (shown_from_against os target value (opposite sense) s both.0))) ((tie s).1 both);
      }

  pub weight_weighed : weight m ns os target value sense b ≡ length weighed
  weight_weighed = sym (length-filter (λ s. against os target value (opposite sense) s && matches m ns b s) (different (map (λ o. o.state) os)))

  pub weighs : Weighs m ns os target value sense b
  weighs = record {
    some = (weighed, supporters);
    each = λ ss others. weight_weighed ∙ length_once weighed ss supporters.once others.once
        (λ s h. others.whole s (supporters.sound s h)) (λ s h. supporters.whole s (others.sound s h));
  }

  -- a state on its own side that a rule matches gives it weight
  pub weight_some : (s : List ℕ) → Against os target value (opposite sense) s → Matches m ns b s → 1 ≤ weight m ns os target value sense b
  weight_some s beside hit = let h = supporters.whole s (beside, hit) in let w = weight_weighed in omega (arith, h.1)
