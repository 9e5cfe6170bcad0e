-- What depends on the set of observations only. Assumes nothing.
use Rattle.std.proofs.Common.{◌≡◌, ℕ, Bool, not, ◌&&◌, ◌||◌, List, map, filter, Option, unwrap_or, sym, ap, ◌∙◌}
use mathlib.Core.Path.{fun_ext}
use Rattle.std.specs.List.{ContainsAt as Has, list_all}
use Rattle.std.specs.Str.{bytes_eq}
use Rattle.std.proofs.lemmas.Bool.Decides.{same_from_decides, Decides-like}
use Rattle.model.specs.Bodies.{bodies}
use Rattle.model.specs.Kinds.{Meaning}
use Rattle.model.specs.Listings.{consistent, listing}
use Rattle.model.specs.Observations.{Observation}
use Rattle.model.specs.Optimal.{Among, Against}
use Rattle.model.specs.Rules.{matches, dominates}
use Rattle.model.specs.Sets.{SameSet}
use Rattle.model.specs.Forecasts.{percentage}
use Rattle.model.specs.Weights.{greatest, opposite, weight, best_weight, forecast}
use Rattle.model.specs.declared.sense.Sense.{Sense}
use Rattle.model.specs.declared.sense.Sense.TheVariants.{Can, Cannot}
use Rattle.model.proofs.Ties.{consistent_decides}
use Rattle.model.proofs.Weighing.{weighed, supporters, weight_weighed, weighs}

among_more : (os ps : List Observation) → ((o : Observation) → Has os o → Has ps o) → (P : Observation → Type 0) → Among os P → Among ps P
among_more os ps inside P a = (a.0, inside a.0 a.1, a.2)

against_same : (os ps : List Observation) → SameSet os ps → (target value : ℕ) (sense : Sense) (s : List ℕ) → Against os target value sense s → Against ps target value sense s
against_same os ps same target value Can s a =
    (among_more os ps (λ o. (same o).0) (λ o. o.state ≡ s) a.0, λ w. a.1 (among_more ps os (λ o. (same o).1) _ w))
against_same os ps same target value Cannot s a = among_more os ps (λ o. (same o).0) _ a

module _ (m : Meaning) (ns : List ℕ) (os ps : List Observation) (same : SameSet os ps) (target value : ℕ) where
  back : SameSet ps os
  back o = ((same o).1, (same o).0)

  consistent_same : (sense : Sense) (b : List ℕ) → consistent m ns os target value sense b ≡ consistent m ns ps target value sense b
  consistent_same sense b =
      same_from_decides (consistent m ns os target value sense b) (consistent m ns ps target value sense b)
      (consistent_decides m ns os target value sense b)
      (Decides-like (consistent m ns ps target value sense b)
      (λ clear s a. clear s (against_same os ps same target value sense s a))
      (λ clear s a. clear s (against_same ps os back target value sense s a))
      (consistent_decides m ns ps target value sense b))

  pub listing_same : (sense : Sense) → listing m ns os target value sense ≡ listing m ns ps target value sense
  listing_same sense =
      ap (λ (free : List ℕ → Bool). filter (λ b. free b && list_all (λ c. not (free c && dominates m ns c b) || bytes_eq c b) (bodies m ns)) (bodies m ns))
      (fun_ext (consistent_same sense))

  pub weight_same : (sense : Sense) (b : List ℕ) → weight m ns os target value sense b ≡ weight m ns ps target value sense b
  weight_same sense b =
      let there = supporters m ns ps target value sense b in
      (weighs m ns os target value sense b).each (weighed m ns ps target value sense b)
      (record {
        once = there.once;
        sound = λ s h. let r = there.sound s h in (against_same ps os back target value (opposite sense) s r.0, r.1);
        whole = λ s r. there.whole s (against_same os ps same target value (opposite sense) s r.0, r.1);
      })
      ∙ sym (weight_weighed m ns ps target value sense b)

  pub best_weight_same : (sense : Sense) (s : List ℕ) → best_weight m ns os target value sense s ≡ best_weight m ns ps target value sense s
  best_weight_same sense s =
      ap (λ (w : List ℕ → ℕ). greatest (map w (filter (λ b. matches m ns b s) (listing m ns os target value sense)))) (fun_ext (weight_same sense))
      ∙ ap (λ (bs : List (List ℕ)). greatest (map (weight m ns ps target value sense) (filter (λ b. matches m ns b s) bs))) (listing_same sense)

  pub forecast_same : (s : List ℕ) → forecast m ns os target value s ≡ forecast m ns ps target value s
  forecast_same s =
      let answer : Option ℕ → Option ℕ → ℕ × ℕ × ℕ = λ pro contra. (unwrap_or pro 0, unwrap_or contra 0, percentage (unwrap_or pro 0) (unwrap_or contra 0)) in
      ap (λ (pro : Option ℕ). answer pro (best_weight m ns os target value Cannot s)) (best_weight_same Can s)
      ∙ ap (λ (contra : Option ℕ). answer (best_weight m ns ps target value Can s) contra) (best_weight_same Cannot s)
