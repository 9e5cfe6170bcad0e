-- The tests of a listing decide the relations. Assumes nothing.
use Rattle.std.proofs.Common.{◌≡◌, ℕ, Bool, true, not, ◌&&◌, ◌||◌, eqb, ◌⊎◌, List, [], ◌∷◌, map, length, get_or, Decides, refl, inl, inr}
use Rattle.std.specs.List.{range_with_len, ContainsAt as Has, list_all}
use Rattle.std.specs.Str.{bytes_eq}
use Rattle.std.proofs.ByRecursion.{all-has}
use Rattle.std.proofs.lemmas.Slice.Eq.{bytes_eq-Decides}
use Rattle.std.proofs.lemmas.Bool.{cases_Bool, both_ways}
use Rattle.std.proofs.lemmas.Bool.Decides.{Decides-below_and, Decides-and, Decides-or, Decides-not, Decides-eqb, Decides-like}
use Rattle.model.specs.Kinds.{Meaning}
use Rattle.model.specs.Bodies.{Body, bodies}
use Rattle.model.specs.Listings.{shown, shown_with, against, consistent, optimal, listing}
use Rattle.model.specs.Observations.{Observation}
use Rattle.model.specs.Optimal.{Matches, Dominates, Shown, ShownWith, Against, Consistent, Optimal}
use Rattle.model.specs.Rules.{each_below, matches, dominates}
use Rattle.model.specs.declared.sense.Sense.{Sense}
use Rattle.model.specs.declared.sense.Sense.TheVariants.{Can, Cannot}
use Rattle.model.proofs.Bodies.{bodies_are}
use Rattle.model.proofs.Members.{has_here, has_map, has_joined, has_counting, has_kept, kept_has}
use Rattle.model.proofs.Passing.{some_decides, all_decides}

module _ (m : Meaning) (ns : List ℕ) where
  pub matches_decides : (b s : List ℕ) → Decides (matches m ns b s) (Matches m ns b s)
  matches_decides b s =
      let test : ℕ → Bool = λ i. m.holds (get_or ns i 0) (get_or b i 0) (get_or s i 0) in
      Decides-below_and test (λ i. test i ≡ true) (λ n. each_below n test) (λ k. (λ h. h, λ h. h)) refl (λ _. refl) (length ns)

  pub dominates_decides : (c b : List ℕ) → Decides (dominates m ns c b) (Dominates m ns c b)
  dominates_decides c b =
      let test : ℕ → Bool = λ i. m.weaker (get_or ns i 0) (get_or c i 0) (get_or b i 0) in
      Decides-below_and test (λ i. test i ≡ true) (λ n. each_below n test) (λ k. (λ h. h, λ h. h)) refl (λ _. refl) (length ns)

module _ (os : List Observation) where
  pub shown_decides : (s : List ℕ) → Decides (shown os s) (Shown os s)
  shown_decides s = some_decides (λ o. bytes_eq o.state s) (λ o. o.state ≡ s) (λ o. bytes_eq-Decides o.state s) os

  module _ (target value : ℕ) where
    pub shown_with_decides : (s : List ℕ) → Decides (shown_with os target value s) (ShownWith os target value s)
    shown_with_decides s =
        some_decides (λ o. bytes_eq o.state s && eqb (get_or o.outcome target 0) value) (λ o. (o.state ≡ s) × (get_or o.outcome target 0 ≡ value))
        (λ o. Decides-and (bytes_eq o.state s) (eqb (get_or o.outcome target 0) value) (bytes_eq-Decides o.state s) (Decides-eqb (get_or o.outcome target 0) value))
        os

    pub against_decides : (sense : Sense) (s : List ℕ) → Decides (against os target value sense s) (Against os target value sense s)
    against_decides Can s =
        Decides-and (shown os s) (not (shown_with os target value s)) (shown_decides s) (Decides-not (shown_with os target value s) (shown_with_decides s))
    against_decides Cannot s = shown_with_decides s

    pub shown_from_with : (s : List ℕ) → ShownWith os target value s → Shown os s
    shown_from_with s w = (w.0, w.1, w.2.0)

    pub shown_from_against : (sense : Sense) (s : List ℕ) → Against os target value sense s → Shown os s
    shown_from_against Can s a = a.0
    shown_from_against Cannot s a = shown_from_with s a

module _ (m : Meaning) where
  pub has_bodies : (ns b : List ℕ) → Body m ns b → Has (bodies m ns) b
  has_bodies [] [] k = has_here [] []
  has_bodies [] (c ∷ b) k = absurd k
  has_bodies (n ∷ ns) [] k = absurd k
  has_bodies (n ∷ ns) (c ∷ b) k =
      has_joined (λ c. map (λ b. c ∷ b) (bodies m ns)) (range_with_len 0 (m.conditions n)) c (c ∷ b) (has_counting (m.conditions n) c k.0)
      (has_map (λ b. c ∷ b) (bodies m ns) b (has_bodies ns b k.1))

module _ (m : Meaning) (ns : List ℕ) (os : List Observation) (target value : ℕ) (sense : Sense) where
  both_decide : (b s : List ℕ) → Decides (not (against os target value sense s && matches m ns b s)) (Against os target value sense s × Matches m ns b s → ⊥)
  both_decide b s =
      Decides-not (against os target value sense s && matches m ns b s)
      (Decides-and (against os target value sense s) (matches m ns b s) (against_decides os target value sense s) (matches_decides m ns b s))

  pub consistent_decides : (b : List ℕ) → Decides (consistent m ns os target value sense b) (Consistent m ns os target value sense b)
  consistent_decides b =
      Decides-like (consistent m ns os target value sense b)
      (λ clear s opposed hit. let o = shown_from_against os target value sense s opposed in
      clear o.0 o.1 (rw o.2 (opposed, hit)))
      (λ clear o has both. clear o.state both.0 both.1)
      (all_decides (λ o. not (against os target value sense o.state && matches m ns b o.state))
      (λ o. Against os target value sense o.state × Matches m ns b o.state → ⊥)
      (λ o. both_decide b o.state) os)

  pub above_decides : (b c : List ℕ) → Decides (consistent m ns os target value sense c && dominates m ns c b) (Consistent m ns os target value sense c × Dominates m ns c b)
  above_decides b c = Decides-and (consistent m ns os target value sense c) (dominates m ns c b) (consistent_decides c) (dominates_decides m ns c b)

  -- of a body, since the test looks at bodies only
  pub optimal_decides : (b : List ℕ) → Body m ns b → Decides (optimal m ns os target value sense b) (Optimal m ns os target value sense b)
  optimal_decides b body =
      let test : List ℕ → Bool = λ c. consistent m ns os target value sense c && dominates m ns c b in
      Decides-like (optimal m ns os target value sense b)
      (λ h. (body, h.0, λ c k clear above. elim (h.1 c (has_bodies m ns c k)) [ inl never ↦ absurd (never (clear, above)) | inr same ↦ same ]))
      (λ best. (
        best.1,
        λ c has. elim (cases_Bool (test c)) [
          | inl both ↦ let parts = (above_decides b c).0 both in inr (best.2 c (all-has (Body m ns) (bodies m ns) c (bodies_are m ns) has) parts.0 parts.1)
          | inr neither ↦ inl (λ both. both_ways (test c) neither ((above_decides b c).1 both))
        ],
      ))
      (Decides-and (consistent m ns os target value sense b) (list_all (λ c. not (test c) || bytes_eq c b) (bodies m ns)) (consistent_decides b)
      (all_decides (λ c. not (test c) || bytes_eq c b) (λ c. (Consistent m ns os target value sense c × Dominates m ns c b → ⊥) ⊎ (c ≡ b))
      (λ c. Decides-or (not (test c)) (bytes_eq c b) (Decides-not (test c) (above_decides b c)) (bytes_eq-Decides c b))
      (bodies m ns)))

  -- the listing holds the optimal rules
  pub has_listing : (b : List ℕ) → Optimal m ns os target value sense b → Has (listing m ns os target value sense) b
  has_listing b best = has_kept (optimal m ns os target value sense) (bodies m ns) b (has_bodies m ns b best.0) ((optimal_decides b best.0).1 best)

  pub listing_has : (b : List ℕ) → Has (listing m ns os target value sense) b → Optimal m ns os target value sense b
  listing_has b h =
      let kept = kept_has (optimal m ns os target value sense) (bodies m ns) b h in
      (optimal_decides b (all-has (Body m ns) (bodies m ns) b (bodies_are m ns) kept.0)).0 kept.1
