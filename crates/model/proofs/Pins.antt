-- The pins of a state make a rule that matches that state only. Assumes nothing.
use Rattle.std.proofs.Common.{◌≡◌, ℕ, ◌<◌, List, map, length, get_or, sym, ap, ◌∙◌, subst, zero-add, arith}
use Rattle.std.specs.List.{range_with_len}
use Rattle.std.proofs.lemmas.List.FromFn.{length-map-range_with_len, get_or-map-range_with_len}
use Rattle.std.proofs.ByRecursion.{all-has}
use Rattle.std.proofs.lemmas.List.{ext_get_or}
use Rattle.model.specs.Bodies.{Body}
use Rattle.model.specs.Kinds.{Meaning, Laws}
use Rattle.model.specs.Listings.{listing}
use Rattle.model.specs.Observations.{Observation}
use Rattle.model.specs.Optimal.{Among, Taken, Matches, Against, Consistent}
use Rattle.model.specs.Telling.{StatesFit}
use Rattle.model.specs.Values.{Fitting}
use Rattle.model.specs.declared.sense.Sense.{Sense}
use Rattle.model.proofs.Domination.{fair, body_from, matches_above}
use Rattle.model.proofs.Optima.{optimum_above}
use Rattle.model.proofs.Ties.{has_listing, shown_from_against}

module _ (m : Meaning) (laws : Laws m) (ns : List ℕ) (taken : Taken m ns) where
  pins : List ℕ → List ℕ
  pins s = map (λ i. m.pin (get_or ns i 0) (get_or s i 0)) (range_with_len 0 (length ns))

  length_pins : (s : List ℕ) → length (pins s) ≡ length ns
  unfolding pins
  length_pins s = length-map-range_with_len (λ i. m.pin (get_or ns i 0) (get_or s i 0)) 0 (length ns)

  get_or_pins : (s : List ℕ) (i : ℕ) → i < length ns → get_or (pins s) i 0 ≡ m.pin (get_or ns i 0) (get_or s i 0)
  unfolding pins
  get_or_pins s i h = get_or-map-range_with_len (λ i. m.pin (get_or ns i 0) (get_or s i 0)) 0 (length ns) i i 0 h (zero-add i)

  module _ (s : List ℕ) (fits : Fitting ns s) where
    body_pins : Body m ns (pins s)
    body_pins = body_from m ns (pins s) (length_pins s) (λ i h. rw (get_or_pins s i h) ((fair m laws ns taken i h).pin_code (get_or s i 0) (fits.1 i h)))

    pins_match : Matches m ns (pins s) s
    pins_match i h = rw (get_or_pins s i h) ((fair m laws ns taken i h).pin_holds (get_or s i 0) (fits.1 i h))

    pins_match_only : (t : List ℕ) → length t ≡ length ns → Matches m ns (pins s) t → t ≡ s
    pins_match_only t long hit =
        ext_get_or 0 t s (long ∙ sym fits.0)
        (λ i h. let lt : i < length ns = omega arith in (fair m laws ns taken i lt).pin_only (get_or s i 0) (get_or t i 0) (fits.1 i lt) (rw (get_or_pins s i lt) at (hit i lt)))

    module _ (os : List Observation) (fit : StatesFit ns os) (target value : ℕ) (sense : Sense) (free : Against os target value sense s → ⊥) where
      pins_consistent : Consistent m ns os target value sense (pins s)
      pins_consistent t opposed hit =
          let o = shown_from_against os target value sense t opposed in
          let long = (all-has (λ o. Fitting ns o.state) os o.0 fit o.1).0 in
          free (subst (Against os target value sense) (pins_match_only t (ap length (sym o.2) ∙ long) hit) opposed)

      -- a state that is not against has a matching rule in the listing
      pub matching_rule : Among (listing m ns os target value sense) (λ b. Matches m ns b s)
      matching_rule =
          let best = optimum_above m laws ns taken os target value sense (pins s) body_pins pins_consistent in
          (best.0, has_listing m ns os target value sense best.0 best.1, matches_above m laws ns taken best.0 (pins s) s best.2 pins_match)
