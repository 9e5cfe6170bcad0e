-- The rules that a walk has still to find, one step on. Assumes nothing.
use Rattle.std.proofs.Common.{◌≡◌, ℕ, ◌-◌, ◌<◌, ◌≤◌, Bool, true, false, cond, List, [], ◌∷◌, ◌++◌, map, length, take, drop, replicate, filter, Option, Some, sym, ap, ◌∙◌, arith}
use Rattle.std.proofs.lemmas.List.Elements.{filter-append}
use Rattle.std.proofs.lemmas.List.{append-nil, drop_all, length-append, map-append, take_all, take-take}
use Rattle.model.specs.Kinds.{Meaning, Laws}
use Rattle.model.specs.Bodies.{bodies}
use Rattle.model.specs.Memory.{place}
use Rattle.model.proofs.Bodies.{length_body}
use Rattle.search.specs.Rest.{Reach}
use Rattle.search.specs.Opposing.{clear, best}
use Rattle.search.specs.Walks.{left, alike, Standing, to_find}
use Rattle.search.proofs.Depths.{zeros_none}
use Rattle.search.proofs.Pruning.{alike_first, kept_alike}
use Rattle.search.proofs.Standing.{clear_standing, best_standing}
use Rattle.search.proofs.Walks.{place_standing}

reach_within : (clear : Bool) (b : List ℕ) (d : ℕ) → Reach clear b d → d ≤ length b
reach_within true b d r = r.within
reach_within false b d r = omega arith

reach_zeros : (clear : Bool) (b : List ℕ) (d : ℕ) → Reach clear b d → drop d b ≡ replicate (length b - d) 0
reach_zeros true b d r = r.zeros
reach_zeros false b d r = zeros_none b d (omega arith)

-- alike in every condition is only the body itself
alike_all : (m : Meaning) (ns b : List ℕ) (d : ℕ) → length b ≡ length ns → d ≡ length b → alike m ns d b ≡ b ∷ []
alike_all m ns b d long e =
    ap (λ (gs : List ℕ). map (λ t. take d b ++ t) (bodies m gs)) (drop_all d ns (omega arith)) ∙ ap (λ (c : List ℕ). c ∷ []) (append-nil (take d b) ∙ take_all d b (omega arith))

module _ (m : Meaning) (ns b : List ℕ) (d : ℕ) (clears : Bool) (standing : Standing m ns b) (reached : Reach clears (take (length ns) b) d) where
  abbrev here : List ℕ
  here = take (length ns) b

  long : length here ≡ length ns
  long = length_body m ns here standing.2

  pub within_reach : d ≤ length ns
  within_reach = let h = reach_within clears here d reached in omega (arith, long)

  pub zeros_reach : drop d here ≡ replicate (length ns - d) 0
  zeros_reach = reach_zeros clears here d reached ∙ ap (λ (n : ℕ). replicate (n - d) 0) long

  front : alike m ns d b ≡ alike m ns d here
  front = ap (λ (p : List ℕ). map (λ t. p ++ t) (bodies m (drop d ns))) (sym (take-take d (length ns) b within_reach))

  module _ (after : Option (List ℕ)) (passed : left m ns (Some b) ≡ alike m ns d b ++ left m ns after) where
    -- the body at hand is looked at no more
    pub left_less : length (left m ns after) < length (left m ns (Some b))
    left_less =
        let first = ap length (front ∙ alike_first m ns here d within_reach standing.2 zeros_reach) in
        let parts = ap length passed ∙ length-append (alike m ns d b) (left m ns after) in
        omega arith

    module _ (laws : Laws m) (opposed : List (List ℕ)) (few : length ns ≤ 8) (told : clears ≡ clear m ns opposed b) where
      -- of the bodies passed only the one at hand can be best
      kept_reach : (c : Bool) → c ≡ clear m ns opposed here → Reach c here d → filter (best m ns opposed) (alike m ns d here) ≡ filter (best m ns opposed) (here ∷ [])
      kept_reach true e r = kept_alike m ns here d within_reach standing.2 zeros_reach laws opposed (sym e)
      kept_reach false e r = ap (filter (best m ns opposed)) (alike_all m ns here d long r)

      to_find_step : to_find m ns opposed (Some b) ≡ map place (filter (best m ns opposed) (here ∷ [])) ++ to_find m ns opposed after
      to_find_step =
          ap (λ (bs : List (List ℕ)). map place (filter (best m ns opposed) bs)) (passed ∙ ap (λ (bs : List (List ℕ)). bs ++ left m ns after) front)
          ∙ ap (map place) (filter-append (best m ns opposed) (alike m ns d here) (left m ns after)
          ∙ ap (λ (bs : List (List ℕ)). bs ++ filter (best m ns opposed) (left m ns after)) (kept_reach clears (told ∙ clear_standing m ns opposed b few standing) reached))
          ∙ map-append place (filter (best m ns opposed) (here ∷ [])) (filter (best m ns opposed) (left m ns after))

      kept_here : (t : Bool) → best m ns opposed b ≡ t → to_find m ns opposed (Some b) ≡ map place (cond t (here ∷ []) []) ++ to_find m ns opposed after
      kept_here t e = to_find_step ∙ ap (λ (t : Bool). map place (cond t (here ∷ []) []) ++ to_find m ns opposed after) (sym (best_standing m ns opposed b few standing) ∙ e)

      -- the body at hand is found
      pub to_find_best : best m ns opposed b ≡ true → to_find m ns opposed (Some b) ≡ b ∷ to_find m ns opposed after
      to_find_best e = kept_here true e ∙ ap (λ (c : List ℕ). c ∷ to_find m ns opposed after) (sym (place_standing m ns b few standing))

      -- nothing is found
      pub to_find_none : best m ns opposed b ≡ false → to_find m ns opposed (Some b) ≡ to_find m ns opposed after
      to_find_none e = kept_here false e
