-- Looking through the states against for one that a rule matches, one state at a time. Assumes nothing.
use Rattle.std.proofs.Common.{◌≡◌, ℕ, ◌+◌, ◌<◌, ◌≤◌, Bool, true, false, not, ◌&&◌, List, length, get_or, drop, sym, ap, ◌∙◌}
use Rattle.std.proofs.lemmas.List.{at_drop_more, at_drop_all}
use Rattle.model.specs.Kinds.{Meaning}
use Rattle.model.specs.Rules.{matches}
use Rattle.search.specs.Opposing.{clear}

module _ (m : Meaning) (ns : List ℕ) (opposed : List (List ℕ)) (b : List ℕ) (i : ℕ) (d : List ℕ) (left : clear m ns (drop i opposed) b ≡ clear m ns opposed b) where
  now_at : i < length opposed → clear m ns (drop i opposed) b ≡ (not (matches m ns b (get_or opposed i d)) && clear m ns (drop (i + 1) opposed) b)
  now_at within = at_drop_more (λ vs. clear m ns vs b) opposed i d within

  -- a state that the rule does not match
  pub clear_more : i < length opposed → matches m ns b (get_or opposed i d) ≡ false → clear m ns (drop (i + 1) opposed) b ≡ clear m ns opposed b
  clear_more within miss = sym (now_at within ∙ ap (λ (t : Bool). not t && clear m ns (drop (i + 1) opposed) b) miss) ∙ left

  -- a state that the rule matches
  pub clear_fails : i < length opposed → matches m ns b (get_or opposed i d) ≡ true → false ≡ clear m ns opposed b
  clear_fails within hit = sym (now_at within ∙ ap (λ (t : Bool). not t && clear m ns (drop (i + 1) opposed) b) hit) ∙ left

  pub clear_all : length opposed ≤ i → true ≡ clear m ns opposed b
  clear_all over = sym (at_drop_all (λ vs. clear m ns vs b) opposed i over) ∙ left
