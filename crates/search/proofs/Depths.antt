-- Open conditions at the end of a body. Assumes nothing.
use Rattle.std.proofs.Common.{◌≡◌, ℕ, ◌+◌, ◌-◌, ◌<◌, ◌≤◌, List, length, get_or, drop, replicate, sym, ap, ◌∙◌, arith}
use Rattle.std.proofs.lemmas.List.{ext_get_or, length-drop, length-replicate, drop_all, get_or-drop, get_or-replicate}

module _ (b : List ℕ) (d : ℕ) where
  pub zeros_none : length b ≤ d → drop d b ≡ replicate (length b - d) 0
  zeros_none h = let e : 0 ≡ length b - d = omega arith in drop_all d b h ∙ ap (λ (n : ℕ). replicate n 0) e

  -- each condition from d on is open
  pub zeros_from : ((k : ℕ) → d ≤ k → k < length b → get_or b k 0 ≡ 0) → drop d b ≡ replicate (length b - d) 0
  zeros_from open' =
      ext_get_or 0 (drop d b) (replicate (length b - d) 0) (length-drop d b ∙ sym (length-replicate (length b - d) 0))
      (λ k h. let lt : k < length b - d = omega (arith, length-drop d b) in
      get_or-drop d b k 0 ∙ open' (d + k) (omega arith) (omega arith) ∙ sym (get_or-replicate (length b - d) k 0 0 lt))
