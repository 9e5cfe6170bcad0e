-- Bytes beyond the features do not matter. Assumes nothing.
use Rattle.std.proofs.Common.{◌≡◌, ℕ, max, Bool, cond, not, ◌&&◌, List, [], ◌∷◌, map, length, get_or, take, replicate, Some, count_by, Option, unwrap_or, sym, refl, ap, ◌∙◌, arith}
use mathlib.Core.Path.{fun_ext}
use Rattle.std.specs.List.{AllByRecursion}
use Rattle.std.proofs.lemmas.List.{get_or_append_left, get_or-take}
use Rattle.model.specs.Kinds.{Meaning}
use Rattle.model.specs.Memory.{place}
use Rattle.model.specs.Rules.{matches}
use Rattle.model.specs.declared.sense.Sense.{Sense}
use Rattle.model.specs.Below.{each_below_same}
use Rattle.search.specs.Surveys.{against}
use Rattle.search.specs.Weights.{weight, heaviest}
use Rattle.search.specs.declared.survey.Seen.{Seen}

module _ (m : Meaning) (ns : List ℕ) where
  pub matches_place : (b v : List ℕ) → length b ≡ length ns → matches m ns (place b) v ≡ matches m ns b v
  matches_place b v long =
      each_below_same (length ns) _ _ (λ i h. ap (λ (c : ℕ). m.holds (get_or ns i 0) c (get_or v i 0)) (get_or_append_left b (replicate _ 0) 0 i (omega arith)))

  pub matches_front : (b w v : List ℕ) → take (length ns) w ≡ v → matches m ns b w ≡ matches m ns b v
  matches_front b w v front =
      each_below_same (length ns) _ _
      (λ i h. ap (λ (x : ℕ). m.holds (get_or ns i 0) (get_or b i 0) x) (sym (get_or-take (length ns) w i 0 h) ∙ ap (λ (xs : List ℕ). get_or xs i 0) front))

  module _ (sense : Sense) (seen : List Seen) where
    pub weight_place : (b : List ℕ) → length b ≡ length ns → weight m ns sense seen (place b) ≡ weight m ns sense seen b
    weight_place b long = ap (λ (p : Seen → Bool). count_by p seen) (fun_ext (λ s. ap (λ (t : Bool). not (against sense s) && t) (matches_place b s.state long)))

    -- the best weight, of rules in their places and of the rules
    pub heaviest_place : (w v : List ℕ) → take (length ns) w ≡ v → (rules : List (List ℕ)) → AllByRecursion (λ b. length b ≡ length ns) rules → (best : Option ℕ)
        → heaviest m ns sense seen w best (map place rules) ≡ heaviest m ns sense seen v best rules
    heaviest_place w v front [] long best = refl
    heaviest_place w v front (b ∷ rules) long best =
        ap (λ (o : Option ℕ). heaviest m ns sense seen w o (map place rules))
        (ap (λ (t : Bool). cond t (Some (max (weight m ns sense seen (place b)) (unwrap_or best 0))) best) (matches_place b w long.0 ∙ matches_front b w v front)
        ∙ ap (λ (n : ℕ). cond (matches m ns b v) (Some (max n (unwrap_or best 0))) best) (weight_place b long.0))
        ∙ heaviest_place w v front rules long.1 _
