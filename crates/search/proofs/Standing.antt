-- A body in its place of eight bytes is as clear and as tight as its codes alone. Assumes nothing.
use Rattle.std.proofs.Common.{◌≡◌, ℕ, ◌<◌, ◌≤◌, Bool, not, ◌&&◌, eqb, List, [], ◌∷◌, length, get_or, take, set, sym, refl, ap, ◌∙◌, arith, inl, inr}
use Rattle.std.proofs.lemmas.Bool.{cases_eq}
use Rattle.std.proofs.lemmas.List.{get_or-take, get_or-set_same, get_or-set_other, length-take-le}
use Rattle.model.specs.Kinds.{Meaning}
use Rattle.model.specs.Rules.{matches}
use Rattle.model.specs.Below.{each_below_same}
use Rattle.search.specs.Opposing.{clear, loose, tight, best}
use Rattle.search.specs.Walks.{Standing}

module _ (m : Meaning) (ns : List ℕ) where
  -- bodies with the same codes match the same states
  matches_same : (b c v : List ℕ) → ((i : ℕ) → i < length ns → get_or b i 0 ≡ get_or c i 0) → matches m ns b v ≡ matches m ns c v
  matches_same b c v same = each_below_same (length ns) _ _ (λ i h. ap (λ (x : ℕ). m.holds (get_or ns i 0) x (get_or v i 0)) (same i h))

  clear_same : (opposed : List (List ℕ)) (b c : List ℕ) → ((i : ℕ) → i < length ns → get_or b i 0 ≡ get_or c i 0) → clear m ns opposed b ≡ clear m ns opposed c
  clear_same [] b c same = refl
  clear_same (v ∷ vs) b c same =
      ap (λ (t : Bool). not t && clear m ns vs b) (matches_same b c v same)
      ∙ ap (λ (t : Bool). not (matches m ns c v) && t) (clear_same vs b c same)

module _ (m : Meaning) (ns : List ℕ) (opposed : List (List ℕ)) (b : List ℕ) (few : length ns ≤ 8) (standing : Standing m ns b) where
  abbrev here : List ℕ
  here = take (length ns) b

  same_codes : (i : ℕ) → i < length ns → get_or b i 0 ≡ get_or here i 0
  same_codes i h = sym (get_or-take (length ns) b i 0 h)

  long : length here ≡ length ns
  long = length-take-le (length ns) b (omega (arith, standing.0))

  pub clear_standing : clear m ns opposed b ≡ clear m ns opposed here
  clear_standing = clear_same m ns opposed b here same_codes

  -- with one code changed
  same_changed : (i c : ℕ) → i < length ns → (j : ℕ) → j < length ns → get_or (set b i c) j 0 ≡ get_or (set here i c) j 0
  same_changed i c within j h =
      elim (cases_eq j i) [
        | inl e ↦ rw e (get_or-set_same b i c 0 (omega (arith, standing.0)) ∙ sym (get_or-set_same here i c 0 (omega (arith, long))))
        | inr ne ↦ get_or-set_other b i j c 0 ne ∙ same_codes j h ∙ sym (get_or-set_other here i j c 0 ne)
      ]

  loose_standing : (i c : ℕ) → i < length ns → loose m ns opposed b i c ≡ loose m ns opposed here i c
  loose_standing i c within =
      ap (λ (k : ℕ). (not (eqb c k) && m.weaker (get_or ns i 0) c k) && clear m ns opposed (set b i c)) (same_codes i within)
      ∙ ap (λ (t : Bool). (not (eqb c (get_or here i 0)) && m.weaker (get_or ns i 0) c (get_or here i 0)) && t) (clear_same m ns opposed (set b i c) (set here i c) (same_changed i c within))

  tight_standing : tight m ns opposed b ≡ tight m ns opposed here
  tight_standing = each_below_same (length ns) _ _ (λ i h. each_below_same (m.conditions (get_or ns i 0)) _ _ (λ c _. ap not (loose_standing i c h)))

  pub best_standing : best m ns opposed b ≡ best m ns opposed here
  best_standing = ap (λ (t : Bool). t && tight m ns opposed b) clear_standing ∙ ap (λ (t : Bool). clear m ns opposed here && t) tight_standing
