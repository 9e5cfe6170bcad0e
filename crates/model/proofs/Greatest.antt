-- The greatest of some numbers, and the best weight at a state. Assumes nothing.
use Rattle.std.proofs.Common.{◌≡◌, ℕ, ◌≤◌, max, Bool, cond, List, [], ◌∷◌, map, Some, None, fold, filter, Option, unwrap_or, refl, ap, ◌∙◌, inl, inr, arith, MatchOption}
use Rattle.std.specs.List.{ContainsAt as Has}
use Rattle.std.proofs.lemmas.Bool.{cases_Bool, cases_lt}
use Rattle.model.specs.Bests.{BestWeight, BestWeights}
use Rattle.model.specs.Kinds.{Meaning}
use Rattle.model.specs.Listings.{listing}
use Rattle.model.specs.Optimal.{Matches, Optimal}
use Rattle.model.specs.Rules.{matches}
use Rattle.model.specs.Weights.{greatest, weight, best_weight}
use Rattle.model.proofs.Members.{has_here, has_later, has_cases, has_none, has_kept, kept_has}
use Rattle.model.proofs.Ties.{matches_decides, has_listing, listing_has}

-- a number is the greatest that f has over a list
pub record Top {X : Type 0} (f : X → ℕ) (xs : List X) (w : ℕ) : Type 0 where
  pub reached : (x : X) × Has xs x × (f x ≡ w)
  pub unbeaten : (x : X) → Has xs x → f x ≤ w

abbrev Tops : {X : Type 0} → (X → ℕ) → List X → Option ℕ → Type 0
Tops {X} f xs o = MatchOption o ((x : X) → Has xs x → ⊥) (Top f xs)

tops_more : {X : Type 0} (f : X → ℕ) (y : X) (ys : List X) (o : Option ℕ) → Tops f ys o → Top f (y ∷ ys) (max (f y) (unwrap_or o 0))
tops_more f y ys None none = record {
  reached = (y, has_here y ys, omega arith);
  unbeaten = λ x h. elim (has_cases y x ys h) [ inl e ↦ rw (← e) (omega arith) | inr t ↦ absurd (none x t) ];
}
tops_more f y ys (Some w) top = record {
  reached = elim (cases_lt (f y) w) [
    | inl less ↦ let r = top.reached in (r.0, has_later y r.0 ys r.1, omega (arith, r.2))
    | inr more ↦ (y, has_here y ys, omega arith)
  ];
  unbeaten = λ x h. elim (has_cases y x ys h) [ inl e ↦ rw (← e) (omega arith) | inr t ↦ omega (arith, top.unbeaten x t) ];
}

pub greatest_tops : {X : Type 0} (f : X → ℕ) (xs : List X) → Tops f xs (greatest (map f xs))
greatest_tops f [] = λ x h. has_none x h
greatest_tops f (y ∷ ys) = tops_more f y ys (greatest (map f ys)) (greatest_tops f ys)

tops_le : {X : Type 0} (f : X → ℕ) (xs : List X) (x : X) → Has xs x → (o : Option ℕ) → Tops f xs o → f x ≤ unwrap_or o 0
tops_le f xs x h None none = absurd (none x h)
tops_le f xs x h (Some w) top = top.unbeaten x h

pub greatest_le : {X : Type 0} (f : X → ℕ) (xs : List X) (x : X) → Has xs x → f x ≤ unwrap_or (greatest (map f xs)) 0
greatest_le f xs x h = tops_le f xs x h (greatest (map f xs)) (greatest_tops f xs)

-- the greater of two numbers, if there are any
abbrev either : Option ℕ → Option ℕ → Option ℕ
either None o = o
either (Some a) None = Some a
either (Some a) (Some b) = Some (max b a)

either_none : (o : Option ℕ) → o ≡ either o None
either_none None = refl
either_none (Some a) = refl

either_more : (w : ℕ) (o p : Option ℕ) → either (Some (max w (unwrap_or o 0))) p ≡ either o (Some (max w (unwrap_or p 0)))
either_more w None None = refl
either_more w None (Some b) = let e : max b (max w 0) ≡ max w b = omega arith in ap Some e
either_more w (Some a) None = let e : max w a ≡ max (max w 0) a = omega arith in ap Some e
either_more w (Some a) (Some b) = let e : max b (max w a) ≡ max (max w b) a = omega arith in ap Some e

module _ {X : Type 0} (p : X → Bool) (f : X → ℕ) where
  -- one element more, if it passes
  abbrev pub raised : Option ℕ → X → Option ℕ
  raised best x = cond (p x) (Some (max (f x) (unwrap_or best 0))) best

  folded_raised : (o : Option ℕ) (xs : List X) → fold raised o xs ≡ either o (greatest (map f (filter p xs)))
  folded_raised o [] = either_none o
  folded_raised o (x ∷ xs) =
      elim (cases_Bool (p x)) [
        | inl yes' ↦ rw yes' (folded_raised (Some (max (f x) (unwrap_or o 0))) xs ∙ either_more (f x) o (greatest (map f (filter p xs))))
        | inr not' ↦ rw not' (folded_raised o xs)
      ]

  -- the greatest of those that pass, found one by one
  pub greatest_folded : (xs : List X) → fold raised None xs ≡ greatest (map f (filter p xs))
  greatest_folded xs = folded_raised None xs

cases_like : (o : Option ℕ) (P P' : Type 0) (Q Q' : ℕ → Type 0) → (P → P') → ((w : ℕ) → Q w → Q' w) → MatchOption o P Q → MatchOption o P' Q'
cases_like None P P' Q Q' f g h = f h
cases_like (Some w) P P' Q Q' f g h = g w h

pub best_weights : (m : Meaning) → BestWeights m
best_weights m ns os target value sense s =
    let rules : List (List ℕ) = listing m ns os target value sense in
    let hits : List ℕ → Bool = λ b. matches m ns b s in
    let f : List ℕ → ℕ = weight m ns os target value sense in
    let found : (b : List ℕ) → Optimal m ns os target value sense b → Matches m ns b s → Has (filter hits rules) b =
    λ b best hit. has_kept hits rules b (has_listing m ns os target value sense b best) ((matches_decides m ns b s).1 hit) in
    cases_like (best_weight m ns os target value sense s) ((b : List ℕ) → Has (filter hits rules) b → ⊥) ((b : List ℕ) → Optimal m ns os target value sense b → Matches m ns b s → ⊥)
    (Top f (filter hits rules)) (BestWeight m ns os target value sense s)
    (λ none b best hit. none b (found b best hit))
    (λ w top.
    let r = top.reached in
    let kept = kept_has hits rules r.0 r.1 in
    record {
      reached = (r.0, listing_has m ns os target value sense r.0 kept.0, (matches_decides m ns r.0 s).0 kept.1, r.2);
      unbeaten = λ b best hit. top.unbeaten b (found b best hit);
    })
    (greatest_tops f (filter hits rules))
