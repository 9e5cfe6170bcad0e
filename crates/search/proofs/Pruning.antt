-- Of the bodies that are alike up to the last condition that is not open, only the clear one can be best. Assumes nothing.
use Rattle.std.proofs.Common.{◌≡◌, ℕ, ◌+◌, ◌-◌, ◌≤◌, Bool, true, false, cond, List, [], ◌∷◌, ◌++◌, map, length, get_or, take, drop, replicate, filter, sym, refl, ap, ◌∙◌, subst, inl, inr, arith}
use Rattle.std.specs.List.{ContainsAt as Has, AllByRecursion}
use Rattle.std.proofs.ByRecursion.{All-map, all-has}
use Rattle.std.proofs.lemmas.List.{append_cancel_left, take-append-drop, length-drop, length-take-le, get_or_append_left, get_or-take, get_or-drop, get_or-replicate}
use Rattle.std.proofs.lemmas.Bool.{cases_Bool, cases_lt}
use Rattle.model.specs.Kinds.{Meaning, Laws}
use Rattle.model.specs.Bodies.{Body, bodies}
use Rattle.model.specs.Exactly.{Once}
use Rattle.model.specs.Optimal.{Taken, Dominates}
use Rattle.model.proofs.Bodies.{bodies_are, length_body}
use Rattle.model.proofs.Domination.{fair, body_code}
use Rattle.model.proofs.Members.{all_from_has}
use Rattle.model.proofs.Rising.{rising_bodies, once_rising}
use Rattle.search.specs.Rest.{rest, starting}
use Rattle.search.specs.Opposing.{clear, best}
use Rattle.search.specs.Walks.{alike}
use Rattle.search.proofs.Dominated.{taken_body, same_from_best}
use Rattle.search.proofs.Splits.{body_take, body_drop, body_append}
use Rattle.search.proofs.Steps.{rest_open}

kept_by_none : {X : Type 0} (p : X → Bool) (xs : List X) → AllByRecursion (λ x. p x ≡ false) xs → filter p xs ≡ []
kept_by_none p [] h = refl
kept_by_none p (x ∷ xs) h = ap (λ (t : Bool). cond t (x ∷ filter p xs) (filter p xs)) h.0 ∙ kept_by_none p xs h.1

module _ (m : Meaning) where
  rest_first : (ns b : List ℕ) → Body m ns b → (others : List (List ℕ)) × (rest m ns b ≡ b ∷ others)
  rest_first [] [] k = ([], refl)
  rest_first [] (c ∷ b) k = absurd k
  rest_first (n ∷ ns) [] k = absurd k
  rest_first (n ∷ ns) (c ∷ b) k =
      let later = rest_first ns b k.1 in
      let beyond : List (List ℕ) = starting m ns (c + 1) (m.conditions n - (c + 1)) in
      (map (λ b. c ∷ b) later.0 ++ beyond, ap (λ (bs : List (List ℕ)). map (λ b. c ∷ b) bs ++ beyond) later.1)

  -- the body without conditions is the first one
  bodies_first : (ns b : List ℕ) → Body m ns b → b ≡ replicate (length ns) 0 → (others : List (List ℕ)) × (bodies m ns ≡ b ∷ others)
  bodies_first ns b k e =
      let first = rest_first ns b k in
      (first.0, sym (rest_open m ns b k) ∙ ap (rest m ns) (sym e) ∙ first.1)

module _ (m : Meaning) (ns b : List ℕ) (d : ℕ) (within : d ≤ length ns) (body : Body m ns b) (zeros : drop d b ≡ replicate (length ns - d) 0) where
  pub ends : (others : List (List ℕ)) × (bodies m (drop d ns) ≡ drop d b ∷ others)
  ends = bodies_first m (drop d ns) (drop d b) (body_drop m ns b d body) (zeros ∙ ap (λ (n : ℕ). replicate n 0) (sym (length-drop d ns)))

  -- the body itself is alike, and there may be others
  pub alike_first : alike m ns d b ≡ b ∷ map (λ t. take d b ++ t) ends.0
  alike_first =
      ap (λ (ts : List (List ℕ)). map (λ t. take d b ++ t) ts) ends.1
      ∙ ap (λ (c : List ℕ). c ∷ map (λ t. take d b ++ t) ends.0) (take-append-drop d b)

  -- the first body is none of the others
  end_once : Has ends.0 (drop d b) → ⊥
  end_once = (subst Once ends.1 (once_rising (bodies m (drop d ns)) (rising_bodies m (drop d ns)))).0

  body_other : (t : List ℕ) → Has ends.0 t → Body m (drop d ns) t
  body_other t h = all-has (Body m (drop d ns)) ends.0 t (subst (AllByRecursion (Body m (drop d ns))) ends.1 (bodies_are m (drop d ns))).1 h

  body_alike : (t : List ℕ) → Body m (drop d ns) t → Body m ns (take d b ++ t)
  body_alike t k = subst (λ (xs : List ℕ). Body m xs (take d b ++ t)) (take-append-drop d ns) (body_append m (take d ns) (drop d ns) (take d b) t (body_take m ns b d body) k)

  module _ (laws : Laws m) where
    taken : Taken m ns
    taken = taken_body m laws ns b body

    dominates_alike : (t : List ℕ) → Body m (drop d ns) t → Dominates m ns b (take d b ++ t)
    dominates_alike t k i h =
        let long = length_body m ns b body in
        let front : length (take d b) ≡ d = length-take-le d b (omega arith) in
        elim (cases_lt i d) [
          | inl lt ↦
              let same : get_or (take d b ++ t) i 0 ≡ get_or b i 0 = get_or_append_left (take d b) t 0 i (omega arith) ∙ get_or-take d b i 0 lt in
              rw same ((fair m laws ns taken i h).reflexive (get_or b i 0) (body_code m ns b body i h))
          | inr le ↦
              let at : d + (i - d) ≡ i = omega arith in
              let none : get_or b i 0 ≡ 0 = ap (λ (j : ℕ). get_or b j 0) (sym at) ∙ sym (get_or-drop d b (i - d) 0) ∙ ap (λ (zs : List ℕ). get_or zs (i - d) 0) zeros ∙ get_or-replicate (length ns - d) (i - d) 0 0 (omega arith) in
              rw none ((fair m laws ns taken i h).open_weaker (get_or (take d b ++ t) i 0) (body_code m ns (take d b ++ t) (body_alike t k) i h))
        ]

    module _ (opposed : List (List ℕ)) (clears : clear m ns opposed b ≡ true) where
      not_best : (t : List ℕ) → Has ends.0 t → best m ns opposed (take d b ++ t) ≡ false
      not_best t h =
          let k = body_other t h in
          elim (cases_Bool (best m ns opposed (take d b ++ t))) [
            | inl yes' ↦
                let same : take d b ++ t ≡ b = same_from_best m laws ns taken opposed b (take d b ++ t) body (body_alike t k) (dominates_alike t k) clears yes' in
                absurd (end_once (subst (Has ends.0) (append_cancel_left (take d b) t (drop d b) (same ∙ sym (take-append-drop d b))) h))
            | inr not' ↦ not'
          ]

      pub kept_alike : filter (best m ns opposed) (alike m ns d b) ≡ filter (best m ns opposed) (b ∷ [])
      kept_alike =
          ap (filter (best m ns opposed)) alike_first
          ∙ ap (λ (bs : List (List ℕ)). cond (best m ns opposed b) (b ∷ bs) bs)
          (kept_by_none (best m ns opposed) (map (λ t. take d b ++ t) ends.0)
          (All-map (λ c. best m ns opposed c ≡ false) (λ t. take d b ++ t) ends.0 (all_from_has (λ t. best m ns opposed (take d b ++ t) ≡ false) ends.0 not_best)))
