-- The bodies of a shape by their first conditions and those after them. Assumes nothing.
use Rattle.std.proofs.Common.{◌≡◌, ℕ, zero, suc, ◌+◌, ◌-◌, Bool, true, false, cond, List, [], ◌∷◌, ◌++◌, map, length, take, drop, replicate, sym, refl, ap, ◌∙◌, subst}
use mathlib.Core.List.{map-map}
use Rattle.std.specs.List.{range_with_len, flat_map}
use Rattle.std.proofs.lemmas.List.{append_assoc, append-nil, map-append, map-id, take-append-drop, length-drop}
use Rattle.model.specs.Kinds.{Meaning}
use Rattle.model.specs.Bodies.{Body, bodies}
use Rattle.search.specs.Rest.{rest, starting, Advanced}
use Rattle.search.specs.Walks.{alike}
use Rattle.search.proofs.Steps.{rest_open}

joined_append : {X A : Type 0} (f : X → List A) (xs ys : List X) → flat_map f (xs ++ ys) ≡ flat_map f xs ++ flat_map f ys
joined_append f [] ys = refl
joined_append f (x ∷ xs) ys = ap (λ l. f x ++ l) (joined_append f xs ys) ∙ sym (append_assoc (f x) (flat_map f xs) (flat_map f ys))

module _ (ts : List (List ℕ)) where
  -- each of some beginnings with each of the ends
  abbrev pub ended : List (List ℕ) → List (List ℕ)
  ended qs = flat_map (λ q. map (λ t. q ++ t) ts) qs

  ended_map : (c : ℕ) (qs : List (List ℕ)) → ended (map (λ b. c ∷ b) qs) ≡ map (λ b. c ∷ b) (ended qs)
  ended_map c [] = refl
  ended_map c (q ∷ qs) =
      ap (λ (l : List (List ℕ)). map (λ t. c ∷ (q ++ t)) ts ++ l) (ended_map c qs)
      ∙ ap (λ (l : List (List ℕ)). l ++ map (λ b. c ∷ b) (ended qs)) (sym (map-map (λ (b : List ℕ). c ∷ b) (λ t. q ++ t) ts))
      ∙ sym (map-append (λ (b : List ℕ). c ∷ b) (map (λ t. q ++ t) ts) (ended qs))

  ended_joined : (bs : List (List ℕ)) (cs : List ℕ) → ended (flat_map (λ d. map (λ b. d ∷ b) bs) cs) ≡ flat_map (λ d. map (λ b. d ∷ b) (ended bs)) cs
  ended_joined bs [] = refl
  ended_joined bs (c ∷ cs) =
      joined_append (λ q. map (λ t. q ++ t) ts) (map (λ b. c ∷ b) bs) (flat_map (λ d. map (λ b. d ∷ b) bs) cs)
      ∙ ap (λ (l : List (List ℕ)). l ++ ended (flat_map (λ d. map (λ b. d ∷ b) bs) cs)) (ended_map c bs)
      ∙ ap (λ (l : List (List ℕ)). map (λ b. c ∷ b) (ended bs) ++ l) (ended_joined bs cs)

module _ (m : Meaning) where
  pub body_take : (ns b : List ℕ) (d : ℕ) → Body m ns b → Body m (take d ns) (take d b)
  body_take ns b zero k = tt
  body_take [] [] (suc d) k = tt
  body_take [] (c ∷ b) (suc d) k = absurd k
  body_take (n ∷ ns) [] (suc d) k = absurd k
  body_take (n ∷ ns) (c ∷ b) (suc d) k = (k.0, body_take ns b d k.1)

  pub body_drop : (ns b : List ℕ) (d : ℕ) → Body m ns b → Body m (drop d ns) (drop d b)
  body_drop ns b zero k = k
  body_drop [] [] (suc d) k = tt
  body_drop [] (c ∷ b) (suc d) k = absurd k
  body_drop (n ∷ ns) [] (suc d) k = absurd k
  body_drop (n ∷ ns) (c ∷ b) (suc d) k = body_drop ns b d k.1

  pub body_append : (fs gs p t : List ℕ) → Body m fs p → Body m gs t → Body m (fs ++ gs) (p ++ t)
  body_append [] gs [] t k l = l
  body_append [] gs (c ∷ p) t k l = absurd k
  body_append (n ∷ fs) gs [] t k l = absurd k
  body_append (n ∷ fs) gs (c ∷ p) t k l = (k.0, body_append fs gs p t k.1 l)

  bodies_append : (fs gs : List ℕ) → bodies m (fs ++ gs) ≡ ended (bodies m gs) (bodies m fs)
  bodies_append [] gs = sym (append-nil (map (λ t. t) (bodies m gs)) ∙ map-id (bodies m gs))
  bodies_append (n ∷ fs) gs =
      ap (λ (bs : List (List ℕ)). flat_map (λ c. map (λ b. c ∷ b) bs) (range_with_len 0 (m.conditions n))) (bodies_append fs gs)
      ∙ sym (ended_joined (bodies m gs) (bodies m fs) (range_with_len 0 (m.conditions n)))

  -- the bodies from one on that ends in open conditions
  rest_append : (fs gs p t : List ℕ) → Body m fs p → Body m gs t → rest m (fs ++ gs) (p ++ replicate (length gs) 0) ≡ ended (bodies m gs) (rest m fs p)
  rest_append [] gs [] t k l = rest_open m gs t l ∙ bodies_append [] gs
  rest_append [] gs (c ∷ p) t k l = absurd k
  rest_append (n ∷ fs) gs [] t k l = absurd k
  rest_append (n ∷ fs) gs (c ∷ p) t k l =
      let later : List ℕ = range_with_len (c + 1) (m.conditions n - (c + 1)) in
      let ends : List (List ℕ) = bodies m gs in
      ap (λ (bs : List (List ℕ)). map (λ b. c ∷ b) bs ++ starting m (fs ++ gs) (c + 1) (m.conditions n - (c + 1))) (rest_append fs gs p t k.1 l)
      ∙ ap (λ (bs : List (List ℕ)). map (λ b. c ∷ b) (ended ends (rest m fs p)) ++ flat_map (λ d. map (λ b. d ∷ b) bs) later) (bodies_append fs gs)
      ∙ ap (λ (bs : List (List ℕ)). map (λ b. c ∷ b) (ended ends (rest m fs p)) ++ bs) (sym (ended_joined ends (bodies m fs) later))
      ∙ ap (λ (bs : List (List ℕ)). bs ++ ended ends (starting m fs (c + 1) (m.conditions n - (c + 1)))) (sym (ended_map ends c (rest m fs p)))
      ∙ sym (joined_append (λ q. map (λ t. q ++ t) ends) (map (λ b. c ∷ b) (rest m fs p)) (starting m fs (c + 1) (m.conditions n - (c + 1))))

  module _ (fs gs p t after : List ℕ) (body : Body m fs p) (open-end : Body m gs t) where
    after_append : (more : Bool) → Body m fs after → ended (bodies m gs) (cond more (rest m fs after) []) ≡ cond more (rest m (fs ++ gs) (after ++ replicate (length gs) 0)) []
    after_append true k = sym (rest_append fs gs after t k open-end)
    after_append false k = refl

    passed_append : (more : Bool) → Advanced m fs p after more
        → rest m (fs ++ gs) (p ++ replicate (length gs) 0) ≡ map (λ t. p ++ t) (bodies m gs) ++ cond more (rest m (fs ++ gs) (after ++ replicate (length gs) 0)) []
    passed_append more a =
        rest_append fs gs p t body open-end
        ∙ ap (ended (bodies m gs)) a.next
        ∙ ap (λ (bs : List (List ℕ)). map (λ t. p ++ t) (bodies m gs) ++ bs) (after_append more a.body)

  -- stepping on in the first conditions passes the bodies that are alike in them
  module _ (ns b after : List ℕ) (d : ℕ) (more : Bool) (body : Body m ns b) (zeros : drop d b ≡ replicate (length ns - d) 0) (a : Advanced m (take d ns) (take d b) after more) where
    same_end : replicate {A = ℕ} (length (drop d ns)) 0 ≡ replicate (length ns - d) 0
    same_end = ap (λ (n : ℕ). replicate n 0) (length-drop d ns)

    whole : take d b ++ replicate (length (drop d ns)) 0 ≡ b
    whole = ap (λ (zs : List ℕ). take d b ++ zs) (same_end ∙ sym zeros) ∙ take-append-drop d b

    pub rest_passed : rest m ns b ≡ alike m ns d b ++ cond more (rest m ns (after ++ replicate (length ns - d) 0)) []
    rest_passed =
        ap (rest m ns) (sym whole)
        ∙ ap (λ (xs : List ℕ). rest m xs (take d b ++ replicate (length (drop d ns)) 0)) (sym (take-append-drop d ns))
        ∙ passed_append (take d ns) (drop d ns) (take d b) (drop d b) after (body_take ns b d body) (body_drop ns b d body) more a
        ∙ ap (λ (xs : List ℕ). alike m ns d b ++ cond more (rest m xs (after ++ replicate (length (drop d ns)) 0)) []) (take-append-drop d ns)
        ∙ ap (λ (zs : List ℕ). alike m ns d b ++ cond more (rest m ns (after ++ zs)) []) same_end

    pub body_passed : Body m ns (after ++ replicate (length ns - d) 0)
    body_passed =
        subst (λ (xs : List ℕ). Body m xs (after ++ replicate (length ns - d) 0)) (take-append-drop d ns)
        (body_append (take d ns) (drop d ns) after (replicate (length ns - d) 0) a.body (subst (Body m (drop d ns)) zeros (body_drop ns b d body)))
