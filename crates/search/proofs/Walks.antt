-- A walk at its start and one step on. Assumes nothing.
use Rattle.std.proofs.Common.{◌≡◌, ℕ, ◌-◌, ◌≤◌, Bool, true, false, cond, not, List, [], ◌++◌, map, length, take, drop, replicate, filter, Some, None, sym, refl, ap, ◌∙◌, subst, arith}
use Rattle.std.proofs.lemmas.List.{append_assoc, take_at, drop_at, take-take, drop-append-le, length-append, length-drop, length-take-le, take-append-drop, take-replicate, drop-replicate, length-map}
use Rattle.std.proofs.lemmas.List.Filters.{length-filter_both}
use Rattle.model.specs.Kinds.{Meaning}
use Rattle.model.specs.Bodies.{Body, bodies}
use Rattle.model.specs.Memory.{place}
use Rattle.search.specs.Rest.{rest, Advanced}
use Rattle.search.specs.Opposing.{best}
use Rattle.search.specs.Walks.{left, alike, Standing, to_find, places}
use Rattle.model.proofs.Bodies.{length_body}
use Rattle.search.proofs.Splits.{body_take, rest_passed, body_passed}
use Rattle.search.proofs.Steps.{rest_open}

-- what stands in its place is the place of its first codes
pub place_standing : (m : Meaning) (ns b : List ℕ) → length ns ≤ 8 → Standing m ns b → b ≡ place (take (length ns) b)
place_standing m ns b few standing =
    let long : length (take (length ns) b) ≡ length ns = length-take-le (length ns) b (omega (arith, standing.0)) in
    sym (take-append-drop (length ns) b)
    ∙ ap (λ (zs : List ℕ). take (length ns) b ++ zs) standing.1
    ∙ ap (λ (n : ℕ). take (length ns) b ++ replicate (8 - n) 0) (sym long)

module _ (m : Meaning) (ns b : List ℕ) (d : ℕ) (few : length ns ≤ 8) (standing : Standing m ns b) (within : d ≤ length ns) (zeros : drop d (take (length ns) b) ≡ replicate (length ns - d) 0) where
  abbrev here : List ℕ
  here = take (length ns) b

  front : take d b ≡ take d here
  front = sym (take-take d (length ns) b within)

  back : drop d b ≡ replicate (length ns - d) 0 ++ drop (length ns) b
  back =
      let long = length_body m ns here standing.2 in
      ap (drop d) (sym (take-append-drop (length ns) b))
      ∙ drop-append-le d here (drop (length ns) b) (omega arith)
      ∙ ap (λ (zs : List ℕ). zs ++ drop (length ns) b) zeros

  pub body_front : Body m (take d ns) (take d b)
  body_front = subst (Body m (take d ns)) (sym front) (body_take m ns here d standing.2)

  module _ (after : List ℕ) (more : Bool) (advanced : Advanced m (take d ns) (take d b) after more) where
    -- the body that the walk steps to
    abbrev pub stepped : List ℕ
    stepped = after ++ drop d b

    onward : Advanced m (take d ns) (take d here) after more
    onward = subst (λ (c : List ℕ). Advanced m (take d ns) c after more) front advanced

    abbrev next : List ℕ
    next = after ++ replicate (length ns - d) 0

    body_next : Body m ns next
    body_next = body_passed m ns here after d more standing.2 zeros onward

    long_next : length next ≡ length ns
    long_next = length_body m ns next body_next

    whole : stepped ≡ next ++ drop (length ns) b
    whole = ap (λ (zs : List ℕ). after ++ zs) back ∙ sym (append_assoc after (replicate (length ns - d) 0) (drop (length ns) b))

    front_next : take (length ns) stepped ≡ next
    front_next = ap (take (length ns)) whole ∙ take_at next (drop (length ns) b) (length ns) long_next

    pub standing_step : Standing m ns stepped
    standing_step = (
      ap length whole ∙ length-append next (drop (length ns) b) ∙ omega (arith, length-drop (length ns) b, long_next, standing.0),
      ap (drop (length ns)) whole ∙ drop_at next (drop (length ns) b) (length ns) long_next ∙ standing.1,
      subst (Body m ns) (sym front_next) body_next,
    )

    passed : left m ns (Some b) ≡ alike m ns d b ++ cond more (rest m ns next) []
    passed =
        rest_passed m ns here after d more standing.2 zeros onward
        ∙ ap (λ (p : List ℕ). map (λ t. p ++ t) (bodies m (drop d ns)) ++ cond more (rest m ns next) []) (take-take d (length ns) b within)

    -- there is a next body
    pub left_more : more ≡ true → left m ns (Some b) ≡ alike m ns d b ++ left m ns (Some stepped)
    left_more on =
        passed
        ∙ ap (λ (t : Bool). alike m ns d b ++ cond t (rest m ns next) []) on
        ∙ ap (λ (c : List ℕ). alike m ns d b ++ rest m ns c) (sym front_next)

    -- there is none
    pub left_over : more ≡ false → left m ns (Some b) ≡ alike m ns d b ++ left m ns None
    left_over off = passed ∙ ap (λ (t : Bool). alike m ns d b ++ cond t (rest m ns next) []) off

module _ (m : Meaning) (ns : List ℕ) (few : length ns ≤ 8) (bare : Body m ns (replicate (length ns) 0)) where
  zeros_front : take {A = ℕ} (length ns) (replicate 8 0) ≡ replicate (length ns) 0
  zeros_front = take-replicate (length ns) 8 0 few

  pub standing_start : Standing m ns (replicate 8 0)
  standing_start = (refl, drop-replicate (length ns) 8 0, subst (Body m ns) (sym zeros_front) bare)

  pub to_find_start : (opposed : List (List ℕ)) → to_find m ns opposed (Some (replicate 8 0)) ≡ places m ns opposed
  to_find_start opposed =
      ap (λ (bs : List (List ℕ)). map place (filter (best m ns opposed) bs)) (ap (rest m ns) zeros_front ∙ rest_open m ns (replicate (length ns) 0) bare)

pub length_kept_by_le : {X : Type 0} (p : X → Bool) (xs : List X) → length (filter p xs) ≤ length xs
length_kept_by_le p xs = let both = length-filter_both p (λ x. not (p x)) (λ _. refl) xs in omega arith

pub length_places_le : (m : Meaning) (ns : List ℕ) (opposed : List (List ℕ)) → length (places m ns opposed) ≤ length (bodies m ns)
length_places_le m ns opposed =
    let same = length-map (filter (best m ns opposed) (bodies m ns)) place in
    let kept = length_kept_by_le (best m ns opposed) (bodies m ns) in
    omega arith
