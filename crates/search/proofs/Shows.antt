-- A survey stands for the observations of its rows: which states are in it, and which of them came with the head.
-- Assumes nothing.
use Rattle.std.proofs.Common.{◌≡◌, ℕ, ◌+◌, ◌<◌, ◌≤◌, Bool, true, false, not, ◌||◌, eqb, ◌⊎◌, List, [], ◌∷◌, map, length, get_or, take, drop, replicate, Decides, fold, filter, sym, refl, ap, ◌∙◌, subst, inl, inr, arith}
use Rattle.std.specs.List.{ContainsAt as Has, AllByRecursion}
use Rattle.std.specs.Str.{bytes_eq}
use Rattle.std.proofs.ByRecursion.{all-has}
use Rattle.std.proofs.lemmas.Slice.Eq.{bytes_eq-Decides}
use Rattle.std.proofs.lemmas.List.{take_at, length-take-le, get_or-take, get_or-drop}
use Rattle.std.proofs.lemmas.Bool.{cases_Bool, both_ways}
use Rattle.std.proofs.lemmas.Bool.Decides.{Decides-like, Decides-not, Decides-eqb}
use Rattle.model.specs.Exactly.{Once}
use Rattle.model.specs.Memory.{place}
use Rattle.model.specs.Observations.{Observation, observation, observations}
use Rattle.model.specs.Optimal.{Among, Shown, ShownWith, Against}
use Rattle.model.specs.Rows.{Twelve}
use Rattle.model.specs.Shapes.{features, targets}
use Rattle.model.specs.declared.row.Row.{Row}
use Rattle.model.specs.declared.sense.Sense.{Sense}
use Rattle.model.specs.declared.sense.Sense.TheVariants.{Can, Cannot}
use Rattle.model.specs.declared.shape.Shape.{Shape}
use Rattle.model.proofs.Members.{has_here, has_later, has_cases, has_none, has_map, kept_has}
use Rattle.search.specs.Surveys.{against, marked, surveyed}
use Rattle.search.specs.declared.survey.Seen.{Seen}

module _ {X : Type 0} (Q : X → Type 0) where
  among_here : (y : X) (ys : List X) → Q y → Among (y ∷ ys) Q
  among_here y ys q = (y, has_here y ys, q)

  among_later : (y : X) (ys : List X) → Among ys Q → Among (y ∷ ys) Q
  among_later y ys a = (a.0, has_later y a.0 ys a.1, a.2)

  among_cases : (y : X) (ys : List X) → Among (y ∷ ys) Q → Q y ⊎ Among ys Q
  among_cases y ys a = elim (has_cases y a.0 ys a.1) [ inl e ↦ inl (subst Q (sym e) a.2) | inr t ↦ inr (a.0, t, a.2) ]

  among_none : Among [] Q → ⊥
  among_none a = has_none a.0 a.1

pub among_map : {X Y : Type 0} (f : X → Y) (xs : List X) (y : Y) → Has (map f xs) y → Among xs (λ x. f x ≡ y)
among_map f [] y h = absurd (has_none y h)
among_map f (x ∷ xs) y h = elim (has_cases (f x) y (map f xs) h) [ inl e ↦ among_here _ x xs e | inr t ↦ among_later _ x xs (among_map f xs y t) ]

-- where no two elements have one image, an image has one element
pub once_same : {X Y : Type 0} (f : X → Y) (xs : List X) → Once (map f xs) → (x y : X) → Has xs x → Has xs y → f x ≡ f y → x ≡ y
once_same f [] once x y h k e = absurd (has_none x h)
once_same f (z ∷ zs) once x y h k e =
    elim (has_cases z x zs h) [
      | inl a ↦ elim (has_cases z y zs k) [
        | inl b ↦ sym a ∙ b
        | inr t ↦ absurd (once.0 (subst (Has (map f zs)) (sym e ∙ ap f (sym a)) (has_map f zs y t)))
      ]
      | inr t ↦ elim (has_cases z y zs k) [
        | inl b ↦ absurd (once.0 (subst (Has (map f zs)) (e ∙ ap f (sym b)) (has_map f zs x t)))
        | inr u ↦ once_same f zs once.1 x y t u e
      ]
    ]

-- no two of the kept elements have one image, where equal images under h are equal images under f
pub once_images : {X Y Z : Type 0} (f : X → Y) (h : X → Z) (xs : List X) (p : X → Bool) → ((x y : X) → Has xs x → Has xs y → h x ≡ h y → f x ≡ f y) → Once (map f xs) → Once (map h (filter p xs))
once_images f h [] p same once = tt
once_images f h (x ∷ xs) p same once =
    let later : Once (map h (filter p xs)) = once_images f h xs p (λ y z a b. same y z (has_later x y xs a) (has_later x z xs b)) once.1 in
    elim (cases_Bool (p x)) [
      | inl yes' ↦ rw yes' (
        λ twice. let y = among_map h (filter p xs) (h x) twice in
            let there = (kept_has p xs y.0 y.1).0 in
            once.0 (subst (Has (map f xs)) (same y.0 x (has_later x y.0 xs there) (has_here x xs) y.2) (has_map f xs y.0 there)),
        later,
      )
      | inr not' ↦ rw not' later
    ]

abbrev pub seen_as : List ℕ → Bool → Seen
seen_as v w = record { state = v; with_head = w }

-- a property of what was seen that a second mark of its state joins to
module _ (Q : Seen → Type 0)
    (parts : (s : Seen) (w : Bool) → Q (seen_as s.state (s.with_head || w)) → Q s ⊎ Q (seen_as s.state w))
    (whole : (s : Seen) (w : Bool) → Q s ⊎ Q (seen_as s.state w) → Q (seen_as s.state (s.with_head || w))) where
  marked_among : (seen : List Seen) (v : List ℕ) (w : Bool) → Among (marked seen v w) Q → Among seen Q ⊎ Q (seen_as v w)
  marked_among [] v w a = elim (among_cases Q (seen_as v w) [] a) [ inl q ↦ inr q | inr none ↦ absurd (among_none Q none) ]
  marked_among (s ∷ ss) v w a =
      elim (cases_Bool (bytes_eq s.state v)) [
        | inl same ↦ elim (among_cases Q (seen_as s.state (s.with_head || w)) ss (rw same at a)) [
          | inl q ↦ elim (parts s w q) [
            | inl old ↦ inl (among_here Q s ss old)
            | inr new ↦ inr (subst (λ (x : List ℕ). Q (seen_as x w)) ((bytes_eq-Decides s.state v).0 same) new)
          ]
          | inr t ↦ inl (among_later Q s ss t)
        ]
        | inr other ↦ elim (among_cases Q s (marked ss v w) (rw other at a)) [
          | inl q ↦ inl (among_here Q s ss q)
          | inr t ↦ elim (marked_among ss v w t) [ inl old ↦ inl (among_later Q s ss old) | inr new ↦ inr new ]
        ]
      ]

  among_marked : (seen : List Seen) (v : List ℕ) (w : Bool) → Among seen Q ⊎ Q (seen_as v w) → Among (marked seen v w) Q
  among_marked [] v w (inl none) = absurd (among_none Q none)
  among_marked [] v w (inr q) = among_here Q (seen_as v w) [] q
  among_marked (s ∷ ss) v w a =
      elim (cases_Bool (bytes_eq s.state v)) [
        | inl same ↦ rw same (elim a [
          | inl old ↦ elim (among_cases Q s ss old) [
            | inl q ↦ among_here Q (seen_as s.state (s.with_head || w)) ss (whole s w (inl q))
            | inr t ↦ among_later Q (seen_as s.state (s.with_head || w)) ss t
          ]
          | inr new ↦ among_here Q (seen_as s.state (s.with_head || w)) ss
              (whole s w (inr (subst (λ (x : List ℕ). Q (seen_as x w)) (sym ((bytes_eq-Decides s.state v).0 same)) new)))
        ])
        | inr other ↦ rw other (elim a [
          | inl old ↦ elim (among_cases Q s ss old) [
            | inl q ↦ among_here Q s (marked ss v w) q
            | inr t ↦ among_later Q s (marked ss v w) (among_marked ss v w (inl t))
          ]
          | inr new ↦ among_later Q s (marked ss v w) (among_marked ss v w (inr new))
        ])
      ]

  module _ {R : Type 0} (entry : R → Seen) where
    folded_among : (seen : List Seen) (rows : List R) → Among (fold (λ ss r. marked ss (entry r).state (entry r).with_head) seen rows) Q → Among seen Q ⊎ Among rows (λ r. Q (entry r))
    folded_among seen [] a = inl a
    folded_among seen (r ∷ rows) a =
        elim (folded_among (marked seen (entry r).state (entry r).with_head) rows a) [
          | inl b ↦ elim (marked_among seen (entry r).state (entry r).with_head b) [
            | inl old ↦ inl old
            | inr new ↦ inr (among_here (λ r. Q (entry r)) r rows new)
          ]
          | inr t ↦ inr (among_later (λ r. Q (entry r)) r rows t)
        ]

    among_folded : (seen : List Seen) (rows : List R) → Among seen Q ⊎ Among rows (λ r. Q (entry r)) → Among (fold (λ ss r. marked ss (entry r).state (entry r).with_head) seen rows) Q
    among_folded seen [] (inl a) = a
    among_folded seen [] (inr none) = absurd (among_none (λ r. Q (entry r)) none)
    among_folded seen (r ∷ rows) a =
        among_folded (marked seen (entry r).state (entry r).with_head) rows
        (elim a [
          | inl old ↦ inl (among_marked seen (entry r).state (entry r).with_head (inl old))
          | inr new ↦ elim (among_cases (λ r. Q (entry r)) r rows new) [
            | inl q ↦ inl (among_marked seen (entry r).state (entry r).with_head (inr q))
            | inr t ↦ inr t
          ]
        ])

-- the property to have a state
abbrev HasState : List ℕ → Seen → Type 0
HasState v s = s.state ≡ v

state_parts : (v : List ℕ) (s : Seen) (w : Bool) → HasState v (seen_as s.state (s.with_head || w)) → HasState v s ⊎ HasState v (seen_as s.state w)
state_parts v s w e = inl e

state_whole : (v : List ℕ) (s : Seen) (w : Bool) → HasState v s ⊎ HasState v (seen_as s.state w) → HasState v (seen_as s.state (s.with_head || w))
state_whole v s w (inl e) = e
state_whole v s w (inr e) = e

-- the property to have a state, with the head
abbrev HasBoth : List ℕ → Seen → Type 0
HasBoth v s = (s.state ≡ v) × (s.with_head ≡ true)

or_parts : (a b : Bool) → (a || b) ≡ true → (a ≡ true) ⊎ (b ≡ true)
or_parts true b e = inl refl
or_parts false b e = inr e

or_right : (a : Bool) → (a || true) ≡ true
or_right true = refl
or_right false = refl

both_parts : (v : List ℕ) (s : Seen) (w : Bool) → HasBoth v (seen_as s.state (s.with_head || w)) → HasBoth v s ⊎ HasBoth v (seen_as s.state w)
both_parts v s w h = elim (or_parts s.with_head w h.1) [ inl a ↦ inl (h.0, a) | inr b ↦ inr (h.0, b) ]

both_whole : (v : List ℕ) (s : Seen) (w : Bool) → HasBoth v s ⊎ HasBoth v (seen_as s.state w) → HasBoth v (seen_as s.state (s.with_head || w))
both_whole v s w (inl h) = (h.0, ap (λ (t : Bool). t || w) h.1)
both_whole v s w (inr h) = (h.0, ap (λ (t : Bool). s.with_head || t) h.1 ∙ or_right s.with_head)

abbrev pub states : List Seen → List (List ℕ)
states seen = map (λ s. s.state) seen

once_marked : (seen : List Seen) (v : List ℕ) (w : Bool) → Once (states seen) → Once (states (marked seen v w))
once_marked [] v w once = (has_none v, tt)
once_marked (s ∷ ss) v w once =
    elim (cases_Bool (bytes_eq s.state v)) [
      | inl same ↦ rw same once
      | inr other ↦ rw other (
        λ h. elim (marked_among (HasState s.state) (state_parts s.state) (state_whole s.state) ss v w (among_map (λ s. s.state) (marked ss v w) s.state h)) [
          | inl a ↦ once.0 (subst (Has (states ss)) a.2 (has_map (λ s. s.state) ss a.0 a.1))
          | inr e ↦ both_ways (bytes_eq s.state v) other ((bytes_eq-Decides s.state v).1 (sym e))
        ],
        once_marked ss v w once.1,
      )
    ]

once_folded : {R : Type 0} (entry : R → Seen) (seen : List Seen) (rows : List R) → Once (states seen) → Once (states (fold (λ ss r. marked ss (entry r).state (entry r).with_head) seen rows))
once_folded entry seen [] once = once
once_folded entry seen (r ∷ rows) once = once_folded entry (marked seen (entry r).state (entry r).with_head) rows (once_marked seen (entry r).state (entry r).with_head once)

module _ (s : Shape) (t v : ℕ) (rows : List Row) where
  -- what a row adds to a survey
  abbrev entry : Row → Seen
  entry r = seen_as (place (take (length (features s)) r.cells)) (eqb (get_or r.cells (8 + t) 0) v)

  abbrev seen : List Seen
  seen = surveyed s t v rows

  abbrev os : List Observation
  os = observations s rows

  -- the state of an entry, without the bytes beyond the features
  abbrev pub front : Seen → List ℕ
  front e = take (length (features s)) e.state

  pub once_surveyed : Once (states seen)
  once_surveyed = once_folded entry [] rows tt

  rows_from : (Q : Seen → Type 0) → ((s : Seen) (w : Bool) → Q (seen_as s.state (s.with_head || w)) → Q s ⊎ Q (seen_as s.state w))
      → ((s : Seen) (w : Bool) → Q s ⊎ Q (seen_as s.state w) → Q (seen_as s.state (s.with_head || w))) → Among seen Q → Among rows (λ r. Q (entry r))
  rows_from Q parts whole a = elim (folded_among Q parts whole entry [] rows a) [ inl none ↦ absurd (among_none Q none) | inr found ↦ found ]

  module _ (few : length (features s) ≤ 8) (twelve : AllByRecursion Twelve rows) (known : t < length (targets s)) where
    row_state : (r : Row) → Has rows r → take (length (features s)) (entry r).state ≡ (observation s r).state
    row_state r has =
        let long : length r.cells ≡ 12 = all-has Twelve rows r twelve has in
        take_at (take (length (features s)) r.cells) (replicate _ 0) (length (features s)) (length-take-le (length (features s)) r.cells (omega arith))

    row_value : (r : Row) → get_or (observation s r).outcome t 0 ≡ get_or r.cells (8 + t) 0
    row_value r = get_or-take (length (targets s)) (drop 8 r.cells) t 0 known ∙ get_or-drop 8 r.cells t 0

    -- the row of an entry
    seen_row : (e : Seen) → Has seen e → Among rows (λ r. (entry r).state ≡ e.state)
    seen_row e has = rows_from (HasState e.state) (state_parts e.state) (state_whole e.state) (e, has, refl)

    -- an entry is a state in its place
    seen_place : (e : Seen) → Has seen e → e.state ≡ place (front e)
    seen_place e has =
        let r = seen_row e has in
        sym r.2 ∙ ap place (sym (row_state r.0 r.1) ∙ ap (take (length (features s))) r.2)

    pub front_same : (e d : Seen) → Has seen e → Has seen d → front e ≡ front d → e.state ≡ d.state
    front_same e d has there same = seen_place e has ∙ ap place same ∙ sym (seen_place d there)

    pub shown_from_seen : (e : Seen) → Has seen e → Shown os (front e)
    shown_from_seen e has =
        let r = seen_row e has in
        (observation s r.0, has_map (observation s) rows r.0 r.1, sym (row_state r.0 r.1) ∙ ap (take (length (features s))) r.2)

    pub seen_from_shown : (st : List ℕ) → Shown os st → Among seen (λ e. front e ≡ st)
    seen_from_shown st shown =
        let r = among_map (observation s) rows shown.0 shown.1 in
        let v : List ℕ = (entry r.0).state in
        let e = among_folded (HasState v) (state_parts v) (state_whole v) entry [] rows (inr (r.0, r.1, refl)) in
        (e.0, e.1, ap (take (length (features s))) e.2 ∙ row_state r.0 r.1 ∙ ap (λ (o : Observation). o.state) r.2 ∙ shown.2)

    with_from_seen : (e : Seen) → Has seen e → e.with_head ≡ true → ShownWith os t v (front e)
    with_from_seen e has on =
        let r = rows_from (HasBoth e.state) (both_parts e.state) (both_whole e.state) (e, has, (refl, on)) in
        let at : get_or r.0.cells (8 + t) 0 ≡ v = (Decides-eqb (get_or r.0.cells (8 + t) 0) v).0 r.2.1 in (
          observation s r.0,
          has_map (observation s) rows r.0 r.1,
          (sym (row_state r.0 r.1) ∙ ap (take (length (features s))) r.2.0, row_value r.0 ∙ at),
        )

    seen_from_with : (e : Seen) → Has seen e → ShownWith os t v (front e) → e.with_head ≡ true
    seen_from_with e has shown =
        let r = among_map (observation s) rows shown.0 shown.1 in
        let state : (entry r.0).state ≡ e.state =
        ap place (ap (λ (o : Observation). o.state) r.2 ∙ shown.2.0) ∙ sym (seen_place e has) in
        let value : get_or r.0.cells (8 + t) 0 ≡ v = sym (row_value r.0) ∙ ap (λ (o : Observation). get_or o.outcome t 0) r.2 ∙ shown.2.1 in
        let d = among_folded (HasBoth e.state) (both_parts e.state) (both_whole e.state) entry [] rows
        (inr (r.0, r.1, (state, (Decides-eqb (get_or r.0.cells (8 + t) 0) v).1 value))) in
        let same : d.0 ≡ e = once_same (λ s. s.state) seen once_surveyed d.0 e d.1 has d.2.0 in
        ap (λ (x : Seen). x.with_head) (sym same) ∙ d.2.1

    -- an entry is against exactly when its state is
    pub against_seen : (sense : Sense) (e : Seen) → Has seen e → Decides (against sense e) (Against os t v sense (front e))
    against_seen Cannot e has = (with_from_seen e has, seen_from_with e has)
    against_seen Can e has =
        Decides-like (not e.with_head) (λ never. (shown_from_seen e has, never)) (λ both. both.1)
        (Decides-not e.with_head (with_from_seen e has, seen_from_with e has))
