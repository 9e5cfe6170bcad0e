-- What stands in a list. Assumes nothing.
use Rattle.std.proofs.Common.{◌≡◌, ℕ, zero, suc, ◌<◌, Bool, true, ◌⊎◌, List, [], ◌∷◌, map, length, filter, refl, subst, inl, inr, suc-le-suc, le_of_suc-le-suc, not-suc-le-zero, zero-add, arith}
use Rattle.std.specs.List.{range_with_len, HoldsAt, ContainsAt as Has, flat_map, AllByRecursion}
use Rattle.std.proofs.lemmas.List.FromFn.{length-range_with_len, get_or-range_with_len}
use Rattle.std.proofs.ByRecursion.{all-has, All-weaker, all_has_itself, all_kept_by, kept_by_passes, has_append_left, has_append_right}
use Rattle.std.proofs.lemmas.Bool.{cases_Bool, both_ways}

pub has_here : {X : Type 0} (x : X) (xs : List X) → Has (x ∷ xs) x
has_here x xs = (0, omega arith, λ d. refl)

pub has_later : {X : Type 0} (y x : X) (xs : List X) → Has xs x → Has (y ∷ xs) x
has_later y x xs h = (suc h.0, suc-le-suc h.1, h.2)

has_cases_at : {X : Type 0} (y x : X) (xs : List X) (k : ℕ) → k < length (y ∷ xs) → HoldsAt (λ z. z ≡ x) (y ∷ xs) k → (y ≡ x) ⊎ Has xs x
has_cases_at y x xs zero lt e = inl (e y)
has_cases_at y x xs (suc k) lt e = inr (k, le_of_suc-le-suc lt, e)

pub has_cases : {X : Type 0} (y x : X) (xs : List X) → Has (y ∷ xs) x → (y ≡ x) ⊎ Has xs x
has_cases y x xs h = has_cases_at y x xs h.0 h.1 h.2

pub has_none : {X : Type 0} (x : X) → Has [] x → ⊥
has_none x h = not-suc-le-zero h.1

pub all_from_has : {X : Type 0} (P : X → Type 0) (xs : List X) → ((x : X) → Has xs x → P x) → AllByRecursion P xs
all_from_has P xs f = All-weaker (Has xs) P f xs (all_has_itself xs)

pub has_map : {X Y : Type 0} (f : X → Y) (xs : List X) (x : X) → Has xs x → Has (map f xs) (f x)
has_map f [] x h = absurd (has_none x h)
has_map f (y ∷ ys) x h =
    elim (has_cases y x ys h) [
      | inl e ↦ subst (λ z. Has (f y ∷ map f ys) (f z)) e (has_here (f y) (map f ys))
      | inr t ↦ has_later (f y) (f x) (map f ys) (has_map f ys x t)
    ]

pub has_joined : {X A : Type 0} (f : X → List A) (xs : List X) (x : X) (a : A) → Has xs x → Has (f x) a → Has (flat_map f xs) a
has_joined f [] x a h k = absurd (has_none x h)
has_joined f (y ∷ ys) x a h k =
    elim (has_cases y x ys h) [
      | inl e ↦ has_append_left (f y) (flat_map f ys) a (rw e k)
      | inr t ↦ has_append_right (f y) (flat_map f ys) a (has_joined f ys x a t k)
    ]

pub has_counting : (n k : ℕ) → k < n → Has (range_with_len 0 n) k
has_counting n k h = (k, rw length-range_with_len h, λ d. rw (get_or-range_with_len 0 n k d h, zero-add k))

pub has_kept : {X : Type 0} (p : X → Bool) (xs : List X) (x : X) → Has xs x → p x ≡ true → Has (filter p xs) x
has_kept p [] x h passes = absurd (has_none x h)
has_kept p (y ∷ ys) x h passes =
    elim (cases_Bool (p y)) [
      | inl yes' ↦ rw yes' (elim (has_cases y x ys h) [
        | inl e ↦ subst (λ z. Has (y ∷ filter p ys) z) e (has_here y (filter p ys))
        | inr t ↦ has_later y x (filter p ys) (has_kept p ys x t passes)
      ])
      | inr not' ↦ rw not' (elim (has_cases y x ys h) [
        | inl e ↦ absurd (both_ways (p y) not' (rw e passes))
        | inr t ↦ has_kept p ys x t passes
      ])
    ]

pub kept_has : {X : Type 0} (p : X → Bool) (xs : List X) (x : X) → Has (filter p xs) x → Has xs x × (p x ≡ true)
kept_has p xs x h = (
  all-has (Has xs) (filter p xs) x (all_kept_by p (Has xs) xs (all_has_itself xs)) h,
  all-has (λ y. p y ≡ true) (filter p xs) x (kept_by_passes p xs) h,
)
