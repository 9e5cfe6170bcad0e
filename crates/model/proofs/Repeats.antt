-- Lists without repeats, and how many different elements there are. Assumes nothing.
use Rattle.std.proofs.Common.{◌≡◌, ℕ, suc, ◌≤◌, Bool, true, List, [], ◌∷◌, length, filter, sym, refl, ap, ◌∙◌, subst, inl, inr, suc-le-suc, zero-le, arith}
use Rattle.std.specs.List.{ContainsAt as Has}
use Rattle.std.specs.Str.{bytes_eq}
use Rattle.std.proofs.lemmas.Slice.Eq.{bytes_eq-Decides}
use Rattle.std.proofs.lemmas.Bool.{cases_Bool, both_ways}
use Rattle.model.specs.Listings.{some_passes}
use Rattle.model.specs.Exactly.{Once}
use Rattle.model.specs.Weights.{different}
use Rattle.model.proofs.Members.{has_here, has_later, has_cases, has_none, kept_has}
use Rattle.model.proofs.Passing.{some_decides}

-- a list less one of its elements
pub record Less {X : Type 0} (ys : List X) (x : X) (zs : List X) : Type 0 where
  shorter : length ys ≡ suc (length zs)
  others : (y : X) → Has ys y → (x ≡ y → ⊥) → Has zs y

less : {X : Type 0} (ys : List X) (x : X) → Has ys x → (zs : List X) × Less ys x zs
less [] x h = absurd (has_none x h)
less (z ∷ ys) x h =
    elim (has_cases z x ys h) [
      | inl e ↦ (ys, record { shorter = refl; others = λ y at ne. elim (has_cases z y ys at) [ inl f ↦ absurd (ne (sym e ∙ f)) | inr t ↦ t ] })
      | inr t ↦
          let r = less ys x t in (
            z ∷ r.0,
            record {
              shorter = ap suc r.1.shorter;
              others = λ y at ne. elim (has_cases z y ys at) [
                | inl f ↦ subst (Has (z ∷ r.0)) f (has_here z r.0)
                | inr u ↦ has_later z y r.0 (r.1.others y u ne)
              ];
            },
          )
    ]

-- as many different elements as it has, a list holding them all has at least
pub length_once_le : {X : Type 0} (xs ys : List X) → Once xs → ((x : X) → Has xs x → Has ys x) → length xs ≤ length ys
length_once_le [] ys once inside = zero-le
length_once_le (x ∷ xs) ys once inside =
    let r = less ys x (inside x (has_here x xs)) in
    let rest = length_once_le xs r.0 once.1 (λ y h. r.1.others y (inside y (has_later x y xs h)) (λ e. once.0 (rw e h))) in
    rw r.1.shorter (suc-le-suc rest)

pub length_once : {X : Type 0} (xs ys : List X) → Once xs → Once ys → ((x : X) → Has xs x → Has ys x) → ((x : X) → Has ys x → Has xs x) → length xs ≡ length ys
length_once xs ys once twice into back =
    let le = length_once_le xs ys once into in
    let ge = length_once_le ys xs twice back in
    omega arith

pub once_kept : {X : Type 0} (p : X → Bool) (xs : List X) → Once xs → Once (filter p xs)
once_kept p [] once = tt
once_kept p (x ∷ xs) once =
    elim (cases_Bool (p x)) [
      | inl yes' ↦ rw yes' (λ h. once.0 (kept_has p xs x h).0, once_kept p xs once.1)
      | inr not' ↦ rw not' (once_kept p xs once.1)
    ]

again : (s : List ℕ) (ss : List (List ℕ)) → some_passes (bytes_eq s) ss ≡ true → Has ss s
again s ss h =
    let r = (some_decides (bytes_eq s) (λ t. s ≡ t) (λ t. bytes_eq-Decides s t) ss).0 h in
    rw r.2 r.1

pub has_different : (ss : List (List ℕ)) (s : List ℕ) → Has ss s → Has (different ss) s
has_different [] s h = absurd (has_none s h)
has_different (t ∷ ss) s h =
    elim (cases_Bool (some_passes (bytes_eq t) ss)) [
      | inl yes' ↦ rw yes' (elim (has_cases t s ss h) [
        | inl e ↦ has_different ss s (subst (Has ss) e (again t ss yes'))
        | inr u ↦ has_different ss s u
      ])
      | inr not' ↦ rw not' (elim (has_cases t s ss h) [
        | inl e ↦ subst (Has (t ∷ different ss)) e (has_here t (different ss))
        | inr u ↦ has_later t s (different ss) (has_different ss s u)
      ])
    ]

pub different_has : (ss : List (List ℕ)) (s : List ℕ) → Has (different ss) s → Has ss s
different_has [] s h = h
different_has (t ∷ ss) s h =
    elim (cases_Bool (some_passes (bytes_eq t) ss)) [
      | inl yes' ↦ has_later t s ss (different_has ss s (rw yes' at h))
      | inr not' ↦ elim (has_cases t s (different ss) (rw not' at h)) [ inl e ↦ subst (Has (t ∷ ss)) e (has_here t ss) | inr u ↦ has_later t s ss (different_has ss s u) ]
    ]

pub once_different : (ss : List (List ℕ)) → Once (different ss)
once_different [] = tt
once_different (t ∷ ss) =
    elim (cases_Bool (some_passes (bytes_eq t) ss)) [
      | inl yes' ↦ rw yes' (once_different ss)
      | inr not' ↦ rw not' (λ h. both_ways (some_passes (bytes_eq t) ss) not' ((some_decides (bytes_eq t) (λ u. t ≡ u) (λ u. bytes_eq-Decides t u) ss).1 (t, different_has ss t h, refl)), once_different ss)
    ]
