-- Tests over a list, and what they decide. Assumes nothing.
use Rattle.std.proofs.Common.{◌≡◌, Bool, true, List, [], ◌∷◌, Decides, refl, inl, inr}
use Rattle.std.specs.List.{ContainsAt as Has, list_all}
use Rattle.std.proofs.ByRecursion.{all-has, Decides-by_and}
use Rattle.std.proofs.lemmas.Bool.{false≢true, or_cases, or_left, or_right}
use Rattle.model.specs.Listings.{some_passes}
use Rattle.model.specs.Optimal.{Among}
use Rattle.model.proofs.Members.{has_here, has_later, has_cases, has_none, all_from_has}

module _ {X : Type 0} (p : X → Bool) (P : X → Type 0) (each : (x : X) → Decides (p x) (P x)) where
  some_passes_has : (xs : List X) → some_passes p xs ≡ true → Among xs P
  some_passes_has [] h = absurd (false≢true h)
  some_passes_has (x ∷ xs) h =
      elim (or_cases (p x) (some_passes p xs) h) [
        | inl e ↦ (x, has_here x xs, (each x).0 e)
        | inr e ↦ let r = some_passes_has xs e in (r.0, has_later x r.0 xs r.1, r.2)
      ]

  some_passes_from : (xs : List X) (x : X) → Has xs x → P x → some_passes p xs ≡ true
  some_passes_from [] x h k = absurd (has_none x h)
  some_passes_from (y ∷ ys) x h k =
      elim (has_cases y x ys h) [
        | inl e ↦ or_left (p y) (some_passes p ys) (rw e ((each x).1 k))
        | inr t ↦ or_right (p y) (some_passes p ys) (some_passes_from ys x t k)
      ]

  pub some_decides : (xs : List X) → Decides (some_passes p xs) (Among xs P)
  some_decides xs = (some_passes_has xs, λ a. some_passes_from xs a.0 a.1 a.2)

  pub all_decides : (xs : List X) → Decides (list_all p xs) ((x : X) → Has xs x → P x)
  all_decides xs =
      let d = Decides-by_and p P (list_all p) each refl (λ _ _. refl) xs in
      (λ h x has. all-has P xs x (d.0 h) has, λ f. d.1 (all_from_has P xs f))
