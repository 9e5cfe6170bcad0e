-- What appending a row leaves, by its verdict: the rows shown, the places free, and an image of its shape. Assumes nothing.
use Rattle.std.proofs.Common.{◌≡◌, ℕ, ◌+◌, ◌-◌, ◌/◌, ◌%◌, ◌<◌, ◌≤◌, true, false, cond, eqb, List, [], ◌∷◌, ◌++◌, length, take, drop, set, is_ok, Result, ap, ◌∙◌, inl, inr, add-zero, arith}
use lib.Seq.{take-set-lt}
use Rattle.std.proofs.lemmas.List.{length-take-le, take-append-le, take-take}
use Rattle.std.proofs.lemmas.Bool.{cases_lt, eq-eqb, ne_eqb}
use Rattle.model.specs.declared.refusal.Refusal.{Refusal}
use Rattle.model.specs.declared.row.Row.{Row}
use Rattle.model.specs.declared.shape.Shape.{Shape}
use Rattle.model.specs.Appending.{verdict}
use Rattle.model.specs.Rows.{Twelve}
use Rattle.logs.specs.Images.{Describes, StaysImage, header_of, places_in, used_in}
use Rattle.logs.specs.Packed.{start, bytes_of, shown, free_in, put, counted, written}
use Rattle.logs.proofs.Headers.{used_told}
use Rattle.logs.specs.Shown.{within_places}
use Rattle.logs.proofs.Written.{shown_written, free_written, length_written, places_written}

-- the rows used are counted in the header
pub take_counted : (b : List ℕ) (n : ℕ) → take 32 (counted b n) ≡ counted (take 32 b) n
take_counted b n =
    take-set-lt 32 (set b 8 (n / 256)) 9 (n % 256) (omega arith) ∙ ap (λ l. set l 9 (n % 256)) (take-set-lt 32 b 8 (n / 256) (omega arith))

-- no place lies in the header
pub take_put : (b : List ℕ) (i : ℕ) (p : List ℕ) → start i + 16 ≤ length b → take 32 (put b i p) ≡ take 32 b
take_put b i p within =
    let front = length-take-le (start i) b (omega arith) in
    take-append-le 32 (take (start i) b) (p ++ drop (start i + 16) b) (omega arith) ∙ take-take 32 (start i) b (omega arith)

module _ (b : List ℕ) (r : Row) (twelve : Twelve r) (room : used_in b < places_in b) where
  pub describes_written : (s : Shape) (rows : ℕ) → Describes b s rows → Describes (written b r) s (rows + 1)
  describes_written s rows d =
      let used : used_in b ≡ rows = used_told b s rows d.starts in
      let long = length_written b r twelve room in
      let same = places_written b r twelve room in
      let was = d.long in
      let short = d.short in
      let head : take 32 (written b r) ≡ counted (header_of s rows) (used_in b + 1) =
      take_counted (put b (used_in b) (bytes_of r)) (used_in b + 1) ∙ ap (λ l. counted l (used_in b + 1)) (take_put b (used_in b) (bytes_of r) (within_places b (used_in b) room) ∙ d.starts) in
      record { long = omega arith; short = omega arith; within = omega arith; starts = head ∙ ap (header_of s) (ap (λ n. n + 1) used) }

-- what the verdict tells of the room there was
module _ (b : List ℕ) (r : Row) (twelve : Twelve r) (v : Result Unit Refusal) (is : v ≡ verdict true (free_in b)) where
  ok_room : used_in b < places_in b → is_ok v ≡ true
  ok_room l = let e : eqb (free_in b) 0 ≡ false = ne_eqb (free_in b) 0 (λ z. omega arith) in ap is_ok is ∙ rw e

  ok_no_room : places_in b ≤ used_in b → is_ok v ≡ false
  ok_no_room l = let e : eqb (free_in b) 0 ≡ true = eq-eqb (free_in b) 0 (omega arith) in ap is_ok is ∙ rw e

  by_room : {X : Type 0} (f : List ℕ → X) (y : X) → (used_in b < places_in b → f (written b r) ≡ y) → f (cond (is_ok v) (written b r) b) ≡ cond (is_ok v) y (f b)
  by_room f y h =
      elim (cases_lt (used_in b) (places_in b)) [ inl l ↦ let ok = ok_room l in rw ok (h l) | inr l ↦ let no_Ok = ok_no_room l in rw no_Ok ]

  pub shown_appended : shown (cond (is_ok v) (written b r) b) ≡ cond (is_ok v) (shown b ++ r ∷ []) (shown b)
  shown_appended = by_room shown (shown b ++ r ∷ []) (shown_written b r twelve)

  pub free_appended : free_in (cond (is_ok v) (written b r) b) ≡ cond (is_ok v) (free_in b - 1) (free_in b)
  free_appended = by_room free_in (free_in b - 1) (free_written b r twelve)

  pub image_appended : StaysImage b (cond (is_ok v) (written b r) b) (cond (is_ok v) 1 0)
  image_appended s rows d =
      elim (cases_lt (used_in b) (places_in b)) [ inl l ↦ let ok = ok_room l in rw ok (describes_written b r twelve l s rows d) | inr l ↦ let no_Ok = ok_no_room l in rw (no_Ok, add-zero) d ]
