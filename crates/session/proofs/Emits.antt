-- Emitting one page after another to the output. Assumes nothing.
use Rattle.std.proofs.Common.{◌≡◌, ℕ, ◌+◌, ◌≤◌, Bool, true, false, cond, List, ◌++◌, length, take, drop, Result, Ok, Err, sym, refl, ap, ◌∙◌, arith}
use Rattle.std.proofs.lemmas.List.{append_assoc, drop_at, drop-drop, length-append, length-take-le, length-drop}
use Rattle.std.proofs.lemmas.Bool.{leb-true}
use Rattle.session.specs.Outputs.{fits, placed}

-- an answer that is no refusal came of a text that fits
pub emitted : {A E : Type 0} (b : Bool) (x y : A) (e : E) (r : Result A E) → r ≡ cond b (Ok x) (Err e) → r ≡ Ok y → (b ≡ true) × (y ≡ x)
emitted true x y e r p q = (refl, cc)
emitted false x y e r p q = cc

module _ (before out text : List ℕ) (w : ℕ) (fit : fits out w text ≡ true) where
  long : w + length text ≤ length out
  long = leb-true (w + length text) (length out) fit

  front : length (take w out ++ text) ≡ w + length text
  front = length-append (take w out) text ∙ ap (λ (n : ℕ). n + length text) (length-take-le w out (omega (arith, long)))

  pub length_placed : length (placed out w text) ≡ length out
  length_placed =
      ap length (sym (append_assoc (take w out) text (drop (w + length text) out)))
      ∙ length-append (take w out ++ text) (drop (w + length text) out)
      ∙ omega (arith, front, length-drop (w + length text) out, long)

  -- the bytes after the text are as they were at the start
  pub drop_placed : drop w out ≡ drop w before → drop (w + length text) (placed out w text) ≡ drop (w + length text) before
  drop_placed same =
      ap (drop (w + length text)) (sym (append_assoc (take w out) text (drop (w + length text) out)))
      ∙ drop_at (take w out ++ text) (drop (w + length text) out) (w + length text) front
      ∙ sym (drop-drop (length text) w out)
      ∙ ap (drop (length text)) same
      ∙ drop-drop (length text) w before
