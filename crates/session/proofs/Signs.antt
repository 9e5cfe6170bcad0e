-- The space and the sign at the end of a text. Assumes nothing.
use Rattle.std.proofs.Common.{◌≡◌, ℕ, ◌+◌, ◌-◌, List, [], ◌∷◌, ◌++◌, length, get_or, sym, refl, ap, ◌∙◌, append_assoc, arith}
use Rattle.std.proofs.lemmas.List.{length-append, get_or-append_right, same_from_push}
use Rattle.session.specs.Lines.{Lists, Signed, Asks, fields, sign_of}
use Rattle.session.proofs.Fields.{same_from_fields}
use Rattle.model.specs.declared.sense.Sense.{Sense}

-- where they stand
pub signed_places : (bytes front : List ℕ) (sense : Sense) → Signed bytes front sense → (length bytes ≡ length front + 2) × (get_or bytes (length bytes - 2) 0 ≡ 32) × (get_or bytes (length bytes - 1) 0 ≡ sign_of sense)
signed_places bytes front sense e =
    let ending : List ℕ = 32 ∷ sign_of sense ∷ [] in
    let long : length bytes ≡ length front + 2 = ap length e ∙ length-append front ending in
    let space : length bytes - 2 ≡ length front = omega arith in
    let sign : length bytes - 1 ≡ length front + 1 = omega arith in
    let z : length front - length front ≡ 0 = omega arith in
    let o : length front + 1 - length front ≡ 1 = omega arith in
    let at-space = get_or-append_right front ending (length front) (length front) 0 refl (omega arith) in
    let at_sign = get_or-append_right front ending (length front) (length front + 1) 0 refl (omega arith) in (
      long,
      ap (λ (i : ℕ). get_or bytes i 0) space ∙ ap (λ (xs : List ℕ). get_or xs (length front) 0) e ∙ at-space ∙ ap (λ (i : ℕ). get_or ending i 0) z,
      ap (λ (i : ℕ). get_or bytes i 0) sign ∙ ap (λ (xs : List ℕ). get_or xs (length front + 1) 0) e ∙ at_sign ∙ ap (λ (i : ℕ). get_or ending i 0) o,
    )

two_ends : (xs ys : List ℕ) (a b c d : ℕ) → xs ++ (a ∷ b ∷ []) ≡ ys ++ (c ∷ d ∷ []) → (xs ++ a ∷ [] ≡ ys ++ c ∷ []) × (b ≡ d)
two_ends xs ys a b c d e =
    let left = append_assoc xs (a ∷ []) (b ∷ []) in
    let right = append_assoc ys (c ∷ []) (d ∷ []) in
    same_from_push (xs ++ a ∷ []) (ys ++ c ∷ []) b d (left ∙ e ∙ sym right)

-- what stands before them is the only such text
pub same_fronts : (xs ys : List ℕ) (a b c d : ℕ) → xs ++ (a ∷ b ∷ []) ≡ ys ++ (c ∷ d ∷ []) → xs ≡ ys
same_fronts xs ys a b c d e = (same_from_push xs ys a c (two_ends xs ys a b c d e).0).0

-- and the last byte the only such byte
pub same_signs : (xs ys : List ℕ) (a b c d : ℕ) → xs ++ (a ∷ b ∷ []) ≡ ys ++ (c ∷ d ∷ []) → b ≡ d
same_signs xs ys a b c d e = (two_ends xs ys a b c d e).1

-- a target and a value stand before the sign
pub asks_front : (bytes front : List ℕ) (signed : Sense) → Signed bytes front signed → (t v : ℕ) (sense : Sense) → Asks bytes t v sense → Lists front (t ∷ v ∷ [])
asks_front bytes front signed e t v sense asks = (asks.0, same_fronts front (fields (t ∷ v ∷ [])) 32 (sign_of signed) 32 (sign_of sense) (sym e ∙ asks.1))

-- no other numbers do
pub no_ask : (bytes front ns : List ℕ) (signed : Sense) → Signed bytes front signed → Lists front ns → (length ns ≡ 2 → ⊥) → (t v : ℕ) (sense : Sense) → Asks bytes t v sense → ⊥
no_ask bytes front ns signed e lists other t v sense asks =
    let two = asks_front bytes front signed e t v sense asks in
    other (ap length (same_from_fields ns (t ∷ v ∷ []) lists.0 two.0 (sym lists.1 ∙ two.1)))
