-- A text says at most one line. Assumes nothing.
use Rattle.std.proofs.Common.{◌≡◌, ℕ, List, [], ◌∷◌, ◌++◌, get_or, sym, refl, ap, ◌∙◌, arith}
use Rattle.model.specs.declared.sense.Sense.{Sense}
use Rattle.model.specs.declared.sense.Sense.TheVariants.{Can, Cannot}
use Rattle.session.specs.Lines.{Line, features, targets, note, listing, forecast, Says, text, fields, sign_of}
use Rattle.session.proofs.Fields.{same_from_fields}
use Rattle.session.proofs.Signs.{same_fronts, same_signs}

-- the first character of a line
abbrev letter : Line → ℕ
letter (features s) = 70
letter (targets s) = 84
letter (note c d s) = 78
letter (listing t v e) = 76
letter (forecast t v s) = 80

text_letter : (l : Line) → get_or (text l) 0 0 ≡ letter l
text_letter (features s) = refl
text_letter (targets s) = refl
text_letter (note c d s) = refl
text_letter (listing t v e) = refl
text_letter (forecast t v s) = refl

same_letters : (bytes : List ℕ) (l m : Line) → Says bytes l → Says bytes m → letter l ≡ letter m
same_letters bytes l m p q = sym (text_letter l) ∙ ap (λ (xs : List ℕ). get_or xs 0 0) (sym p.1 ∙ q.1) ∙ text_letter m

rest_of : (bytes : List ℕ) (a : ℕ) (xs ys : List ℕ) → bytes ≡ a ∷ xs → bytes ≡ a ∷ ys → xs ≡ ys
rest_of bytes a xs ys p q = cc

same_senses : (s t : Sense) → sign_of s ≡ sign_of t → s ≡ t
same_senses Can Can e = refl
same_senses Can Cannot e = absurd (omega arith)
same_senses Cannot Can e = absurd (omega arith)
same_senses Cannot Cannot e = refl

-- so what a line says is what its reading says
pub same_line : (bytes : List ℕ) (l m : Line) → Says bytes l → Says bytes m → l ≡ m
same_line bytes (features s) (features s') p q =
    let ns = same_from_fields (s) (s') p.0 q.0 (rest_of bytes 70 _ _ p.1 q.1) in cc
same_line bytes (features s) (targets s') p q = absurd (omega (arith, same_letters bytes (features s) (targets s') p q))
same_line bytes (features s) (note c' d' s') p q = absurd (omega (arith, same_letters bytes (features s) (note c' d' s') p q))
same_line bytes (features s) (listing t' v' e') p q = absurd (omega (arith, same_letters bytes (features s) (listing t' v' e') p q))
same_line bytes (features s) (forecast t' v' s') p q = absurd (omega (arith, same_letters bytes (features s) (forecast t' v' s') p q))
same_line bytes (targets s) (features s') p q = absurd (omega (arith, same_letters bytes (targets s) (features s') p q))
same_line bytes (targets s) (targets s') p q =
    let ns = same_from_fields (s) (s') p.0 q.0 (rest_of bytes 84 _ _ p.1 q.1) in cc
same_line bytes (targets s) (note c' d' s') p q = absurd (omega (arith, same_letters bytes (targets s) (note c' d' s') p q))
same_line bytes (targets s) (listing t' v' e') p q = absurd (omega (arith, same_letters bytes (targets s) (listing t' v' e') p q))
same_line bytes (targets s) (forecast t' v' s') p q = absurd (omega (arith, same_letters bytes (targets s) (forecast t' v' s') p q))
same_line bytes (note c d s) (features s') p q = absurd (omega (arith, same_letters bytes (note c d s) (features s') p q))
same_line bytes (note c d s) (targets s') p q = absurd (omega (arith, same_letters bytes (note c d s) (targets s') p q))
same_line bytes (note c d s) (note c' d' s') p q =
    let ns = same_from_fields (c ∷ d ∷ s) (c' ∷ d' ∷ s') p.0 q.0 (rest_of bytes 78 _ _ p.1 q.1) in cc
same_line bytes (note c d s) (listing t' v' e') p q = absurd (omega (arith, same_letters bytes (note c d s) (listing t' v' e') p q))
same_line bytes (note c d s) (forecast t' v' s') p q = absurd (omega (arith, same_letters bytes (note c d s) (forecast t' v' s') p q))
same_line bytes (listing t v e) (features s') p q = absurd (omega (arith, same_letters bytes (listing t v e) (features s') p q))
same_line bytes (listing t v e) (targets s') p q = absurd (omega (arith, same_letters bytes (listing t v e) (targets s') p q))
same_line bytes (listing t v e) (note c' d' s') p q = absurd (omega (arith, same_letters bytes (listing t v e) (note c' d' s') p q))
same_line bytes (listing t v e) (listing t' v' e') p q =
    let tail : fields (t ∷ v ∷ []) ++ (32 ∷ sign_of e ∷ []) ≡ fields (t' ∷ v' ∷ []) ++ (32 ∷ sign_of e' ∷ []) = rest_of bytes 76 _ _ p.1 q.1 in
    let front = same_fronts (fields (t ∷ v ∷ [])) (fields (t' ∷ v' ∷ [])) 32 (sign_of e) 32 (sign_of e') tail in
    let ns = same_from_fields (t ∷ v ∷ []) (t' ∷ v' ∷ []) p.0 q.0 front in
    let sense = same_senses e e' (same_signs (fields (t ∷ v ∷ [])) (fields (t' ∷ v' ∷ [])) 32 (sign_of e) 32 (sign_of e') tail) in cc
same_line bytes (listing t v e) (forecast t' v' s') p q = absurd (omega (arith, same_letters bytes (listing t v e) (forecast t' v' s') p q))
same_line bytes (forecast t v s) (features s') p q = absurd (omega (arith, same_letters bytes (forecast t v s) (features s') p q))
same_line bytes (forecast t v s) (targets s') p q = absurd (omega (arith, same_letters bytes (forecast t v s) (targets s') p q))
same_line bytes (forecast t v s) (note c' d' s') p q = absurd (omega (arith, same_letters bytes (forecast t v s) (note c' d' s') p q))
same_line bytes (forecast t v s) (listing t' v' e') p q = absurd (omega (arith, same_letters bytes (forecast t v s) (listing t' v' e') p q))
same_line bytes (forecast t v s) (forecast t' v' s') p q =
    let ns = same_from_fields (t ∷ v ∷ s) (t' ∷ v' ∷ s') p.0 q.0 (rest_of bytes 80 _ _ p.1 q.1) in cc
