-- Tables of eight whose first places are filled. Assumes nothing.
use Rattle.std.proofs.Common.{◌≡◌, ℕ, ◌-◌, ◌<◌, ◌≤◌, List, length, get_or, replicate, sym, refl, ◌∙◌, inl, inr, arith}
use Rattle.std.proofs.lemmas.List.{ext_get_or, get_or_past, get_or_append_left, get_or-append_right, get_or-replicate, length-append, length-replicate}
use Rattle.std.proofs.lemmas.Bool.{cases_lt}
use Rattle.model.specs.Memory.{place}

-- eight bytes that read as some numbers, and as 0 past the last
pub place_filled : (bytes numbers : List ℕ) → length bytes ≡ 8 → length numbers ≤ 8 → ((k : ℕ) → k < 8 → get_or bytes k 0 ≡ get_or numbers k 0) → bytes ≡ place numbers
place_filled bytes numbers eight few same =
    let zeros : List ℕ = replicate (8 - length numbers) 0 in
    ext_get_or 0 bytes (place numbers) (omega (arith, length-append numbers zeros, length-replicate {A = ℕ} (8 - length numbers) 0))
    (λ k h. same k (omega arith) ∙ elim (cases_lt k (length numbers)) [
      | inl lt ↦ sym (get_or_append_left numbers zeros 0 k lt)
      | inr ge ↦ get_or_past numbers k 0 ge ∙ sym (get_or-append_right numbers zeros (length numbers) k 0 refl ge ∙ get_or-replicate (8 - length numbers) (k - length numbers) 0 0 (omega arith))
    ])
