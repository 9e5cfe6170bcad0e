-- How many bodies there are, and that the limits leave at least one. Assumes nothing.
use Rattle.std.proofs.Common.{◌≡◌, ℕ, zero, suc, ◌+◌, ◌*◌, ◌<◌, ◌≤◌, List, [], ◌∷◌, map, length, get_or, drop, replicate, sym, refl, ap, ◌∙◌, mul_assoc, suc-mul, add_comm, mul-pos, zero-mul, mul-one, le-mul_of_pos_right, arith}
use Rattle.std.specs.List.{range_with_len, flat_map, AllByRecursion}
use Rattle.std.proofs.lemmas.List.{at_drop_more, at_drop_all, length-append, length-map}
use Rattle.std.proofs.ByRecursion.{All-drop}
use Rattle.model.specs.Kinds.{Meaning, Laws}
use Rattle.model.specs.Sizes.{Size}
use Rattle.model.specs.Limits.{body_count, Listable}
use Rattle.model.specs.Bodies.{Body, bodies}

module _ (m : Meaning) (laws : Laws m) where
  some_conditions : (n : ℕ) → Size n → n ≤ m.largest → 1 ≤ m.conditions n
  some_conditions n size narrow = (laws.at n size.0 narrow).some

  pub some_bodies : (ns : List ℕ) → AllByRecursion Size ns → AllByRecursion (λ n. n ≤ m.largest) ns → 1 ≤ body_count m ns
  some_bodies [] sized narrow = omega arith
  some_bodies (n ∷ ns) sized narrow =
      mul-pos (some_conditions n sized.0 narrow.0) (some_bodies ns sized.1 narrow.1)

  -- the rule without conditions is a body
  pub body_bare : (ns : List ℕ) → AllByRecursion Size ns → AllByRecursion (λ n. n ≤ m.largest) ns → Body m ns (replicate (length ns) 0)
  body_bare [] sized narrow = tt
  body_bare (n ∷ ns) sized narrow = (some_conditions n sized.0 narrow.0, body_bare ns sized.1 narrow.1)

length_starting : (m : Meaning) (bs : List (List ℕ)) (c n : ℕ) → length (flat_map (λ d. map (λ b. d ∷ b) bs) (range_with_len c n)) ≡ n * length bs
length_starting m bs c zero = sym (zero-mul (length bs))
length_starting m bs c (suc n) =
    length-append (map (λ b. c ∷ b) bs) (flat_map (λ d. map (λ b. d ∷ b) bs) (range_with_len (c + 1) n))
    ∙ ap (λ (k : ℕ). k + length (flat_map (λ d. map (λ b. d ∷ b) bs) (range_with_len (c + 1) n))) (length-map bs (λ b. c ∷ b))
    ∙ ap (λ (k : ℕ). length bs + k) (length_starting m bs (c + 1) n)
    ∙ sym (suc-mul n (length bs) ∙ add_comm (n * length bs) (length bs))

pub length_bodies : (m : Meaning) (ns : List ℕ) → length (bodies m ns) ≡ body_count m ns
length_bodies m [] = refl
length_bodies m (n ∷ ns) = length_starting m (bodies m ns) 0 (m.conditions n) ∙ ap (λ (k : ℕ). m.conditions n * k) (length_bodies m ns)

-- one size more is multiplied in
pub count_more : (m : Meaning) (ns : List ℕ) (b i : ℕ) → i < length ns → b * body_count m (drop i ns) ≡ body_count m ns
    → b * m.conditions (get_or ns i 0) * body_count m (drop (i + 1) ns) ≡ body_count m ns
count_more m ns b i within so_far =
    mul_assoc b (m.conditions (get_or ns i 0)) (body_count m (drop (i + 1) ns))
    ∙ ap (λ (k : ℕ). b * k) (sym (at_drop_more (body_count m) ns i 0 within))
    ∙ so_far

pub count_all : (m : Meaning) (ns : List ℕ) (b i : ℕ) → length ns ≤ i → b * body_count m (drop i ns) ≡ body_count m ns → b ≡ body_count m ns
count_all m ns b i over so_far = sym (ap (λ (k : ℕ). b * k) (at_drop_all (body_count m) ns i over) ∙ mul-one b) ∙ so_far

-- too many already, and there is at least one way to go on
pub too_many : (m : Meaning) → Laws m → (ns : List ℕ) (b i : ℕ) → AllByRecursion Size ns → 1000000 < b → b * body_count m (drop i ns) ≡ body_count m ns → Listable m ns → ⊥
too_many m laws ns b i sized many so_far listable =
    let some = some_bodies m laws (drop i ns) (All-drop Size i ns sized) (All-drop (λ n. n ≤ m.largest) i ns listable.0) in
    let more : b ≤ b * body_count m (drop i ns) = le-mul_of_pos_right b some in
    omega (arith, listable.1)
