-- The list of all bodies holds bodies. Assumes nothing.
use Rattle.std.proofs.Common.{◌≡◌, ℕ, zero, suc, ◌+◌, ◌<◌, List, [], ◌∷◌, map, length, refl, ap, arith}
use Rattle.std.specs.List.{range_with_len, flat_map, AllByRecursion}
use Rattle.std.proofs.ByRecursion.{All-append, All-map, All-weaker}
use Rattle.model.specs.Kinds.{Meaning}
use Rattle.model.specs.Bodies.{Body, bodies}

pub all_counting : (a n : ℕ) → AllByRecursion (λ d. d < a + n) (range_with_len a n)
all_counting a zero = tt
all_counting a (suc n) = (omega arith, All-weaker (λ d. d < a + 1 + n) (λ d. d < a + suc n) (λ d h. omega arith) (range_with_len (a + 1) n) (all_counting (a + 1) n))

pub all_joined : {X A : Type 0} (P : A → Type 0) (f : X → List A) (xs : List X) → AllByRecursion (λ x. AllByRecursion P (f x)) xs → AllByRecursion P (flat_map f xs)
all_joined P f [] h = tt
all_joined P f (x ∷ xs) h = All-append P (f x) (flat_map f xs) h.0 (all_joined P f xs h.1)

pub bodies_are : (m : Meaning) (ns : List ℕ) → AllByRecursion (Body m ns) (bodies m ns)
bodies_are m [] = (tt, tt)
bodies_are m (n ∷ ns) =
    all_joined (Body m (n ∷ ns)) (λ c. map (λ b. c ∷ b) (bodies m ns)) (range_with_len 0 (m.conditions n))
    (All-weaker (λ d. d < 0 + m.conditions n) (λ c. AllByRecursion (Body m (n ∷ ns)) (map (λ b. c ∷ b) (bodies m ns)))
    (λ c h. All-map (Body m (n ∷ ns)) (λ b. c ∷ b) (bodies m ns) (All-weaker (Body m ns) (λ b. (c < m.conditions n) × Body m ns b) (λ b k. (omega arith, k)) (bodies m ns) (bodies_are m ns)))
    (range_with_len 0 (m.conditions n))
    (all_counting 0 (m.conditions n)))

pub length_body : (m : Meaning) (ns b : List ℕ) → Body m ns b → length b ≡ length ns
length_body m [] [] k = refl
length_body m [] (c ∷ b) k = absurd k
length_body m (n ∷ ns) [] k = absurd k
length_body m (n ∷ ns) (c ∷ b) k = ap suc (length_body m ns b k.1)
