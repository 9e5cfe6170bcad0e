-- The bodies stand in rising order, and what is kept of them too. Assumes nothing.
use Rattle.std.proofs.Common.{ℕ, zero, suc, ◌+◌, ◌<◌, ◌≤◌, Bool, List, [], ◌∷◌, ◌++◌, map, filter, refl, inl, inr, arith}
use Rattle.std.specs.List.{range_with_len, flat_map, AllByRecursion}
use Rattle.std.proofs.ByRecursion.{All-append, All-map, All-weaker, all_kept_by, all-has}
use Rattle.std.proofs.lemmas.Bool.{cases_Bool}
use Rattle.model.specs.Bodies.{bodies}
use Rattle.model.specs.Kinds.{Meaning}
use Rattle.model.specs.Exactly.{Once, Before, Rising}
use Rattle.model.proofs.Bodies.{all_joined}

rising_append : (bs cs : List (List ℕ)) → Rising bs → Rising cs → AllByRecursion (λ b. AllByRecursion (Before b) cs) bs → Rising (bs ++ cs)
rising_append [] cs up on over = on
rising_append (b ∷ bs) cs up on over = (All-append (Before b) bs cs up.0 over.0, rising_append bs cs up.1 on over.1)

rising_map : (c : ℕ) (bs : List (List ℕ)) → Rising bs → Rising (map (λ b. c ∷ b) bs)
rising_map c [] up = tt
rising_map c (b ∷ bs) up =
    (All-map (Before (c ∷ b)) (λ b. c ∷ b) bs (All-weaker (Before b) (λ d. Before (c ∷ b) (c ∷ d)) (λ d h. inr (refl, h)) bs up.0), rising_map c bs up.1)

all_counting_from : (a n : ℕ) → AllByRecursion (λ d. a ≤ d) (range_with_len a n)
all_counting_from a zero = tt
all_counting_from a (suc n) = (omega arith, All-weaker (λ d. a + 1 ≤ d) (λ d. a ≤ d) (λ d h. omega arith) (range_with_len (a + 1) n) (all_counting_from (a + 1) n))

all_true : {X : Type 0} (P : X → Type 0) → ((x : X) → P x) → (xs : List X) → AllByRecursion P xs
all_true P f [] = tt
all_true P f (x ∷ xs) = (f x, all_true P f xs)

-- a rule with code c in front stands before each rule with a greater code in front
before_joined : (bs : List (List ℕ)) (c : ℕ) (b : List ℕ) (ds : List ℕ) → AllByRecursion (λ d. c < d) ds → AllByRecursion (Before (c ∷ b)) (flat_map (λ d. map (λ e. d ∷ e) bs) ds)
before_joined bs c b ds greater =
    all_joined (Before (c ∷ b)) (λ d. map (λ e. d ∷ e) bs) ds
    (All-weaker (λ d. c < d) (λ d. AllByRecursion (Before (c ∷ b)) (map (λ e. d ∷ e) bs))
    (λ d h. All-map (Before (c ∷ b)) (λ e. d ∷ e) bs (all_true (λ e. Before (c ∷ b) (d ∷ e)) (λ e. inl h) bs)) ds greater)

rising_joined : (bs : List (List ℕ)) → Rising bs → (a n : ℕ) → Rising (flat_map (λ c. map (λ b. c ∷ b) bs) (range_with_len a n))
rising_joined bs up a zero = tt
rising_joined bs up a (suc n) =
    let greater : AllByRecursion (λ d. a < d) (range_with_len (a + 1) n) = All-weaker (λ d. a + 1 ≤ d) (λ d. a < d) (λ d h. omega arith) (range_with_len (a + 1) n) (all_counting_from (a + 1) n) in
    let later : List (List ℕ) = flat_map (λ c. map (λ b. c ∷ b) bs) (range_with_len (a + 1) n) in
    rising_append (map (λ b. a ∷ b) bs) later (rising_map a bs up) (rising_joined bs up (a + 1) n)
    (All-map (λ b. AllByRecursion (Before b) later) (λ b. a ∷ b) bs (all_true (λ b. AllByRecursion (Before (a ∷ b)) later) (λ b. before_joined bs a b (range_with_len (a + 1) n) greater) bs))

pub rising_bodies : (m : Meaning) (ns : List ℕ) → Rising (bodies m ns)
rising_bodies m [] = (tt, tt)
rising_bodies m (n ∷ ns) = rising_joined (bodies m ns) (rising_bodies m ns) 0 (m.conditions n)

pub rising_kept : (p : List ℕ → Bool) (bs : List (List ℕ)) → Rising bs → Rising (filter p bs)
rising_kept p [] up = tt
rising_kept p (b ∷ bs) up =
    elim (cases_Bool (p b)) [
      | inl yes' ↦ rw yes' (all_kept_by p (Before b) bs up.0, rising_kept p bs up.1)
      | inr not' ↦ rw not' (rising_kept p bs up.1)
    ]

before_itself : (b : List ℕ) → Before b b → ⊥
before_itself [] h = h
before_itself (x ∷ b) h = elim h [ inl lt ↦ omega arith | inr later ↦ before_itself b later.1 ]

pub once_rising : (bs : List (List ℕ)) → Rising bs → Once bs
once_rising [] up = tt
once_rising (b ∷ bs) up = (λ h. before_itself b (all-has (Before b) bs b up.0 h), once_rising bs up.1)
