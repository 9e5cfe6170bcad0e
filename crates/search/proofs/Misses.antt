-- Noting the near misses of a rule, one state after another. Assumes nothing.
use Rattle.std.proofs.Common.{◌≡◌, ℕ, ◌+◌, ◌<◌, ◌≤◌, Bool, true, false, ◌⊎◌, Decides, List, [], ◌∷◌, ◌++◌, length, get_or, take, set, replicate, sym, ap, ◌∙◌, subst, inl, inr, arith}
use Rattle.std.specs.List.{ContainsAt as Has, AllByRecursion}
use Rattle.std.proofs.ByRecursion.{All-get_or, All-set, has_append_left, has_append_right}
use Rattle.std.proofs.lemmas.List.{length-set, take_more, get_or-set_same, get_or-set_other, get_or-replicate}
use Rattle.std.proofs.lemmas.Bool.{cases_eq, both_ways}
use Rattle.std.proofs.lemmas.Bool.Decides.{Decides-at, Decides-like}
use Rattle.model.specs.Kinds.{Meaning}
use Rattle.model.specs.Optimal.{Among}
use Rattle.model.proofs.Members.{has_here, has_later, has_cases, has_none}
use Rattle.search.specs.Misses.{meets, Lone, Missed, Noted}

-- a table with one place set has rows as long as before
pub eights_noting : (near : List (List Bool)) (j y : ℕ) → j < length near → AllByRecursion (λ r. length r ≡ 8) near → AllByRecursion (λ r. length r ≡ 8) (set near j (set (get_or near j []) y true))
eights_noting near j y within eights =
    All-set (λ r. length r ≡ 8) near j (set (get_or near j []) y true) (length-set (get_or near j []) y true ∙ All-get_or (λ r. length r ≡ 8) near j [] within eights) eights

has_push_cases : {X : Type 0} (xs : List X) (y x : X) → Has (xs ++ y ∷ []) x → Has xs x ⊎ (y ≡ x)
has_push_cases [] y x h = elim (has_cases y x [] h) [ inl e ↦ inr e | inr t ↦ absurd (has_none x t) ]
has_push_cases (z ∷ zs) y x h =
    elim (has_cases z x (zs ++ y ∷ []) h) [
      | inl e ↦ inl (subst (Has (z ∷ zs)) e (has_here z zs))
      | inr t ↦ elim (has_push_cases zs y x t) [ inl k ↦ inl (has_later z x zs k) | inr e ↦ inr e ]
    ]

module _ {X : Type 0} (P : X → Type 0) (xs : List X) (n : ℕ) (d : X) (within : n < length xs) where
  -- among one element more are those before and that element
  among_more_before : Among (take n xs) P → Among (take (n + 1) xs) P
  among_more_before a = subst (λ ys. Among ys P) (sym (take_more xs n d within)) (a.0, has_append_left (take n xs) (get_or xs n d ∷ []) a.0 a.1, a.2)

  among_more_here : P (get_or xs n d) → Among (take (n + 1) xs) P
  among_more_here p = subst (λ ys. Among ys P) (sym (take_more xs n d within)) (get_or xs n d, has_append_right (take n xs) (get_or xs n d ∷ []) (get_or xs n d) (has_here (get_or xs n d) []), p)

  among_more_cases : Among (take (n + 1) xs) P → Among (take n xs) P ⊎ P (get_or xs n d)
  among_more_cases a =
      let b = subst (λ ys. Among ys P) (take_more xs n d within) a in
      elim (has_push_cases (take n xs) (get_or xs n d) b.0 b.1) [ inl h ↦ inl (b.0, h, b.2) | inr e ↦ inr (subst P (sym e) b.2) ]

module _ (m : Meaning) (ns b : List ℕ) where
  -- a state is kept out by a single condition in one way only
  pub lone_same : (v : List ℕ) (n i j : ℕ) → Lone m ns b v n i → Lone m ns b v n j → i ≡ j
  lone_same v n i j p q = elim (cases_eq i j) [ inl e ↦ e | inr ne ↦ absurd (both_ways (meets m ns b v i) p.fails (q.others i p.within ne)) ]

  -- before the first state there is none
  pub noted_none : Noted m ns [] b (replicate 8 (replicate 8 false))
  noted_none i x feature small =
      let row : get_or (replicate 8 (replicate 8 false)) i [] ≡ replicate 8 false = get_or-replicate 8 i (replicate 8 false) [] feature in
      let none : get_or (get_or (replicate 8 (replicate 8 false)) i []) x false ≡ false = ap (λ (r : List Bool). get_or r x false) row ∙ get_or-replicate 8 x false false small in
      (λ e. absurd (both_ways (get_or (get_or (replicate 8 (replicate 8 false)) i []) x false) none e), λ a. absurd (has_none a.0 a.1))

  module _ (opposed : List (List ℕ)) (near : List (List Bool)) (n : ℕ) (d : List ℕ) (within : n < length opposed) (noted : Noted m ns (take n opposed) b near) where
    abbrev here : List ℕ
    here = get_or opposed n d

    -- a state without a place
    noted_more_none : ((i x : ℕ) → x < 8 → Missed m ns b i x here → ⊥) → Noted m ns (take (n + 1) opposed) b near
    noted_more_none none i x feature small =
        Decides-like (get_or (get_or near i []) x false) (among_more_before (Missed m ns b i x) opposed n d within)
        (λ a. elim (among_more_cases (Missed m ns b i x) opposed n d within a) [ inl before ↦ before | inr miss ↦ absurd (none i x small miss) ])
        (noted i x feature small)

    -- a state that no single condition keeps out
    pub noted_more_beside : ((i : ℕ) → Lone m ns b here (length ns) i → ⊥) → Noted m ns (take (n + 1) opposed) b near
    noted_more_beside never = noted_more_none (λ i x small miss. never i miss.0)

    module _ (j : ℕ) (lone : Lone m ns b here (length ns) j) where
      same_value : (i x : ℕ) → Missed m ns b i x here → (i ≡ j) × (x ≡ get_or here j 0)
      same_value i x miss = let same = lone_same here (length ns) i j miss.0 lone in (same, sym miss.1 ∙ ap (λ (k : ℕ). get_or here k 0) same)

      -- a near miss with a value that no condition holds of
      pub noted_more_large : 8 ≤ get_or here j 0 → Noted m ns (take (n + 1) opposed) b near
      noted_more_large large = noted_more_none (λ i x small miss. let value = (same_value i x miss).1 in omega (arith, value))

      -- a near miss
      module _ (eight : length near ≡ 8) (long : length (get_or near j []) ≡ 8) (y : ℕ) (place : j < 8) (fits : y < 8) (value : y ≡ get_or here j 0) where
        -- the table with its place set
        abbrev pub noting : List (List Bool)
        noting = set near j (set (get_or near j []) y true)

        row_here : get_or noting j [] ≡ set (get_or near j []) y true
        row_here = get_or-set_same near j (set (get_or near j []) y true) [] (omega arith)

        -- any other place is as it was
        place_other : (i x : ℕ) → ((i ≡ j) × (x ≡ y) → ⊥) → get_or (get_or noting i []) x false ≡ get_or (get_or near i []) x false
        place_other i x ne =
            elim (cases_eq i j) [
              | inl e ↦ rw e (ap (λ (r : List Bool). get_or r x false) row_here ∙ get_or-set_other (get_or near j []) y x true false (λ k. ne (e, k)))
              | inr k ↦ ap (λ (r : List Bool). get_or r x false) (get_or-set_other near j i (set (get_or near j []) y true) [] k)
            ]

        beside : (i x : ℕ) → i < 8 → x < 8 → ((i ≡ j) × (x ≡ y) → ⊥) → Decides (get_or (get_or noting i []) x false) (Among (take (n + 1) opposed) (Missed m ns b i x))
        beside i x feature small ne =
            Decides-at (get_or (get_or noting i []) x false) (get_or (get_or near i []) x false) (place_other i x ne)
            (Decides-like (get_or (get_or near i []) x false) (among_more_before (Missed m ns b i x) opposed n d within)
            (λ a. elim (among_more_cases (Missed m ns b i x) opposed n d within a) [
              | inl before ↦ before
              | inr miss ↦ let same = same_value i x miss in absurd (ne (same.0, same.1 ∙ sym value))
            ])
            (noted i x feature small))

        noted_here : get_or (get_or noting j []) y false ≡ true
        noted_here = ap (λ (r : List Bool). get_or r y false) row_here ∙ get_or-set_same (get_or near j []) y true false (omega arith)

        pub noted_more_miss : Noted m ns (take (n + 1) opposed) b noting
        noted_more_miss i x feature small =
            elim (cases_eq i j) [
              | inl e ↦ elim (cases_eq x y) [
                | inl f ↦ (λ _. among_more_here (Missed m ns b i x) opposed n d within (rw (e, f) (lone, sym value)), λ _. rw (e, f) noted_here)
                | inr k ↦ beside i x feature small (λ both. k both.1)
              ]
              | inr k ↦ beside i x feature small (λ both. k both.0)
            ]

-- a table of eight rows of eight places has the near misses among the first n states
abbrev pub Table : Meaning → List ℕ → List ℕ → List (List ℕ) → ℕ → List (List Bool) → Type 0
Table m ns b opposed n near = (length near ≡ 8) × AllByRecursion (λ r. length r ≡ 8) near × Noted m ns (take n opposed) b near

-- a state more that only the condition on feature i keeps out: its place is set, where its value has one
pub table_more : (m : Meaning) (ns b : List ℕ) (opposed : List (List ℕ)) (n i : ℕ) (near after : List (List Bool)) → n < length opposed → length ns ≤ 8 → Table m ns b opposed n near → Lone m ns b (get_or opposed n []) (length ns) i
    → ◌⊎◌ ((y : ℕ) × (y < 8) × (y ≡ get_or (get_or opposed n []) i 0) × (after ≡ set near i (set (get_or near i []) y true))) ((8 ≤ get_or (get_or opposed n []) i 0) × (after ≡ near))
    → Table m ns b opposed (n + 1) after
table_more m ns b opposed n i near after within few table lone (inl placed) =
    let place : i < 8 = omega (arith, lone.within) in
    let there : i < length near = omega (arith, table.0) in
    subst (Table m ns b opposed (n + 1)) (sym placed.3) (
      length-set near i (set (get_or near i []) placed.0 true) ∙ table.0,
      eights_noting near i placed.0 there table.1,
      noted_more_miss m ns b opposed near n [] within table.2 i lone table.0 (All-get_or (λ r. length r ≡ 8) near i [] there table.1) placed.0 place placed.1 placed.2,
    )
table_more m ns b opposed n i near after within few table lone (inr large) = subst (Table m ns b opposed (n + 1)) (sym large.1) (table.0, table.1, noted_more_large m ns b opposed near n [] within table.2 i lone large.0)
