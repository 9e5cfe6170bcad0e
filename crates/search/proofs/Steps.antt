-- Stepping from a body to the next, by cases of what the later conditions did. Assumes nothing.
use Rattle.std.proofs.Common.{◌≡◌, ℕ, zero, suc, ◌+◌, ◌-◌, ◌<◌, ◌≤◌, true, false, List, [], ◌∷◌, ◌++◌, map, length, get_or, take, drop, set, replicate, sym, refl, ap, ◌∙◌, subst, not-suc-le-zero, arith}
use Rattle.std.proofs.lemmas.Bool.{true≢false}
use borrow.Rule.Slice.PartMut.{put_mid}
use Rattle.std.specs.List.{range_with_len, flat_map}
use Rattle.std.proofs.lemmas.List.{take_all, append-nil, drop_all}
use Rattle.model.specs.Kinds.{Meaning}
use Rattle.model.specs.Bodies.{Body, bodies}
use Rattle.search.specs.Rest.{rest, starting, Advanced}

-- all but the first, as the checker reads `&s[1..]`
abbrev pub later : List ℕ → List ℕ
later xs = take (length xs - 1) (drop 1 xs)

pub later_cons : (x : ℕ) (xs : List ℕ) → later (x ∷ xs) ≡ xs
later_cons x xs = take_all (suc (length xs) - 1) xs (omega arith)

-- all but the first, written
pub put_mid_later : (x : ℕ) (xs ys : List ℕ) → put_mid 1 (length (x ∷ xs) - 1) (x ∷ xs) ys ≡ x ∷ ys
put_mid_later x xs ys =
    let e : drop (suc (length xs) - 1) xs ≡ [] = drop_all (suc (length xs) - 1) xs (omega arith) in
    ap (λ (zs : List ℕ). x ∷ (ys ++ zs)) e ∙ ap (λ (zs : List ℕ). x ∷ zs) (append-nil ys)

pub counting_first : (c n : ℕ) → 0 < n → range_with_len c n ≡ c ∷ range_with_len (c + 1) (n - 1)
counting_first c zero h = absurd (not-suc-le-zero h)
counting_first c (suc n) h = let e : n ≡ suc n - 1 = omega arith in ap (λ (k : ℕ). c ∷ range_with_len (c + 1) k) e

module _ (m : Meaning) where
  pub body_later : (ns b : List ℕ) → 0 < length ns → Body m ns b → Body m (later ns) (later b)
  body_later [] b h k = absurd (not-suc-le-zero h)
  body_later (n ∷ ns) [] h k = absurd k
  body_later (n ∷ ns) (c ∷ b) h k = rw (later_cons n ns, later_cons c b) k.1

  pub advanced_none : (ns b : List ℕ) → length ns ≡ 0 → Body m ns b → Advanced m ns b b false
  advanced_none [] [] h k = record { body = tt; next = refl; over = λ _. refl }
  advanced_none [] (c ∷ b) h k = absurd k
  advanced_none (n ∷ ns) b h k = absurd (omega (arith, h))

  pub starting_first : (ns : List ℕ) (c n : ℕ) → 0 < n → starting m ns c n ≡ map (λ b. c ∷ b) (bodies m ns) ++ starting m ns (c + 1) (n - 1)
  starting_first ns c n h = ap (λ (cs : List ℕ). flat_map (λ d. map (λ b. d ∷ b) (bodies m ns)) cs) (counting_first c n h)

  -- from the body without conditions on, all bodies are left
  pub rest_open : (ns b : List ℕ) → Body m ns b → rest m ns (replicate (length ns) 0) ≡ bodies m ns
  rest_open [] b k = refl
  rest_open (n ∷ ns) [] k = absurd k
  rest_open (n ∷ ns) (c ∷ b) k =
      let some : 0 < m.conditions n = omega (arith, k.0) in
      ap (λ (bs : List (List ℕ)). map (λ b. 0 ∷ b) bs ++ starting m ns 1 (m.conditions n - 1)) (rest_open ns b k.1)
      ∙ sym (starting_first ns 0 (m.conditions n) some)

  -- a later condition was stepped on
  pub advanced_later : (ns b after : List ℕ) → 0 < length ns → Body m ns b → Advanced m (later ns) (later b) after true → Advanced m ns b (put_mid 1 (length b - 1) b after) true
  advanced_later [] b after h k a = absurd (not-suc-le-zero h)
  advanced_later (n ∷ ns) [] after h k a = absurd k
  advanced_later (n ∷ ns) (c ∷ b) after h k a =
      let inner : Advanced m ns b after true = rw (later_cons n ns, later_cons c b) at a in
      let done : Advanced m (n ∷ ns) (c ∷ b) (c ∷ after) true = record {
        body = (k.0, inner.body);
        next = ap (λ (bs : List (List ℕ)). map (λ b. c ∷ b) bs ++ starting m ns (c + 1) (m.conditions n - (c + 1))) inner.next;
        over = λ e. absurd (true≢false e);
      } in
      subst (λ (after : List ℕ). Advanced m (n ∷ ns) (c ∷ b) after true) (sym (put_mid_later c b after)) done

  -- the later conditions were the last ones, and the first has a next code
  pub advanced_first : (ns b after : List ℕ) → 0 < length ns → Body m ns b → Advanced m (later ns) (later b) after false → get_or b 0 0 + 1 < m.conditions (get_or ns 0 0)
      → Advanced m ns b (set (put_mid 1 (length b - 1) b after) 0 (get_or b 0 0 + 1)) true
  advanced_first [] b after h k a l = absurd (not-suc-le-zero h)
  advanced_first (n ∷ ns) [] after h k a l = absurd k
  advanced_first (n ∷ ns) (c ∷ b) after h k a l =
      let inner : Advanced m ns b after false = rw (later_cons n ns, later_cons c b) at a in
      let zeros : after ≡ replicate (length ns) 0 = inner.over refl in
      let left : 0 < m.conditions n - (c + 1) = omega arith in
      let fewer : m.conditions n - (c + 1) - 1 ≡ m.conditions n - (c + 1 + 1) = omega arith in
      let all : rest m ns after ≡ bodies m ns = ap (rest m ns) zeros ∙ rest_open ns b k.1 in
      let done : Advanced m (n ∷ ns) (c ∷ b) ((c + 1) ∷ after) true = record {
        body = (l, inner.body);
        next = ap (λ (bs : List (List ℕ)). map (λ b. c ∷ b) bs ++ starting m ns (c + 1) (m.conditions n - (c + 1))) inner.next
            ∙ ap (λ (bs : List (List ℕ)). (c ∷ b) ∷ bs) (starting_first ns (c + 1) (m.conditions n - (c + 1)) left
            ∙ ap (λ (i : ℕ). map (λ b. (c + 1) ∷ b) (bodies m ns) ++ starting m ns (c + 1 + 1) i) fewer
            ∙ ap (λ (bs : List (List ℕ)). map (λ b. (c + 1) ∷ b) bs ++ starting m ns (c + 1 + 1) (m.conditions n - (c + 1 + 1))) (sym all));
        over = λ e. absurd (true≢false e);
      } in
      subst (λ (whole : List ℕ). Advanced m (n ∷ ns) (c ∷ b) (set whole 0 (c + 1)) true) (sym (put_mid_later c b after)) done

  -- every condition had its last code
  pub advanced_over : (ns b after : List ℕ) → 0 < length ns → Body m ns b → Advanced m (later ns) (later b) after false → m.conditions (get_or ns 0 0) ≤ get_or b 0 0 + 1
      → Advanced m ns b (set (put_mid 1 (length b - 1) b after) 0 0) false
  advanced_over [] b after h k a l = absurd (not-suc-le-zero h)
  advanced_over (n ∷ ns) [] after h k a l = absurd k
  advanced_over (n ∷ ns) (c ∷ b) after h k a l =
      let inner : Advanced m ns b after false = rw (later_cons n ns, later_cons c b) at a in
      let none : m.conditions n - (c + 1) ≡ 0 = omega arith in
      let done : Advanced m (n ∷ ns) (c ∷ b) (0 ∷ after) false = record {
        body = (omega (arith, k.0), inner.body);
        next = ap (λ (bs : List (List ℕ)). map (λ b. c ∷ b) bs ++ starting m ns (c + 1) (m.conditions n - (c + 1))) inner.next
            ∙ ap (λ (i : ℕ). (c ∷ b) ∷ starting m ns (c + 1) i) none;
        over = λ e. ap (λ (zs : List ℕ). 0 ∷ zs) (inner.over refl);
      } in
      subst (λ (whole : List ℕ). Advanced m (n ∷ ns) (c ∷ b) (set whole 0 0) false) (sym (put_mid_later c b after)) done
