-- The table of the band kind, by computed tests over the whole table. Assumes nothing.
use Rattle.std.specs.Prelude.{◌≡◌, ℕ, ◌+◌, ◌-◌, ◌*◌, ◌/◌, ◌<◌, ◌≤◌, Bool, not, ◌&&◌, ◌||◌, ltb, ◌==◌, nat_le, nat_lt, slice_index_or, refl}
use Rattle.std.proofs.Common.{inl, inr}
use Rattle.std.proofs.lemmas.Bool.{both_ways, and_parts, and_from, or_cases, not-true, lt-ltb, ltb-true, le-leb, leb-true, eqb-true}
use Rattle.model.specs.Band.{pairs, lacks, first, last, ranges, band, Paired, code_of}
use Rattle.model.specs.Rules.{each_below}
use Rattle.model.specs.Below.{each_below_at}

-- the pair of a code gives the code back
pub record Pair (c : ℕ) : Type 0 where
  pub code_is : lacks c * (lacks c + 1) / 2 + first c ≡ c
  pub few : lacks c < 8
  pub inside : first c ≤ lacks c

pub pair_of : (c : ℕ) → c < 36 → Pair c
pair_of c h =
    let test : ℕ → Bool = λ c. (lacks c * (lacks c + 1) / 2 + first c == c) && (nat_lt (lacks c) 8 && nat_le (first c) (lacks c)) in
    let parts = and_parts _ _ (each_below_at 36 c test refl h) in
    let bounds = and_parts (nat_lt (lacks c) 8) (nat_le (first c) (lacks c)) parts.1 in
    record {
      code_is = eqb-true (lacks c * (lacks c + 1) / 2 + first c) c parts.0;
      few = ltb-true (lacks c) 8 bounds.0;
      inside = leb-true (first c) (lacks c) bounds.1;
    }

-- what stands in the table at a code is its pair
pub paired : (i c : ℕ) → i ≡ c → c < 36 → Paired c (slice_index_or pairs i (0, 0))
paired i c at h =
    let r = pair_of c h in
    rw at (record { lacks_is = refl; first_is = refl; few = r.few; inside = r.inside; code_is = r.code_is })

-- a size has 3 to 36 ranges
pub ranges_few : (n : ℕ) → n < 9 → 2 ≤ n → (1 ≤ ranges n) × (ranges n ≤ 36)
ranges_few n h two =
    let test : ℕ → Bool = λ n. not (nat_le 2 n) || (nat_le 1 (ranges n) && nat_le (ranges n) 36) in
    elim (or_cases (not (nat_le 2 n)) (nat_le 1 (ranges n) && nat_le (ranges n) 36) (each_below_at 9 n test refl h)) [
      | inl small ↦ absurd (both_ways (nat_le 2 n) (not-true (nat_le 2 n) small) (le-leb 2 n two))
      | inr ok ↦ let parts = and_parts (nat_le 1 (ranges n)) (nat_le (ranges n) 36) ok in (leb-true 1 (ranges n) parts.0, leb-true (ranges n) 36 parts.1)
    ]

-- each range of a size has at least one value
pub lacks_below : (n c : ℕ) → n < 9 → c < 36 → c < ranges n → lacks c < n
lacks_below n c h k within =
    let test : ℕ → ℕ → Bool = λ n c. not (nat_lt c (ranges n)) || ltb (lacks c) n in
    elim (or_cases (not (nat_lt c (ranges n))) (nat_lt (lacks c) n) (each_below_at 36 c (test n) (each_below_at 9 n (λ n. each_below 36 (test n)) refl h) k)) [
      | inl over ↦ absurd (both_ways (nat_lt c (ranges n)) (not-true (nat_lt c (ranges n)) over) (lt-ltb c (ranges n) within))
      | inr ok ↦ ltb-true (lacks c) n ok
    ]

-- the pin of a value is the range of that value alone
pub record Pinned (n v : ℕ) : Type 0 where
  pub code : band.pin n v < ranges n
  pub lacks_is : lacks (band.pin n v) ≡ n - 1
  pub first_is : first (band.pin n v) ≡ v

pub pinned : (n v : ℕ) → n < 9 → v < 8 → 2 ≤ n → v < n → Pinned n v
pinned n v h k two within =
    let good : ℕ → ℕ → Bool = λ n v. nat_lt (band.pin n v) (ranges n) && (lacks (band.pin n v) == n - 1 && first (band.pin n v) == v) in
    let test : ℕ → ℕ → Bool = λ n v. not (nat_le 2 n && nat_lt v n) || good n v in
    elim (or_cases (not (nat_le 2 n && nat_lt v n)) (good n v) (each_below_at 8 v (test n) (each_below_at 9 n (λ n. each_below 8 (test n)) refl h) k)) [
      | inl over ↦ absurd (both_ways (nat_le 2 n && nat_lt v n) (not-true (nat_le 2 n && nat_lt v n) over) (and_from (nat_le 2 n) (nat_lt v n) (le-leb 2 n two) (lt-ltb v n within)))
      | inr ok ↦
          let parts = and_parts (nat_lt (band.pin n v) (ranges n)) (lacks (band.pin n v) == n - 1 && first (band.pin n v) == v) ok in
          let pair = and_parts (lacks (band.pin n v) == n - 1) (first (band.pin n v) == v) parts.1 in
          record {
            code = ltb-true (band.pin n v) (ranges n) parts.0;
            lacks_is = eqb-true (lacks (band.pin n v)) (n - 1) pair.0;
            first_is = eqb-true (first (band.pin n v)) v pair.1;
          }
    ]

-- the range from a to b has the code that its ends give
pub coded : (n a b : ℕ) → n < 9 → 2 ≤ n → a < 8 → b < 8 → a ≤ b → b < n → (code_of n a b < ranges n) × (first (code_of n a b) ≡ a) × (last n (code_of n a b) ≡ b)
coded n a b h two k l le within =
    let good : ℕ → ℕ → ℕ → Bool = λ n a b. nat_lt (code_of n a b) (ranges n) && (first (code_of n a b) == a && last n (code_of n a b) == b) in
    let asked : ℕ → ℕ → ℕ → Bool = λ n a b. nat_le 2 n && (nat_le a b && nat_lt b n) in
    let test : ℕ → ℕ → ℕ → Bool = λ n a b. not (asked n a b) || good n a b in
    let all = each_below_at 8 a (λ a. each_below 8 (test n a)) (each_below_at 9 n (λ n. each_below 8 (λ a. each_below 8 (test n a))) refl h) k in
    elim (or_cases (not (asked n a b)) (good n a b) (each_below_at 8 b (test n a) all l)) [
      | inl over ↦ absurd (both_ways (asked n a b) (not-true (asked n a b) over)
          (and_from (nat_le 2 n) (nat_le a b && nat_lt b n) (le-leb 2 n two) (and_from (nat_le a b) (nat_lt b n) (le-leb a b le) (lt-ltb b n within))))
      | inr ok ↦
          let parts = and_parts (nat_lt (code_of n a b) (ranges n)) (first (code_of n a b) == a && last n (code_of n a b) == b) ok in
          let both = and_parts (first (code_of n a b) == a) (last n (code_of n a b) == b) parts.1 in
          (ltb-true (code_of n a b) (ranges n) parts.0, eqb-true (first (code_of n a b)) a both.0, eqb-true (last n (code_of n a b)) b both.1)
    ]
