-- The band kind: ranges of values, ends included. Assumes nothing.
use Rattle.std.specs.Prelude.{◌≡◌, ℕ, ◌+◌, ◌-◌, ◌*◌, ◌/◌, ◌<◌, ◌≤◌, cond, ◌&&◌, List, map, nat_le, nat_lt, slice_index_or}
use Rattle.std.specs.List.{range_with_len, flat_map}
use Rattle.model.specs.Exact.{in_range}
use Rattle.model.specs.Kinds.{Meaning}

-- the pairs (k, a) of the codes in order: the range that begins at a and lacks k of the values of its size
abbrev pub pairs : List (ℕ × ℕ)
pairs = flat_map (λ k. map (λ a. (k, a)) (range_with_len 0 (k + 1))) (range_with_len 0 8)

-- how many values a code's range lacks
abbrev pub lacks : ℕ → ℕ
lacks c = (slice_index_or pairs c (0, 0)).0

-- the first value of a code's range
abbrev pub first : ℕ → ℕ
first c = (slice_index_or pairs c (0, 0)).1

-- the last value of a code's range, in a size
abbrev pub last : ℕ → ℕ → ℕ
last n c = first c + n - lacks c - 1

-- how many ranges a size has
abbrev pub ranges : ℕ → ℕ
ranges n = cond (in_range n) (n * (n + 1) / 2) 0

-- a condition holds of the values of its range; a weaker one has a range that contains the other
abbrev pub band : Meaning
band =
    record {
      largest = 8;
      conditions = ranges;
      holds = λ n c v. nat_lt c (ranges n) && (nat_le (first c) v && nat_le v (last n c));
      weaker = λ n c e. (nat_lt c (ranges n) && nat_lt e (ranges n)) && (nat_le (first c) (first e) && nat_le (last n e) (last n c));
      pin = λ n v. cond (in_range n && nat_lt v n) ((n - 1) * n / 2 + v) 0;
    }

-- the rule of the table: with the pair (k, a) of a code c, k is below 8, a at most k, and c is k(k + 1)/2 + a
pub record Paired (c : ℕ) (pair : ℕ × ℕ) : Type 0 where
  pub lacks_is : pair.0 ≡ lacks c
  pub first_is : pair.1 ≡ first c
  pub few : pair.0 < 8
  pub inside : pair.1 ≤ pair.0
  pub code_is : pair.0 * (pair.0 + 1) / 2 + pair.1 ≡ c

-- the code of the range from a to b: k(k + 1)/2 + a, with k = size - (b - a + 1)
abbrev pub code_of : ℕ → ℕ → ℕ → ℕ
code_of n a b = let k = n - (b - a + 1) in k * (k + 1) / 2 + a

-- the codes of a size are those of its ranges, each with its own
pub record Coded (n : ℕ) : Type 0 where
  pub ends : (a b : ℕ) → a ≤ b → b < n → (code_of n a b < ranges n) × (first (code_of n a b) ≡ a) × (last n (code_of n a b) ≡ b)
  pub codes : (c : ℕ) → c < ranges n → (first c ≤ last n c) × (last n c < n) × (code_of n (first c) (last n c) ≡ c)

-- at every size of the kind
abbrev pub RangesCoded : Type 0
RangesCoded = (n : ℕ) → 2 ≤ n → n ≤ 8 → Coded n
