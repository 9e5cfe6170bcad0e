-- The exact kind: any value, or equality with one value. Assumes nothing.
use Rattle.std.specs.Prelude.{ℕ, ◌+◌, Bool, cond, ◌&&◌, ◌||◌, ◌==◌, nat_le, nat_lt}
use Rattle.model.specs.Kinds.{Meaning}

-- the sizes that the kind takes
abbrev pub in_range : ℕ → Bool
in_range n = nat_le 2 n && nat_le n 8

-- code 0 is any value, and 1 + v is equality with v
abbrev pub exact : Meaning
exact =
    record {
      largest = 8;
      conditions = λ n. cond (in_range n) (n + 1) 0;
      holds = λ n c v. (in_range n && nat_lt v n) && (c == 0 || c == 1 + v);
      weaker = λ n c e. (in_range n && (nat_le c n && nat_le e n)) && (c == 0 || c == e);
      pin = λ n v. cond (in_range n && nat_lt v n) (1 + v) 0;
    }
