-- The laws of the band kind, from the facts of its table. Assumes nothing.
use Rattle.std.specs.Prelude.{◌≡◌, ℕ, ◌+◌, ◌-◌, ◌*◌, ◌/◌, ◌<◌, ◌≤◌, true, ◌&&◌, nat_le, nat_lt}
use Rattle.std.proofs.Common.{arith, sym, ap, ◌∙◌, inl, inr}
use Rattle.std.proofs.lemmas.Bool.{cases_Bool, and_parts, and_from, lt-ltb, ltb-true, le-leb, leb-true, cond-false}
use Rattle.model.specs.Band.{lacks, first, last, ranges, band, code_of, RangesCoded}
use Rattle.model.specs.Exact.{in_range}
use Rattle.model.specs.Kinds.{Fair, Laws}
use Rattle.model.specs.Pairs.{Pair, pair_of, ranges_few, lacks_below, pinned, coded}

-- only the sizes 2 to 8 have ranges
pub ranges_inside : (n c : ℕ) → c < ranges n → (2 ≤ n) × (n ≤ 8)
ranges_inside n c h =
    elim (cases_Bool (in_range n)) [
      | inl yes' ↦ let parts = and_parts (nat_le 2 n) (nat_le n 8) yes' in (leb-true 2 n parts.0, leb-true n 8 parts.1)
      | inr not' ↦ let none : ranges n ≡ 0 = cond-false (in_range n) (n * (n + 1) / 2) 0 not' in let z : ⊥ = omega arith in absurd z
    ]

-- what is known of a code of a size
pub record Range (n c : ℕ) : Type 0 where
  pub two : 2 ≤ n
  pub eight : n ≤ 8
  pub within : c < ranges n
  pub pair : Pair c
  pub some : lacks c < n

pub range_code : (n c : ℕ) → c < ranges n → c < 36
range_code n c h =
    let size = ranges_inside n c h in
    let nine : n < 9 = omega (arith, size.1) in
    let most = ranges_few n nine size.0 in
    omega (arith, most.1)

pub range_of : (n c : ℕ) → c < ranges n → Range n c
range_of n c h =
    let size = ranges_inside n c h in
    let k = range_code n c h in
    record { two = size.0; eight = size.1; within = h; pair = pair_of c k; some = lacks_below n c (omega (arith, size.1)) k h }

-- what a condition that holds tells, and what it takes
pub record Held (n c v : ℕ) : Type 0 where
  pub range : Range n c
  pub from : first c ≤ v
  pub upto : v ≤ last n c

pub held : (n c v : ℕ) → band.holds n c v ≡ true → Held n c v
held n c v h =
    let parts = and_parts (nat_lt c (ranges n)) (nat_le (first c) v && nat_le v (last n c)) h in
    let ends = and_parts (nat_le (first c) v) (nat_le v (last n c)) parts.1 in
    record { range = range_of n c (ltb-true c (ranges n) parts.0); from = leb-true (first c) v ends.0; upto = leb-true v (last n c) ends.1 }

pub holds_from : (n c v : ℕ) → c < ranges n → first c ≤ v → v ≤ last n c → band.holds n c v ≡ true
holds_from n c v h from upto =
    and_from (nat_lt c (ranges n)) (nat_le (first c) v && nat_le v (last n c)) (lt-ltb c (ranges n) h)
    (and_from (nat_le (first c) v) (nat_le v (last n c)) (le-leb (first c) v from) (le-leb v (last n c) upto))

-- what a weaker condition tells, and what it takes
pub record Containing (n c e : ℕ) : Type 0 where
  pub range : Range n c
  pub other : Range n e
  pub from : first c ≤ first e
  pub upto : last n e ≤ last n c

pub containing : (n c e : ℕ) → band.weaker n c e ≡ true → Containing n c e
containing n c e h =
    let parts = and_parts (nat_lt c (ranges n) && nat_lt e (ranges n)) (nat_le (first c) (first e) && nat_le (last n e) (last n c)) h in
    let codes = and_parts (nat_lt c (ranges n)) (nat_lt e (ranges n)) parts.0 in
    let ends = and_parts (nat_le (first c) (first e)) (nat_le (last n e) (last n c)) parts.1 in
    record {
      range = range_of n c (ltb-true c (ranges n) codes.0);
      other = range_of n e (ltb-true e (ranges n) codes.1);
      from = leb-true (first c) (first e) ends.0;
      upto = leb-true (last n e) (last n c) ends.1;
    }

pub weaker_from : (n c e : ℕ) → c < ranges n → e < ranges n → first c ≤ first e → last n e ≤ last n c → band.weaker n c e ≡ true
weaker_from n c e h k from upto =
    and_from (nat_lt c (ranges n) && nat_lt e (ranges n)) (nat_le (first c) (first e) && nat_le (last n e) (last n c))
    (and_from (nat_lt c (ranges n)) (nat_lt e (ranges n)) (lt-ltb c (ranges n) h) (lt-ltb e (ranges n) k))
    (and_from (nat_le (first c) (first e)) (nat_le (last n e) (last n c)) (le-leb (first c) (first e) from) (le-leb (last n e) (last n c) upto))

-- equal ends make equal codes
same_code : (n c e : ℕ) → Range n c → Range n e → first c ≡ first e → last n c ≡ last n e → c ≡ e
same_code n c e r s same_first same-last =
    let same-lacks : lacks c ≡ lacks e = omega (arith, r.some, s.some, r.two) in
    sym r.pair.code_is
    ∙ ap (λ (k : ℕ). k * (k + 1) / 2 + first c) same-lacks
    ∙ ap (λ (a : ℕ). lacks e * (lacks e + 1) / 2 + a) same_first
    ∙ s.pair.code_is

band_fair : (n : ℕ) → 2 ≤ n → n ≤ 8 → Fair band n
band_fair n two eight =
    let nine : n < 9 = omega arith in
    let most = ranges_few n nine two in
    record {
      some = most.0;
      few = omega (arith, most.1);
      open_holds = λ v h. holds_from n 0 v most.0 (omega arith) (omega arith);
      open_weaker = λ c h. let r = range_of n c h in weaker_from n 0 c most.0 h (omega arith) (omega (arith, r.pair.inside));
      reflexive = λ c h. weaker_from n c c h h (omega arith) (omega arith);
      transitive = λ c d e h k.
          let x = containing n c d h in
          let y = containing n d e k in
          weaker_from n c e x.range.within y.other.within (omega (arith, x.from, y.from)) (omega (arith, x.upto, y.upto));
      antisymmetric = λ c d h k.
          let x = containing n c d h in
          let y = containing n d c k in
          same_code n c d x.range x.other (omega (arith, x.from, y.from)) (omega (arith, x.upto, y.upto));
      passes = λ c e v h k.
          let x = containing n c e h in
          let y = held n e v k in
          holds_from n c v x.range.within (omega (arith, x.from, y.from)) (omega (arith, x.upto, y.upto));
      pin_code = λ v h. (pinned n v nine (omega arith) two h).code;
      pin_holds = λ v h.
          let p = pinned n v nine (omega arith) two h in
          holds_from n (band.pin n v) v p.code (omega (arith, p.first_is)) (omega (arith, p.first_is, p.lacks_is));
      pin_only = λ v w h k.
          let p = pinned n v nine (omega arith) two h in
          let x = held n (band.pin n v) w k in
          omega (arith, p.first_is, p.lacks_is, x.from, x.upto);
    }

pub band_laws : Laws band
band_laws = record {
  at = band_fair;
  outside = record {
    holds_inside = λ n c v h.
        let x = held n c v h in
        let r = x.range in
        (r.two, r.eight, r.within, omega (arith, x.upto, r.pair.inside, r.two));
    weaker_inside = λ n c e h. let x = containing n c e h in (x.range.two, x.range.eight, x.range.within, x.other.within);
    conditions_inside = λ n h. ranges_inside n 0 h;
    pin_inside = λ n v h.
        elim (cases_Bool (in_range n && nat_lt v n)) [
          | inl yes' ↦
              let parts = and_parts (in_range n) (nat_lt v n) yes' in
              let size = and_parts (nat_le 2 n) (nat_le n 8) parts.0 in
              (leb-true 2 n size.0, leb-true n 8 size.1, ltb-true v n parts.1)
          | inr not' ↦ let none : band.pin n v ≡ 0 = cond-false (in_range n && nat_lt v n) ((n - 1) * n / 2 + v) 0 not' in let z : ⊥ = omega arith in absurd z
        ];
  };
}

pub ranges_coded : RangesCoded
ranges_coded n two eight =
    let nine : n < 9 = omega arith in
    record {
      ends = λ a b le within. coded n a b nine two (omega arith) (omega arith) le within;
      codes = λ c h.
          let r = range_of n c h in
          let low : first c ≤ last n c = omega (arith, r.some, r.two) in
          let high : last n c < n = omega (arith, r.some, r.pair.inside, r.two) in
          let back = coded n (first c) (last n c) nine two (omega arith) (omega arith) low high in
          (low, high, same_code n (code_of n (first c) (last n c)) c (range_of n (code_of n (first c) (last n c)) back.0) r back.1 back.2);
    }
