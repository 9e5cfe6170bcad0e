-- Putting sixteen bytes in a place, and counting rows: what stays and what is then read. Assumes nothing.
use Rattle.std.proofs.Common.{◌≡◌, ℕ, ◌+◌, ◌-◌, ◌*◌, ◌/◌, ◌%◌, ◌<◌, ◌≤◌, List, ◌++◌, length, get_or, take, drop, set, ap, ◌∙◌, subst, arith}
use Rattle.std.proofs.lemmas.List.{length-append, length-set, length-drop, length-take-le, take_at, drop_at, take-append-le, drop-append-le, drop-take, take-take, drop-set-lt, get_or-set_same, get_or-set_other}
use Rattle.model.specs.declared.row.Row.{Row}
use Rattle.model.specs.Rows.{Twelve}
use Rattle.logs.specs.Images.{used_in}
use Rattle.logs.specs.Packed.{start, place, row_of, bytes_of, put, counted}

-- the bytes of a row hold that row
pub row_of_bytes_of : (r : Row) → row_of (bytes_of r) ≡ r
row_of_bytes_of r =
    let day : r.day / 256 * 256 + r.day % 256 ≡ r.day = omega arith in
    let f : ℕ → Row = λ d. record { class = r.class; day = d; cells = r.cells } in
    ap f day

pub length_bytes_of : (r : Row) → Twelve r → length (bytes_of r) ≡ 16
length_bytes_of r h = omega (arith, ap (λ n. 4 + n) h)

drop_take_at : (n m k : ℕ) (b : List ℕ) → n + m ≡ k → drop n (take k b) ≡ take m (drop n b)
drop_take_at n m k b e = let P : ℕ → Type 0 = λ x. drop n (take x b) ≡ take m (drop n b) in subst P e (drop-take n m b)

module _ (b : List ℕ) (i : ℕ) (p : List ℕ) (within : start i + 16 ≤ length b) (sixteen : length p ≡ 16) where
  front : length (take (start i) b) ≡ start i
  front = length-take-le (start i) b (omega arith)

  pub length_put : length (put b i p) ≡ length b
  length_put = let f = front in simp (length-append, length-drop) (omega arith)

  pub place_put : place (put b i p) i ≡ p
  place_put = ap (λ l. take 16 l) (drop_at (take (start i) b) (p ++ drop (start i + 16) b) (start i) front) ∙ take_at p (drop (start i + 16) b) 16 sixteen

  pub place_put_below : (j : ℕ) → j < i → place (put b i p) j ≡ place b j
  place_put_below j h =
      let rest = p ++ drop (start i + 16) b in
      let m : ℕ = start i - start j in
      let split : start j + m ≡ start i = omega arith in
      let cut = drop_take_at (start j) m (start i) b split in
      let f = front in
      let long : 16 ≤ length (drop (start j) (take (start i) b)) = simp length-drop (omega arith) in
      ap (λ l. take 16 l) (drop-append-le (start j) (take (start i) b) rest (omega arith))
      ∙ (take-append-le 16 (drop (start j) (take (start i) b)) rest long ∙ (ap (λ l. take 16 l) cut ∙ take-take 16 m (drop (start j) b) (omega arith)))

module _ (b : List ℕ) (n : ℕ) where
  pub length_counted : length (counted b n) ≡ length b
  length_counted = simp length-set

  pub place_counted : (i : ℕ) → place (counted b n) i ≡ place b i
  place_counted i =
      let eight : 8 < start i = omega arith in
      let nine : 9 < start i = omega arith in
      ap (λ l. take 16 l) (drop-set-lt (start i) (set b 8 (n / 256)) 9 (n % 256) nine ∙ drop-set-lt (start i) b 8 (n / 256) eight)

  pub used_counted : 10 ≤ length b → used_in (counted b n) ≡ n
  used_counted h =
      let c = set b 8 (n / 256) in
      let long : length c ≡ length b = length-set b 8 (n / 256) in
      let high : get_or (counted b n) 8 0 ≡ n / 256 = get_or-set_other c 9 8 (n % 256) 0 (omega arith) ∙ get_or-set_same b 8 (n / 256) 0 (omega arith) in
      let low : get_or (counted b n) 9 0 ≡ n % 256 = get_or-set_same c 9 (n % 256) 0 (omega arith) in
      omega arith
