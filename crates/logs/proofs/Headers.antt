-- What the first 32 bytes of an image tell: the counts, the sizes and the rows used. Assumes nothing.
use Rattle.std.proofs.Common.{◌≡◌, ℕ, ◌+◌, ◌<◌, ◌≤◌, eqb, Bool, List, length, get_or, take, drop, replicate, Decides, sym, refl, ap, ◌∙◌, subst, arith}
use Rattle.std.specs.List.{starts_with}
use Rattle.std.proofs.lemmas.Slice.Eq.{slice_eq-Decides}
use Rattle.std.proofs.lemmas.List.{get_or-take, drop-take, take-take, take-append-le}
use Rattle.std.proofs.lemmas.List.FromFn.{take-map-range_with_len, fill_by_all}
use Rattle.model.specs.declared.shape.Shape.{Shape}
use Rattle.model.specs.Shapes.{features, targets}
use Rattle.model.specs.Sizes.{Ranges}
use Rattle.logs.specs.Images.{header_of, padded, used_in}
use Rattle.logs.proofs.Shapes.{ranges}
use Rattle.std.proofs.lemmas.Bool.Decides.{Decides-eqb}

-- the sizes themselves stand first among their places
pub take_padded : (n : ℕ) (sizes : List ℕ) → length sizes ≤ n → take (length sizes) (padded n sizes) ≡ sizes
take_padded n sizes h =
    let f : ℕ → ℕ = λ i. get_or sizes i 0 in
    take-map-range_with_len f 0 n (length sizes) h ∙ sym (fill_by_all f sizes (length sizes) 0 refl (λ k l. refl))

module _ (b : List ℕ) (s : Shape) (rows : ℕ) (starts : take 32 b ≡ header_of s rows) where
  get_or_header : (k : ℕ) → k < 32 → get_or b k 0 ≡ get_or (header_of s rows) k 0
  get_or_header k h = sym (get_or-take 32 b k 0 h) ∙ ap (λ l. get_or l k 0) starts

  eight_header : (k : ℕ) (m : ℕ) → 8 ≤ m → k + m ≡ 32 → take 8 (drop k b) ≡ take 8 (drop k (header_of s rows))
  eight_header k m le e =
      let cut : drop k (take 32 b) ≡ take m (drop k b) = rw (← e) (drop-take k m b) in
      sym (take-take 8 m (drop k b) le) ∙ (sym (ap (λ l. take 8 l) cut) ∙ ap (λ l. take 8 (drop k l)) starts)

  pub feature_count_told : get_or b 5 0 ≡ length (features s)
  feature_count_told = get_or_header 5 (omega arith)

  pub target_count_told : get_or b 6 0 ≡ length (targets s)
  target_count_told = get_or_header 6 (omega arith)

  pub used_told : used_in b ≡ rows
  used_told = let high = get_or_header 8 (omega arith) in let low = get_or_header 9 (omega arith) in omega arith

  pub features_told : take (get_or b 5 0) (take 8 (drop 16 b)) ≡ features s
  features_told =
      let few : length (features s) ≤ 8 = (ranges s).0.1 in
      rw (feature_count_told, eight_header 16 16 (omega arith) refl) (take_padded 8 (features s) few)

  pub targets_told : take (get_or b 6 0) (take 8 (drop 24 b)) ≡ targets s
  targets_told =
      let few : length (targets s) ≤ 4 = (ranges s).1.1 in
      rw (target_count_told, eight_header 24 8 (omega arith) refl) (take-append-le (length (targets s)) (padded 4 (targets s)) (replicate 4 0) few ∙ take_padded 4 (targets s) few)

  pub ranges_told : Ranges (take (get_or b 5 0) (take 8 (drop 16 b))) (take (get_or b 6 0) (take 8 (drop 24 b)))
  ranges_told = rw (features_told, targets_told) (ranges s)

-- the sizes and the rows used decide the header
pub same_header : (s t : Shape) (rows : ℕ) → features s ≡ features t → targets s ≡ targets t → header_of s rows ≡ header_of t rows
same_header s t rows p q = rw (p, q)

-- a test of the first bytes against a header tells whether they are that header
pub starts_told : (b : List ℕ) (s : Shape) (rows : ℕ) (p : List ℕ) (r : Bool) → p ≡ header_of s rows → r ≡ starts_with eqb b p → Decides r (take 32 b ≡ header_of s rows)
starts_told b s rows p r e m =
    let P : List ℕ → Type 0 = λ q. r ≡ starts_with eqb b q in
    let d = slice_eq-Decides Decides-eqb (header_of s rows) (take 32 b) r (subst P e m) in (λ t. sym (d.0 t), λ h. d.1 (sym h))
