-- The rows that packed bytes show: how many, which, and that each has twelve cells. Assumes nothing.
use Rattle.std.specs.Prelude.{◌≡◌, ℕ, ◌+◌, ◌<◌, ◌≤◌, List, length, get_or, drop, slice_index, slice_index_or}
use Rattle.std.proofs.Common.{arith, ap, ◌∙◌}
use Rattle.std.specs.List.{AllByRecursion}
use Rattle.std.proofs.lemmas.List.{get_or-take, get_or-drop, get_or_default, get_or_past, length-drop, length-take-le}
use Rattle.std.proofs.lemmas.List.FromFn.{length-map-range_with_len, get_or-map-range_with_len}
use Rattle.std.proofs.ByRecursion.{All-from_get_or}
use Rattle.model.specs.Rows.{no_row, Twelve}
use Rattle.logs.specs.Images.{places_in}
use Rattle.logs.specs.Packed.{start, place, row_of, count_in, shown, Holds}

pub length_shown : (b : List ℕ) → length (shown b) ≡ count_in b
length_shown b = length-map-range_with_len (λ i. row_of (place b i)) 0 (count_in b)

pub few_shown : (b : List ℕ) → length (shown b) ≤ 65535
few_shown b = omega (arith, length_shown b)

pub get_or_shown : (b : List ℕ) (i : ℕ) → i < count_in b → slice_index_or (shown b) i no_row ≡ row_of (place b i)
get_or_shown b i h = get_or-map-range_with_len (λ k. row_of (place b k)) 0 (count_in b) i i no_row h (omega arith)

pub get_or_shown_past : (b : List ℕ) (i : ℕ) → count_in b ≤ i → slice_index_or (shown b) i no_row ≡ no_row
get_or_shown_past b i h = get_or_past (shown b) i no_row (omega (arith, length_shown b))

-- a place that is below the places lies in the bytes
pub within_places : (b : List ℕ) (i : ℕ) → i < places_in b → start i + 16 ≤ length b
within_places b i h = omega arith

pub within_count : (b : List ℕ) (i : ℕ) → i < count_in b → start i + 16 ≤ length b
within_count b i h = omega arith

pub length_place : (b : List ℕ) (i : ℕ) → start i + 16 ≤ length b → length (place b i) ≡ 16
length_place b i h = let rest : 16 ≤ length (drop (start i) b) = simp length-drop (omega arith) in length-take-le 16 (drop (start i) b) rest

pub get_or_place : (b : List ℕ) (i k d : ℕ) → k < 16 → slice_index_or (place b i) k d ≡ slice_index_or b (start i + k) d
get_or_place b i k d h = get_or-take 16 (drop (start i) b) k d h ∙ get_or-drop (start i) b k d

pub twelve_place : (b : List ℕ) (i : ℕ) → start i + 16 ≤ length b → Twelve (row_of (place b i))
twelve_place b i h = let long = length_place b i h in simp length-drop (omega arith)

-- a place in the bytes holds the row that its sixteen bytes make
pub holds_place : (b : List ℕ) (i : ℕ) → start i + 16 ≤ length b → Holds b (start i) (row_of (place b i))
holds_place b i h =
    let first : get_or (place b i) 0 0 ≡ get_or b (start i + 0) 0 = get_or_place b i 0 0 (omega arith) in
    let same : start i + 0 ≡ start i = omega arith in
    let high = get_or_place b i 2 0 (omega arith) in
    let low = get_or_place b i 3 0 (omega arith) in
    record {
      within = h;
      class = rw same at first;
      day = rw (high, low);
      cells =
          λ k l.
          let in' : start i + (4 + k) < length b = omega arith in
          let at : start i + (4 + k) ≡ start i + 4 + k = omega arith in
          get_or-drop 4 (place b i) k 255 ∙ (get_or_place b i (4 + k) 255 (omega arith) ∙ (get_or_default b (start i + (4 + k)) 255 0 in' ∙ ap (λ n. slice_index b n) at));
      past = λ k l. let long = twelve_place b i h in get_or_past (drop 4 (place b i)) k 255 (omega arith);
    }

pub holds_shown : (b : List ℕ) (i : ℕ) → i < count_in b → Holds b (start i) (slice_index_or (shown b) i no_row)
holds_shown b i h = rw (get_or_shown b i h) (holds_place b i (within_count b i h))

pub twelve_shown : (b : List ℕ) → AllByRecursion Twelve (shown b)
twelve_shown b =
    All-from_get_or Twelve (shown b) no_row (λ i h. let in' : i < count_in b = omega (arith, length_shown b) in rw (get_or_shown b i in') (twelve_place b i (within_count b i in')))
