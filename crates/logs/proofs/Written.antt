-- What one more row in packed bytes changes of the rows shown and the places free. Assumes nothing.
use Rattle.std.proofs.Common.{◌≡◌, ℕ, ◌+◌, ◌-◌, ◌<◌, ◌≤◌, List, [], ◌∷◌, ◌++◌, map, length, ap, ◌∙◌, arith}
use Rattle.std.specs.List.{range_with_len}
use Rattle.std.proofs.lemmas.List.FromFn.{length-map-range_with_len, get_or-map-range_with_len, map-range_with_len_more, fill_by_all}
use Rattle.model.specs.declared.row.Row.{Row}
use Rattle.model.specs.Rows.{no_row, Twelve}
use Rattle.logs.specs.Images.{places_in, used_in}
use Rattle.logs.specs.Packed.{start, place, row_of, bytes_of, count_in, shown, free_in, put, written}
use Rattle.logs.proofs.Edits.{row_of_bytes_of, length_bytes_of, length_put, place_put, place_put_below, length_counted, place_counted, used_counted}
use Rattle.logs.specs.Shown.{within_places}

module _ (b : List ℕ) (r : Row) (twelve : Twelve r) (room : used_in b < places_in b) where
  within : start (used_in b) + 16 ≤ length b
  within = within_places b (used_in b) room

  sixteen : length (bytes_of r) ≡ 16
  sixteen = length_bytes_of r twelve

  pub length_written : length (written b r) ≡ length b
  length_written = length_counted (put b (used_in b) (bytes_of r)) (used_in b + 1) ∙ length_put b (used_in b) (bytes_of r) within sixteen

  pub used_written : used_in (written b r) ≡ used_in b + 1
  used_written =
      let long = length_put b (used_in b) (bytes_of r) within sixteen in
      let in' = within in
      used_counted (put b (used_in b) (bytes_of r)) (used_in b + 1) (omega arith)

  pub places_written : places_in (written b r) ≡ places_in b
  places_written = let e = length_written in rw e

  count_written : count_in (written b r) ≡ used_in b + 1
  count_written = let u = used_written in let p = places_written in omega arith

  pub free_written : free_in (written b r) ≡ free_in b - 1
  free_written = let u = used_written in let p = places_written in omega arith

  place_written : place (written b r) (used_in b) ≡ bytes_of r
  place_written = place_counted (put b (used_in b) (bytes_of r)) (used_in b + 1) (used_in b) ∙ place_put b (used_in b) (bytes_of r) within sixteen

  place_written_below : (j : ℕ) → j < used_in b → place (written b r) j ≡ place b j
  place_written_below j h = place_counted (put b (used_in b) (bytes_of r)) (used_in b + 1) j ∙ place_put_below b (used_in b) (bytes_of r) within sixteen j h

  -- the rows before are the same
  front_written : map (λ i. row_of (place (written b r) i)) (range_with_len 0 (used_in b)) ≡ map (λ i. row_of (place b i)) (range_with_len 0 (used_in b))
  front_written =
      let f : ℕ → Row = λ i. row_of (place b i) in
      let g : ℕ → Row = λ i. row_of (place (written b r) i) in
      fill_by_all f (map g (range_with_len 0 (used_in b))) (used_in b) no_row (length-map-range_with_len g 0 (used_in b)) (λ k h. get_or-map-range_with_len g 0 (used_in b) k k no_row h (omega arith) ∙ ap row_of (place_written_below k h))

  pub shown_written : shown (written b r) ≡ shown b ++ r ∷ []
  shown_written =
      let g : ℕ → Row = λ i. row_of (place (written b r) i) in
      let n : count_in b ≡ used_in b = omega arith in
      let last : g (used_in b) ≡ r = ap row_of place_written ∙ row_of_bytes_of r in
      ap (λ k. map g (range_with_len 0 k)) count_written
      ∙ (map-range_with_len_more g 0 (used_in b) (used_in b) (omega arith) ∙ rw (front_written, last, n))
