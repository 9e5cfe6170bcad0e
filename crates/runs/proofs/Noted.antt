-- The row of an observation that may be noted: it is lawful, and shows the state and the outcome. Assumes nothing.
use Rattle.std.proofs.Common.{◌≡◌, ℕ, ◌-◌, ◌<◌, ◌≤◌, List, length, get_or, take, drop, replicate, inl, inr, arith}
use Rattle.std.proofs.lemmas.List.{places, append_assoc, take_at, drop_at, take-take, get_or_past}
use Rattle.std.proofs.lemmas.Bool.{cases_lt}
use Rattle.std.proofs.lemmas.Bool.Decides.{nat_tests}
use Rattle.model.specs.Memory.{place}
use Rattle.model.specs.Notes.{Notable, noted_row}
use Rattle.model.specs.Observations.{observation}
use Rattle.model.specs.Shapes.{features, targets, cell_size}
use Rattle.model.specs.Strays.{LawfulRow}
use Rattle.model.specs.declared.shape.Shape.{Shape}
use Rattle.model.proofs.Fits.{few_features, few_targets}
use Rattle.model.proofs.Written.{place_long}

module _ (s : Shape) (class day : ℕ) (cells : List ℕ) (notable : Notable s class day cells) where
  abbrev front : List ℕ
  front = take (length (features s)) cells

  abbrev back : List ℕ
  back = drop (length (features s)) cells

  front_long : length front ≡ length (features s)
  front_long = notable.2.0

  back_long : length back ≡ length (targets s)
  back_long = notable.3.0

  eight : length (place front) ≡ 8
  eight = place_long front (omega (arith, front_long, few_features s))

  shown_state : (observation s (noted_row s class day cells)).state ≡ front
  shown_state = rw (append_assoc front (replicate (8 - length front) 0) (take 4 (place back))) (take_at front _ (length (features s)) front_long)

  shown_outcome : (observation s (noted_row s class day cells)).outcome ≡ back
  shown_outcome =
      rw (drop_at (place front) (take 4 (place back)) 8 eight, take-take (length (targets s)) 4 (place back) (few_targets s))
      (take_at back (replicate (8 - length back) 0) (length (targets s)) back_long)

  pub observed : observation s (noted_row s class day cells) ≡ record { state = front; outcome = back }
  observed = cc (shown_state, shown_outcome)

  -- a cell of a feature
  feature_cell : (j : ℕ) → j < length (features s) → get_or (noted_row s class day cells).cells j 255 ≡ get_or front j 0
  feature_cell j within = grind (arith, places, front_long, eight, few_features s)

  -- a cell of a target
  target_cell : (j : ℕ) → 8 ≤ j → j - 8 < length (targets s) → get_or (noted_row s class day cells).cells j 255 ≡ get_or back (j - 8) 0
  target_cell j past within = grind (arith, places, back_long, eight, few_targets s)

  some_within : (ns : List ℕ) (i : ℕ) → 0 < get_or ns i 0 → i < length ns
  some_within ns i some = grind (arith, get_or_past)

  pub lawful_noted : LawfulRow s (noted_row s class day cells)
  lawful_noted j twelve astray =
      elim (cases_lt j 8) [
        | inl low ↦
            let size : cell_size s j ≡ get_or (features s) j 0 = grind (arith, nat_tests) in
            let within : j < length (features s) = some_within (features s) j (omega (arith, size, astray.0)) in
            let below = notable.2.1 j within in
            omega (arith, size, astray.1, feature_cell j within)
        | inr high ↦
            let size : cell_size s j ≡ get_or (targets s) (j - 8) 0 = grind (arith, nat_tests) in
            let within : j - 8 < length (targets s) = some_within (targets s) (j - 8) (omega (arith, size, astray.0)) in
            let below = notable.3.1 (j - 8) within in
            omega (arith, size, astray.1, target_cell j high within)
      ]
