-- The sizes of a shape, and that the observations of lawful rows fit them. Assumes nothing.
use Rattle.std.proofs.Common.{◌≡◌, ℕ, ◌+◌, ◌-◌, ◌<◌, ◌≤◌, ltb, List, [], ◌∷◌, length, get_or, drop, sym, ap, ◌∙◌, subst, inl, inr, arith}
use Rattle.std.specs.List.{AllByRecursion}
use Rattle.std.proofs.ByRecursion.{All-get_or, All-from_get_or}
use Rattle.std.proofs.lemmas.List.{length-take, length-take-le, length-drop, get_or-take, get_or-drop, get_or_default}
use Rattle.std.proofs.lemmas.Bool.{cases_lt, cond-true, cond-false, lt-ltb, le-ltb}
use Rattle.model.specs.Observations.{observation, observations}
use Rattle.model.specs.Program.{OutcomesFit}
use Rattle.model.specs.Rows.{Twelve}
use Rattle.model.specs.Kinds.{Meaning}
use Rattle.model.specs.Limits.{Listable}
use Rattle.model.specs.Optimal.{Taken}
use Rattle.model.specs.Shapes.{sizes_of, features, targets, cell_size}
use Rattle.model.specs.Sizes.{Size}
use Rattle.model.specs.Strays.{LawfulRow}
use Rattle.model.specs.Telling.{StatesFit}
use Rattle.model.specs.Values.{Fitting}
use Rattle.model.specs.declared.row.Row.{Row}
use Rattle.model.specs.declared.shape.Shape.{Shape}
use Rattle.model.specs.declared.sizes.Sizes.{Sizes}

pub few_features : (s : Shape) → length (features s) ≤ 8
few_features s = omega (arith, length-take s.features.count s.features.values, s.features.filled.1)

pub few_targets : (s : Shape) → length (targets s) ≤ 4
few_targets s = omega (arith, length-take s.targets.count s.targets.values, s.few)

sized : (z : Sizes) → AllByRecursion Size (sizes_of z)
sized z =
    All-from_get_or Size (sizes_of z) 0
    (λ i h. let lt : i < z.count = omega (arith, length-take z.count z.values) in subst Size (sym (get_or-take z.count z.values i 0 lt)) (z.filled.2 i lt))

pub sized_features : (s : Shape) → AllByRecursion Size (features s)
sized_features s = sized s.features

pub sized_targets : (s : Shape) → AllByRecursion Size (targets s)
sized_targets s = sized s.targets

taken_sizes : (m : Meaning) (ns : List ℕ) → AllByRecursion Size ns → AllByRecursion (λ n. n ≤ m.largest) ns → Taken m ns
taken_sizes m [] sizes narrow = tt
taken_sizes m (n ∷ ns) sizes narrow = ((sizes.0.0, narrow.0), taken_sizes m ns sizes.1 narrow.1)

-- a kind takes the features of a shape that can be listed
pub taken_features : (m : Meaning) (s : Shape) → Listable m (features s) → Taken m (features s)
taken_features m s listable = taken_sizes m (features s) (sized_features s) listable.0

-- a cell of the shape is below its size
below_size : (s : Shape) (r : Row) (j n : ℕ) → Twelve r → LawfulRow s r → j < 12 → cell_size s j ≡ n → 0 < n → get_or r.cells j 0 < n
below_size s r j n twelve lawful within size some =
    let same : get_or r.cells j 0 ≡ get_or r.cells j 255 = get_or_default r.cells j 0 255 (omega arith) in
    elim (cases_lt (get_or r.cells j 0) n) [ inl lt ↦ lt | inr ge ↦ absurd (lawful j within (omega arith, omega arith)) ]

module _ (s : Shape) where
  state_fits : (r : Row) → Twelve r → LawfulRow s r → Fitting (features s) (observation s r).state
  state_fits r twelve lawful = (
    length-take-le (length (features s)) r.cells (omega (arith, few_features s)),
    λ i h.
        let few : i < 8 = omega (arith, few_features s) in
        let size = All-get_or Size (features s) i 0 h (sized_features s) in
        rw (get_or-take (length (features s)) r.cells i 0 h)
        (below_size s r i (get_or (features s) i 0) twelve lawful (omega arith) (cond-true (ltb i 8) (get_or (features s) i 0) (get_or (targets s) (i - 8) 0) (lt-ltb i 8 few)) (omega (arith, size.0))),
  )

  outcome_fits : (r : Row) → Twelve r → LawfulRow s r → Fitting (targets s) (observation s r).outcome
  outcome_fits r twelve lawful = (
    length-take-le (length (targets s)) (drop 8 r.cells) (omega (arith, few_targets s, length-drop 8 r.cells)),
    λ i h.
        let few : 8 + i < 12 = omega (arith, few_targets s) in
        let size = All-get_or Size (targets s) i 0 h (sized_targets s) in
        let at : 8 + i - 8 ≡ i = omega arith in
        rw (get_or-take (length (targets s)) (drop 8 r.cells) i 0 h, get_or-drop 8 r.cells i 0)
        (below_size s r (8 + i) (get_or (targets s) i 0) twelve lawful few
        (cond-false (ltb (8 + i) 8) (get_or (features s) (8 + i) 0) (get_or (targets s) (8 + i - 8) 0) (le-ltb (8 + i) 8 (omega arith)) ∙ ap (λ (k : ℕ). get_or (targets s) k 0) at)
        (omega (arith, size.0))),
  )

  pub states_fit : (rows : List Row) → AllByRecursion Twelve rows → AllByRecursion (LawfulRow s) rows → StatesFit (features s) (observations s rows)
  states_fit [] twelve lawful = tt
  states_fit (r ∷ rows) twelve lawful = (state_fits r twelve.0 lawful.0, states_fit rows twelve.1 lawful.1)

  pub outcomes_fit : (rows : List Row) → AllByRecursion Twelve rows → AllByRecursion (LawfulRow s) rows → OutcomesFit (targets s) (observations s rows)
  outcomes_fit [] twelve lawful = tt
  outcomes_fit (r ∷ rows) twelve lawful = (outcome_fits r twelve.0 lawful.0, outcomes_fit rows twelve.1 lawful.1)
