-- A shape's sizes are in their ranges. Assumes nothing.
use Rattle.std.proofs.Common.{◌≡◌, ℕ, ◌<◌, ◌≤◌, length, inl, inr, arith}
use Rattle.std.proofs.lemmas.List.{get_or-take, get_or_past, length-take-le}
use Rattle.std.proofs.ByRecursion.{All-from_get_or}
use Rattle.std.proofs.lemmas.Bool.{cases_lt}
use Rattle.model.specs.declared.sizes.Sizes.{Sizes}
use Rattle.model.specs.declared.shape.Shape.{Shape}
use Rattle.model.specs.Shapes.{sizes_of, features, targets}
use Rattle.model.specs.Sizes.{Size, Lawful, Ranges}

-- every counted place is in the table, since what lies past it reads as 0
pub counted_within : (t : Sizes) → t.count ≤ length t.values
counted_within t =
    elim (cases_lt (length t.values) t.count) [
      | inl h ↦ let two = t.filled.2 (length t.values) h in let zero = get_or_past t.values (length t.values) 0 (omega arith) in omega arith
      | inr h ↦ h
    ]

pub length_sizes_of : (t : Sizes) → length (sizes_of t) ≡ t.count
length_sizes_of t = length-take-le t.count t.values (counted_within t)

pub lawful_sizes : (t : Sizes) (most : ℕ) → t.count ≤ most → Lawful most (sizes_of t)
lawful_sizes t most few =
    let long = length_sizes_of t in
    let filled = t.filled in (
      omega arith,
      omega arith,
      All-from_get_or Size (sizes_of t) 0 (λ i h. let in' : i < t.count = omega arith in rw get_or-take (t.filled.2 i in')),
    )

pub ranges : (s : Shape) → Ranges (features s) (targets s)
ranges s = (lawful_sizes s.features 8 s.features.filled.1, lawful_sizes s.targets 4 s.few)
