-- What appending a row answers. Assumes nothing.
use Rattle.std.specs.Prelude.{ℕ, Bool, cond, Ok, Err, Result, ◌==◌}
use Rattle.model.specs.declared.refusal.Refusal.{Refusal}
use Rattle.model.specs.declared.refusal.Refusal.TheVariants.{NotAdmitted, Full}

-- first a row that is not admitted is refused, then any row where no place is free, and nothing else
abbrev pub verdict : Bool → ℕ → Result Unit Refusal
verdict admitted free = cond admitted (cond (free == 0) (Err Full) (Ok tt)) (Err NotAdmitted)
