-- Which rows a retention shows. Assumes nothing.
use Rattle.std.specs.Prelude.{ℕ, ◌+◌, ◌-◌, Bool, ◌&&◌, List, nat_le, nat_lt, slice_index}
use Rattle.model.specs.declared.row.Row.{Row}

-- a row of class 1 to 3 is shown while its day and the keep of its class together are above today
abbrev pub shown_by : List ℕ → ℕ → Row → Bool
shown_by keeps today r = (nat_le 1 r.class && nat_le r.class 3) && nat_lt today (r.day + slice_index keeps (r.class - 1))
