-- The published numbers of the refusals. Assumes nothing.
use Rattle.std.specs.Prelude.{ℕ}
use Rattle.model.specs.declared.refusal.Refusal.{Refusal}
use Rattle.model.specs.declared.refusal.Refusal.TheVariants.{Shape, Image, Observation, NotAdmitted, Full, Head, Bodies, Stray, Rules, State, Line, Output}

abbrev pub number_of : Refusal → ℕ
number_of Shape = 1
number_of Image = 2
number_of Observation = 4
number_of NotAdmitted = 5
number_of Full = 6
number_of Head = 7
number_of Bodies = 8
number_of (Stray s) = 9
number_of (Rules n) = 10
number_of State = 11
number_of Line = 12
number_of (Output written lines) = 13
