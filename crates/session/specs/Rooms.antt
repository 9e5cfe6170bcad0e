-- How much is reserved for a page and for the numbers of a line. Assumes nothing.
use Rattle.std.specs.Prelude.{ℕ}

-- 8,192 rules of at most 70 bytes each, and a count line of at most 17
abbrev pub page_room : ℕ
page_room = 573457

-- a line of 65,536 bytes has at most half as many numbers: each takes a space and a digit
abbrev pub number_room : ℕ
number_room = 32768
