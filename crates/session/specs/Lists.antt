-- The numbers read from a line. Assumes nothing.
use Rattle.std.specs.Prelude.{ℕ, List}
use Rattle.session.specs.Reserveds.{items_of}
use Rattle.session.specs.Rooms.{number_room}
use Rattle.session.specs.declared.reserved.Reserved.{Reserved}

-- the numbers themselves, in the order of the line
abbrev pub numbers_of : Reserved ℕ number_room → List ℕ
numbers_of n = items_of n
