use Rattle.std.proofs.Common.{◌≡◌, map, take}
use Rattle.arrayvec.specs.ArrayVec.{array_vec_len}
use Rattle.exchange.specs.Rules.{rule_of}
use Rattle.exchange.proofs.listing.read.Given as goal

-- the rules so far are read
abbrev pub invariant-places : goal.invariant-places
invariant-places l = (array_vec_len l.rules ≡ l.codes-index) × (l.rules.items ≡ map rule_of (take l.codes-index l.codes-items))
