use Rattle.std.proofs.Common.{◌+◌, ◌*◌, ◌≤◌, length}
use Rattle.session.specs.Lists.{numbers_of}
use Rattle.session.specs.Reserveds.{places}
use Rattle.session.proofs.Fields.{Left}
use Rattle.session.proofs.numbers.read_list.Given as goal

abbrev pub invariant-fields : goal.invariant-fields
invariant-fields l = Left l.text (numbers_of l.numbers) l.rest × (2 * places l.numbers + length l.rest ≤ length l.text)

abbrev pub decreases-fields : goal.decreases-fields
decreases-fields l = length l.rest
