use Rattle.std.proofs.Common.{rules}
use Rattle.model.proofs.Written.{programmed_listed}
use Rattle.book.proofs.book.Book.list.Goals as goal

pub returns-clause-program : goal.returns-clause-program
returns-clause-program g c = search (rules, programmed_listed, g.met.K.Kind.lawful, g.met.L.Log.twelve, c.list.ensures.listing)
