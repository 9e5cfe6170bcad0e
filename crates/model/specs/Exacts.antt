-- The exact kind keeps the laws of every kind. Assumes nothing.
use Rattle.std.proofs.Common.{rules}
use Rattle.model.specs.Exact.{exact}
use Rattle.model.specs.Kinds.{Laws}

pub exact_laws : Laws exact
exact_laws = search rules
