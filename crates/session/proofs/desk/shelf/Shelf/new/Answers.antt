-- Said outright, so that another start is refused at once.
use Rattle.std.proofs.Common.{refl}
use Rattle.session.proofs.desk.shelf.Shelf.new.Goals as goal

pub returns : goal.returns
returns c = refl
