use Rattle.std.proofs.Common.{rules}
use Rattle.std.proofs.lemmas.Slice.Eq.{slice_eq-Decides}
use Rattle.agreement.proofs.Fronts.{decides_front}
use Rattle.agreement.proofs.answers.same_listing.Goals as goal
use Rattle.std.proofs.lemmas.Bool.Decides.{Decides-eqb}

pub returns-in-Ok : goal.returns-in-Ok
returns-in-Ok c =
    decides_front _ _ _ _ c.in-Ok.rules _ (search rules) c.in-Ok.is (slice_eq-Decides Decides-eqb _ _ _ c.eq.ensures)
