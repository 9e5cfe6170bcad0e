-- What a desk holds before the first line, and which sizes a line leaves stored. Assumes nothing.
use Rattle.std.specs.Prelude.{◌≡◌, ◌<◌, false, length, None, IsSomeAnd, MatchResult}
use Rattle.model.specs.declared.refusal.Refusal.TheVariants.{Shape as refused_shape}
use Rattle.session.specs.declared.desk.Desk.{Desk}
use Rattle.session.specs.declared.form.Form.{Form}
use Rattle.session.specs.declared.form.Form.TheVariants.{Features, Targets, Note, Listing, Forecast}

-- no sizes are stored, and no book is made
abbrev pub Unbegun : Desk → Type 0
Unbegun d = (d.stored ≡ None) × (d.shelf.begun ≡ false)

-- a line of features stores its sizes, or the refusal that a longer list than any shape has will meet; a line of targets
-- uses them up; every other line leaves them
abbrev pub LeavesStored : Form → Desk → Desk → Type 0
LeavesStored (Features sizes) before after = IsSomeAnd after.stored (λ r. MatchResult r (λ v. v.items ≡ sizes.now) (λ e. (e ≡ refused_shape) × (8 < length sizes.now)))
LeavesStored (Targets sizes) before after = after.stored ≡ None
LeavesStored (Note class day cells) before after = after.stored ≡ before.stored
LeavesStored (Listing head sense) before after = after.stored ≡ before.stored
LeavesStored (Forecast head state) before after = after.stored ≡ before.stored
