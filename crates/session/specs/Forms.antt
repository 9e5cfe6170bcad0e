-- What the forms that are read say. Assumes nothing.
use Rattle.session.specs.Lines.{Line, features, targets, note, listing, forecast}
use Rattle.session.specs.declared.form.Form.{Form}
use Rattle.session.specs.declared.form.Form.TheVariants.{Features, Targets, Note, Listing, Forecast}

-- the line that a form is read from
abbrev pub line_of : Form → Line
line_of (Features sizes) = features sizes.now
line_of (Targets sizes) = targets sizes.now
line_of (Note class day cells) = note class day cells.now
line_of (Listing head sense) = listing head.target head.value sense
line_of (Forecast head state) = forecast head.target head.value state.now
