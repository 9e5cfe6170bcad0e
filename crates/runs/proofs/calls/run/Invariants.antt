use Rattle.runs.proofs.Runs.{Running}
use Rattle.runs.proofs.calls.run.Given as goal

abbrev pub invariant-calls : goal.invariant-calls
invariant-calls g l = Running g.K.Kind.meaning g.I.Intake.admits g.I.Intake.free g.I.Log.rows l.book l.initial.book l.entries l.initial.entries l.i l.rules l.initial.rules
