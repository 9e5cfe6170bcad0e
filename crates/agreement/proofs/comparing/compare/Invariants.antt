use Rattle.agreement.proofs.Entries.{Compared}
use Rattle.agreement.proofs.comparing.compare.Given as goal

abbrev pub invariant-questions : goal.invariant-questions
invariant-questions g l = Compared g.K.Kind.meaning g.L.Log.rows g.M.Log.rows l.first l.initial.first l.second l.initial.second l.questions l.initial.questions l.i l.left l.initial.left l.right l.initial.right
