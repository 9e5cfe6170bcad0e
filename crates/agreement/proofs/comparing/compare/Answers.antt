use Rattle.std.proofs.Common.{rules}
use Rattle.std.proofs.lemmas.List.{take_all}
use Rattle.agreement.proofs.Entries.{compared_more, law_from_right}
use Rattle.agreement.proofs.comparing.compare.Goals as goal

pub questions-preserved : goal.questions-preserved
questions-preserved g c =
    let did = c.ask.ensures in
    compared_more c.questions.invariant c.ask.new.asked _ (search rules) did.first did.second (search rules) (search rules) did.question did.left did.right did.alike

pub returns : goal.returns
returns g c =
    let so_far = c.questions.invariant in
    let all = take_all c.questions.i c.questions.questions (search rules) in
    let alike = rw all at so_far.alike in
    record {
      first = so_far.one.kept;
      second = so_far.other.kept;
      questions = so_far.questions;
      left = rw all at so_far.one.leave;
      right = rw all at so_far.other.leave;
      alike = alike;
      law = law_from_right g.K.Kind.meaning _ _ _ _ _ _ c.questions.questions alike;
    }
