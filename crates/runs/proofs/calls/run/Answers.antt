use Rattle.std.proofs.Common.{arith}
use Rattle.std.proofs.lemmas.List.{take_all}
use Rattle.runs.proofs.Runs.{running_more}
use Rattle.runs.proofs.Told.{noted_states_told}
use Rattle.runs.proofs.calls.run.Goals as goal

pub calls-preserved : goal.calls-preserved
calls-preserved g c =
    let did = c.make.ensures in
    running_more c.calls.invariant c.make.new.entry _ (omega (arith, c.calls.invariant.long, c.calls-test.true)) did.shape did.call did.rows did.free did.admits did.answer

pub returns : goal.returns
returns g c =
    let log = c.args.book.now.log in
    let so_far = c.calls.invariant in
    let all = take_all c.calls.i c.calls.entries (omega (arith, so_far.long, c.calls-test.false)) in
    let rows = rw all at so_far.taken in
    let ran = rw all at so_far.ran in
    record {
      shape = so_far.same_shape;
      calls = so_far.calls;
      rows = rows;
      free = rw all at so_far.left;
      admits = so_far.admitted;
      answers = ran;
      told = noted_states_told _ g.met.K.Kind.lawful _ (g.I.Intake.admits log) (g.I.Intake.free log) _ _ c.args.rules.now c.calls.rules _ ran rows;
    }
