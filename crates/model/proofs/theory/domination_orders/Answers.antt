use Rattle.model.proofs.Domination.{dominates_itself, dominates_through, same_from_dominates}
use Rattle.model.proofs.theory.domination_orders.Goals as goal

pub returns : goal.returns
returns g c = λ ns taken.
    let m = g.K.Kind.meaning in
    let laws = g.met.K.Kind.lawful in
    record {
      itself = dominates_itself m laws ns taken;
      through = dominates_through m laws ns taken;
      same = same_from_dominates m laws ns taken;
    }
