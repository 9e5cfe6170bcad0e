use Rattle.std.proofs.Common.{ℕ, get_or, refl, ap, ◌∙◌, arith}
use Rattle.std.proofs.lemmas.List.{get_or_past}
use Rattle.model.specs.Shapes.{targets}
use Rattle.search.proofs.heads.known_head.Goals as goal
use Rattle.search.proofs.heads.known_head.Goals.{then-target-target_count-via-then-target-target_count, then-target-target_count-via-else-target-target_count+then-head-from}

pub returns-then-target-target_count : goal.returns-then-target-target_count
returns-then-target-target_count c = (
  refl,
  λ known. elim c.then-target-target_count.branch [
    | then-target-target_count-via-then-target-target_count w ↦
        let none = get_or_past (targets c.args.shape.now) c.args.head.target 0 (omega (arith, w.if-target-target_count.true, c.target_count.ensures.value, c.from-target.ensures)) in omega arith
    | then-target-target_count-via-else-target-target_count+then-head-from w ↦
        let size = w.target_size.ensures ∙ ap (λ (k : ℕ). get_or (targets c.args.shape.now) k 0) c.from-target.ensures in omega (arith, w.if-head-from.true, w.from.ensures)
  ],
)
