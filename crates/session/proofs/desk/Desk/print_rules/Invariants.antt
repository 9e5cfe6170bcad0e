use Rattle.std.proofs.Common.{◌≡◌, ◌+◌, ◌*◌, ◌/◌, ◌≤◌, length}
use Rattle.std.specs.Slice.Iter.{chunks_exact_rest, chunks_exact_size}
use Rattle.session.specs.Pages.{used}
use Rattle.session.proofs.desk.Desk.print_rules.Given as goal

abbrev pub invariant-rules : goal.invariant-rules
invariant-rules l =
    (chunks_exact_size l.rule-iterator ≡ 8)
    × (used l.page + 70 * (length (chunks_exact_rest l.rule-iterator) / 8) ≤ 70 * l.count)
