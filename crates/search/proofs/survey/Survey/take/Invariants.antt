use Rattle.std.proofs.Common.{◌≡◌, ◌≤◌, take, vec_items, vec_len}
use Rattle.std.specs.List.{AllByRecursion}
use Rattle.model.specs.Strays.{LawfulRow}
use Rattle.search.specs.Surveys.{surveyed}
use Rattle.search.proofs.survey.Survey.take.Given as goal

-- the rows so far are lawful, and surveyed
abbrev pub invariant-rows : goal.invariant-rows
invariant-rows g l =
    let rows = take l.row (g.L.Log.rows l.log) in
    (vec_len l.self.seen ≤ l.row)
    × AllByRecursion (LawfulRow l.shape) rows
    × (vec_items l.self.seen ≡ surveyed l.shape l.head.target l.head.value rows)
