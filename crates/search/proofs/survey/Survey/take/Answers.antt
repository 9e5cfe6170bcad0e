use Rattle.std.proofs.Common.{◌≡◌, ℕ, ◌+◌, ◌<◌, ◌≤◌, Bool, eqb, List, length, get_or, take, vec_items, sym, ap, ◌∙◌, subst, arith}
use Rattle.std.specs.List.{AllByRecursion}
use Rattle.std.proofs.lemmas.List.{take_all}
use Rattle.std.proofs.ByRecursion.{All-more}
use Rattle.std.proofs.lemmas.Result.{err_from_is_err_and}
use Rattle.model.specs.Memory.{place}
use Rattle.model.specs.Rows.{no_row}
use Rattle.model.specs.Shapes.{features}
use Rattle.model.specs.Strays.{Astray, LawfulRow, FirstStray}
use Rattle.search.specs.declared.survey.Seen.{Seen}
use Rattle.search.specs.Surveys.{marked, surveyed}
use Rattle.search.proofs.Scans.{first_stray, surveyed_more}
use Rattle.search.proofs.survey.Survey.take.Goals as goal

pub returns-in_err-scan : goal.returns-in_err-scan
returns-in_err-scan g c =
    let p = err_from_is_err_and c.from_residual.result c.from_residual.ensures.1 in
    let rows = g.L.Log.rows c.args.log.now in
    let within : c.rows.row < length rows = omega (arith, c.count-row-end.ensures, c.rows-test.true) in
    rw p.1
    (subst (FirstStray c.args.shape.now rows) (sym p.2)
    (first_stray c.args.shape.now rows c.rows.row c.cells_of-cells.result c.in_err-scan.field-0.0 within c.cells_of-cells.ensures c.rows.invariant.1 c.in_err-scan.ensures))

pub rows-preserved : goal.rows-preserved
rows-preserved g c =
    let s = c.args.shape.now in
    let rows = g.L.Log.rows c.args.log.now in
    let i = c.rows.row in
    let within : i < length rows = omega (arith, c.count-row-end.ensures, c.rows-test.true) in
    let cells : c.cells_of-cells.result ≡ (get_or rows i no_row).cells = c.cells_of-cells.ensures in
    let so_far = surveyed s c.args.head.target c.args.head.value (take i rows) in
    let has-head : List ℕ → Bool = λ cs. eqb (get_or cs (8 + c.args.head.target) 0) c.args.head.value in
    let lawful : LawfulRow s (get_or rows i no_row) = subst (λ (cs : List ℕ). (j : ℕ) → j < 12 → Astray s cs j → ⊥) cells c.in_ok-scan.ensures in (
      omega (arith, c.mark.ensures.len, c.rows.invariant.0),
      All-more (LawfulRow s) rows i no_row within c.rows.invariant.1 lawful,
      c.mark.ensures.items
          ∙ ap (λ (cell : ℕ). marked (vec_items c.rows.self.seen) c.state_of-state.result (eqb cell c.args.head.value)) (c.from.ensures ∙ ap (λ (k : ℕ). get_or c.cells_of-cells.result (8 + k) 0) c.from-target.ensures)
          ∙ ap (λ (seen : List Seen). marked seen c.state_of-state.result (has-head c.cells_of-cells.result)) c.rows.invariant.2
          ∙ ap (λ (v : List ℕ). marked so_far v (has-head c.cells_of-cells.result)) c.state_of-state.ensures
          ∙ ap (λ (cs : List ℕ). marked so_far (place (take (length (features s)) cs)) (has-head cs)) cells
          ∙ sym (surveyed_more s c.args.head.target c.args.head.value rows i within),
    )

pub returns : goal.returns
returns g c =
    let s = c.args.shape.now in
    let rows = g.L.Log.rows c.args.log.now in
    let over : length rows ≤ c.rows.row = omega (arith, c.count-row-end.ensures, c.rows-test.false) in (
      subst (AllByRecursion (LawfulRow s)) (take_all c.rows.row rows over) c.rows.invariant.1,
      c.rows.invariant.2 ∙ ap (surveyed s c.args.head.target c.args.head.value) (take_all c.rows.row rows over),
    )
