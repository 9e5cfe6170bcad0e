use Rattle.std.proofs.Common.{◌≡◌, ◌+◌, ◌-◌, ◌*◌, ◌<◌, arith}
use Rattle.logs.specs.Packed.{count_in}
use Rattle.logs.specs.Shown.{get_or_shown, length_place, within_count}
use Rattle.logs.proofs.packed.PackedLog.find.Goals as goal

-- the place of a row that is shown
pub returns-then-row-count : goal.returns-then-row-count
returns-then-row-count c =
    let b = c.args.self.now.bytes.items in
    let row = c.args.row in
    let shown : row < count_in b = omega (arith, c.count.ensures.within) in
    let sixteen : 32 + 16 * row + 16 - (32 + 16 * row) ≡ 16 = omega arith in
    rw (sixteen, c.as_slice-bytes.ensures.value) (length_place b row (within_count b row shown), get_or_shown b row shown)
