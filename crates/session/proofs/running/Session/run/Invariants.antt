use Rattle.std.proofs.Common.{◌≡◌, ◌+◌, ◌≤◌, length, drop}
use Rattle.std.specs.Slice.Iter.{split_inclusive_rest}
use Rattle.session.proofs.running.Session.run.Given as goal

-- no more lines are done than bytes were read; what is written lies within the output, and the bytes after it are as they were
abbrev pub invariant-lines : goal.invariant-lines
invariant-lines l =
    (l.done.lines + length (split_inclusive_rest l.line-iterator) ≤ length l.input)
    × (length l.output ≡ length l.initial.output)
    × (l.done.written ≤ length l.initial.output)
    × (drop l.done.written l.output ≡ drop l.done.written l.initial.output)
