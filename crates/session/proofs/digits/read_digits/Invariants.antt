use Rattle.std.proofs.Common.{◌≡◌, ◌≤◌, take}
use Rattle.std.specs.Str.Parse.{digits_value, AllDigits}
use Rattle.session.proofs.digits.read_digits.Given as goal

abbrev pub invariant-figures : goal.invariant-figures
invariant-figures l =
    (l.number ≡ digits_value 10 (take l.digits l.text))
    × (l.number ≤ 65535)
    × AllDigits 10 (take l.digits l.text)
