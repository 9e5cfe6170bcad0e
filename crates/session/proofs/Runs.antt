-- Runs of digits: how far a number goes in a text, and that its text is the only one. Assumes nothing.
use Rattle.std.proofs.Common.{◌≡◌, ℕ, ◌+◌, ◌-◌, ◌*◌, ◌^◌, ◌<◌, ◌≤◌, List, [], ◌∷◌, ◌++◌, map, length, get_or, take, drop, decimal, sym, refl, ap, ◌∙◌, subst, inl, inr, arith}
use Rattle.std.specs.Str.Parse.{AllDigits, digits_value}
use Rattle.std.specs.Char.{IsAsciiDigit, digit_value as digitValue}
use Rattle.std.specs.Int.Digits.{number_from_digits, number_from_digits_after}
use Rattle.std.proofs.lemmas.List.{map-append, take-append-drop, length-take-le, get_or-take}
use Rattle.std.proofs.lemmas.Int.Digits.{digits_value_is, digits_value_more, digits_more, number_after_append, number_after_ge}
use Rattle.std.proofs.lemmas.Str.Parse.{IsNumeralModel, numerals_by_value, tells_digits, digit_from_value}
use Rattle.std.proofs.lemmas.Fmt.{digits_decimal, digits_value-decimal, decimal-digits_value, decimal_nonempty, first_decimal, decimal_digit}
use Rattle.std.proofs.lemmas.Bool.{cases_lt}
use Rattle.std.proofs.lemmas.Bool.Decides.{nat_tests}
use Rattle.session.specs.Lines.{Small, Ends, Runs, Begins, NoNumber}

numerals : IsNumeralModel (AllDigits 10) (digits_value 10)
numerals = numerals_by_value (AllDigits 10) tells_digits

digit_value : (c : ℕ) → IsAsciiDigit c → digitValue c ≡ c - 48
digit_value c h = grind (arith, nat_tests)

-- one more digit
pub run_more : (bytes : List ℕ) (i n digit : ℕ) → i < length bytes → IsAsciiDigit (get_or bytes i 0) → digit ≡ get_or bytes i 0 - 48 → n ≡ digits_value 10 (take i bytes) → AllDigits 10 (take i bytes) → (n * 10 + digit ≡ digits_value 10 (take (i + 1) bytes)) × AllDigits 10 (take (i + 1) bytes)
run_more bytes i n digit inside is_digit d v run =
    let at = digit_value (get_or bytes i 0) is_digit in
    let more = digits_value_more 10 bytes i inside in
    (omega arith, digits_more 10 bytes i inside run (omega arith))

-- digits that are followed by no digit begin with any digits at the same place
pub run_extends : (ds es x rest : List ℕ) → AllDigits 10 ds → Ends rest → ds ++ x ≡ es ++ rest → (more : List ℕ) × (es ≡ ds ++ more)
run_extends [] es x rest d e h = (es, refl)
run_extends (c ∷ ds) [] x rest d e h = absurd (subst Ends (sym h) e (digit_from_value c d.0))
run_extends (c ∷ ds) (b ∷ es) x rest d e h =
    let tail : ds ++ x ≡ es ++ rest = cc in
    let t = run_extends ds es x rest d.1 e tail in
    let head : c ≡ b = cc in
    (t.0, cc t.1)

-- so two such runs are the same
pub same_runs : (ds es x y : List ℕ) → AllDigits 10 ds → AllDigits 10 es → Ends x → Ends y → ds ++ x ≡ es ++ y → (ds ≡ es) × (x ≡ y)
same_runs [] [] x y d e ex ey h = (refl, h)
same_runs [] (b ∷ es) x y d e ex ey h = absurd (subst Ends h ex (digit_from_value b e.0))
same_runs (c ∷ ds) [] x y d e ex ey h = absurd (subst Ends (sym h) ey (digit_from_value c d.0))
same_runs (c ∷ ds) (b ∷ es) x y d e ex ey h =
    let tail : ds ++ x ≡ es ++ y = cc in
    let t = same_runs ds es x y d.1 e.1 ex ey tail in
    let head : c ≡ b = cc in
    (cc t.0, t.1)

-- more digits write no smaller number
pub value_extends : (ds more : List ℕ) → digits_value 10 ds ≤ digits_value 10 (ds ++ more)
value_extends ds more =
    let ge = number_after_ge 10 (number_from_digits 10 (map digitValue ds)) (map digitValue more) (omega arith) in
    let step : digits_value 10 (ds ++ more) ≡ number_from_digits_after 10 (number_from_digits 10 (map digitValue ds)) (map digitValue more) = digits_value_is 10 (ds ++ more) ∙ ap (number_from_digits 10) (map-append digitValue ds more) ∙ number_after_append 10 0 (map digitValue ds) (map digitValue more) in
    omega (arith, digits_value_is 10 ds)

-- a text that begins with too large a number begins with no number
pub too_large : (bytes ds x : List ℕ) → AllDigits 10 ds → bytes ≡ ds ++ x → 65535 < digits_value 10 ds → NoNumber bytes
too_large bytes ds x d split large n rest small ends e =
    let t = run_extends ds (decimal n) x rest d ends (sym split ∙ e) in
    let big : n < 2 ^ 64 = omega arith in
    let same : digits_value 10 (ds ++ t.0) ≡ n = ap (digits_value 10) (sym t.1) ∙ digits_value-decimal numerals n big in
    omega (arith, value_extends ds t.0)

-- where one more digit makes the number too large, there is none
pub no_more : (bytes : List ℕ) (i n digit : ℕ) → i < length bytes → IsAsciiDigit (get_or bytes i 0) → digit ≡ get_or bytes i 0 - 48 → n ≡ digits_value 10 (take i bytes) → AllDigits 10 (take i bytes) → 65535 < n * 10 + digit → NoNumber bytes
no_more bytes i n digit inside is_digit d v run large =
    let more = run_more bytes i n digit inside is_digit d v run in
    too_large bytes (take (i + 1) bytes) (drop (i + 1) bytes) more.1 (sym (take-append-drop (i + 1) bytes)) (omega arith)

-- nor does one whose first digits, all that there are, are the text of no number
pub no_number : (bytes ds x : List ℕ) → AllDigits 10 ds → Ends x → bytes ≡ ds ++ x → ((n : ℕ) → Small n → ds ≡ decimal n → ⊥) → NoNumber bytes
no_number bytes ds x d ex split none n rest small ends e =
    let big : n < 2 ^ 64 = omega arith in
    none n small (same_runs ds (decimal n) x rest d (digits_decimal numerals n big) ex ends (sym split ∙ e)).0

-- where there are no digits, there is no number
pub no_digits : (bytes : List ℕ) (n digits : ℕ) → Runs bytes n digits → digits ≡ 0 → NoNumber bytes
no_digits bytes n digits run none =
    let long = length-take-le digits bytes run.1 in
    no_number bytes (take digits bytes) (drop digits bytes) run.3 run.4 (sym (take-append-drop digits bytes)) (λ m small e. let some = decimal_nonempty m (omega arith) in omega (arith, ap length e))

-- nor where a zero leads
pub zero_led : (bytes : List ℕ) (n digits : ℕ) → Runs bytes n digits → 1 < digits → get_or bytes 0 0 ≡ 48 → NoNumber bytes
zero_led bytes n digits run several led =
    let long = length-take-le digits bytes run.1 in
    let first = get_or-take digits bytes 0 0 (omega arith) in
    no_number bytes (take digits bytes) (drop digits bytes) run.3 run.4 (sym (take-append-drop digits bytes)) (λ m small e. elim (cases_lt 0 m) [
      | inl positive ↦ omega (arith, first_decimal m positive (omega arith), ap (λ (xs : List ℕ). get_or xs 0 0) e)
      | inr zero' ↦ omega (arith, ap length (decimal_digit m (omega arith)), ap length e)
    ])

-- other digits are the text of their number
pub number_begins : (bytes : List ℕ) (n digits : ℕ) → Runs bytes n digits → 0 < digits → (get_or bytes 0 0 ≡ 48 → digits ≡ 1) → Begins bytes n digits
number_begins bytes n digits run some led =
    let long = length-take-le digits bytes run.1 in
    let first = get_or-take digits bytes 0 0 (omega arith) in
    let spelled = decimal-digits_value numerals (take digits bytes) run.3 (omega arith) (λ zero-first. long ∙ led (sym first ∙ zero-first)) (omega arith) in
    (run.0, run.1, sym spelled ∙ ap decimal (sym run.2), run.4)

-- the text of a number is digits
pub decimal_digits : (n : ℕ) → Small n → AllDigits 10 (decimal n)
decimal_digits n small = digits_decimal numerals n (omega arith)
