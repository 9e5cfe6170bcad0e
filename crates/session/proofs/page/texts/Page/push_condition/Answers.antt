use Rattle.std.proofs.Common.{append_assoc, rules}
use Rattle.std.proofs.lemmas.Fmt.{decimal_digit}
use Rattle.session.proofs.page.texts.Page.push_condition.Goals as goal

pub returns-then-code-gt0-clause-items : goal.returns-then-code-gt0-clause-items
returns-then-code-gt0-clause-items c = search (rules, decimal_digit, append_assoc)
