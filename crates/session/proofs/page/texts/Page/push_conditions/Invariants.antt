use Rattle.std.proofs.Common.{◌≡◌, ◌+◌, ◌*◌, ◌≤◌, ◌++◌, drop}
use Rattle.session.specs.Pages.{text_of, used}
use Rattle.session.specs.Texts.{conditions}
use Rattle.session.proofs.page.texts.Page.push_conditions.Given as goal

abbrev pub invariant-features : goal.invariant-features
invariant-features l =
    (text_of l.self ++ conditions l.feature (drop l.feature l.body) ≡ text_of l.initial.self ++ conditions 0 l.body)
    × (used l.self ≤ used l.initial.self + 6 * l.feature)
