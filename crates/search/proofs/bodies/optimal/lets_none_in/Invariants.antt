use Rattle.std.proofs.Common.{◌≡◌, true, false, not, ◌&&◌, get_or}
use Rattle.model.specs.Rules.{each_below}
use Rattle.search.proofs.bodies.optimal.lets_none_in.Given as goal

-- the condition holds of no value noted so far
abbrev pub invariant-values : goal.invariant-values
invariant-values g l = each_below l.value (λ x. not (get_or l.near x false && g.K.Kind.meaning.holds l.size l.code x)) ≡ true
