-- Rules for the exchange, by exact conditions. Assumes nothing.
use Rattle.std.specs.Prelude.{ℕ, zero, suc, Bool, true, false, not, ◌&&◌, List, Option, Some, None, slice_index}
use Rattle.exchange.specs.declared.messages.State.{State}
use Rattle.exchange.specs.declared.rule.Rule.{Rule}

-- what a code of the kind exact asks: 1 + v asks for the value v, which stands for yes at 1 and no at 0
abbrev pub asked_by : ℕ → Option Bool
asked_by zero = None
asked_by (suc zero) = Some false
asked_by (suc (suc zero)) = Some true
asked_by (suc (suc (suc n))) = None

-- the rule of some codes, one for each feature
abbrev pub rule_of : List ℕ → Rule
rule_of codes = record { busy = asked_by (slice_index codes 0); wrapped = asked_by (slice_index codes 1) }

-- a feature is as it is asked to be
abbrev pub agrees : Option Bool → Bool → Bool
agrees None value = true
agrees (Some true) value = value
agrees (Some false) value = not value

-- the rule matches the state
abbrev pub holds_of : State → Rule → Bool
holds_of s r = agrees r.busy s.busy && agrees r.wrapped s.wrapped
