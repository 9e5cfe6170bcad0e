-- States that would tell rules apart. Assumes nothing.
use Rattle.std.specs.Prelude.{ℕ, Bool, not, ◌&&◌, List, find, length, count_by, nat_lt, Option}
use Rattle.exchange.specs.Messages.{is_seen}
use Rattle.exchange.specs.Rules.{holds_of}
use Rattle.exchange.specs.declared.messages.State.{State}
use Rattle.exchange.specs.declared.messages.TheConstants.{MESSAGES, STATES}
use Rattle.exchange.specs.declared.rule.Rule.{Rule}

-- how many of the rules match the state
abbrev pub matching : List Rule → State → ℕ
matching rules state = count_by (holds_of state) rules

-- some of the rules match the state, and some do not
abbrev pub tells_apart : List Rule → State → Bool
tells_apart rules state = nat_lt 0 (matching rules state) && nat_lt (matching rules state) (length rules)

-- the state was never seen, and the rules say different things of it
unfoldable pub decides : List Rule → State → Bool
decides rules state = not (is_seen MESSAGES state) && tells_apart rules state

-- the first such state
abbrev pub deciding_state : List Rule → Option State
deciding_state rules = find (decides rules) STATES
