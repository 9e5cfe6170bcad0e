-- What the exchange's states, rules and troubles print. Assumes nothing.
use Rattle.std.specs.Prelude.{ℕ, Bool, true, false, List, [], ◌++◌, length, Option, Some, None, codes, decimal, if◌then◌else◌}
use Rattle.std.specs.List.{flat_map}
use Rattle.exchange.specs.Messages.{is_seen}
use Rattle.exchange.specs.declared.forecasts.Forecast.{Forecast}
use Rattle.exchange.specs.declared.messages.State.{State}
use Rattle.exchange.specs.declared.messages.TheConstants.{MESSAGES}
use Rattle.exchange.specs.declared.rule.Rule.{Rule}
use Rattle.exchange.specs.declared.trouble.Trouble.{Trouble}
use Rattle.exchange.specs.declared.trouble.Trouble.TheVariants.{Memory, Refused}

abbrev pub state_text : State → List ℕ
state_text s = (if s.busy then codes "a busy" else codes "an idle") ++ (codes " supplier, a sequence that has " ++ ((if s.wrapped then codes "just" else codes "not") ++ codes " wrapped"))

-- what is asked of the supplier
abbrev pub busy_text : Option Bool → List ℕ
busy_text (Some true) = codes " the supplier is busy"
busy_text (Some false) = codes " the supplier is idle"
busy_text None = []

-- what is asked of the sequence
abbrev pub wrapped_text : Option Bool → List ℕ
wrapped_text (Some true) = codes " the sequence has just wrapped to zero"
wrapped_text (Some false) = codes " the sequence has not wrapped"
wrapped_text None = []

abbrev pub rule_text : Rule → List ℕ
rule_text r = busy_text r.busy ++ wrapped_text r.wrapped

-- a forecast: all or nothing for a state that was seen, and what speaks for and against at one that never was
abbrev pub forecast_text : Forecast → List ℕ
forecast_text f =
    if is_seen MESSAGES f.state
    then (codes "Seen: " ++ (state_text f.state ++ (codes ". Discarded: " ++ (decimal f.percentage ++ codes " percent."))))
    else (codes "Never seen: " ++ (state_text f.state ++ (codes ". Discarded: " ++ (decimal f.pro ++ (codes " for, " ++ (decimal f.contra ++ (codes " against, " ++ (decimal f.percentage ++ codes " percent."))))))))

-- a line that says when an invoice is discarded
abbrev pub rule_line : Rule → List ℕ
rule_line r = codes "  It discards an invoice if" ++ (rule_text r ++ codes ".\n")

-- a line for each rule, and how many there are
abbrev pub listing_text : List Rule → List ℕ
listing_text rules = flat_map rule_line rules ++ (decimal (length rules) ++ codes " rules agree with every message, and none of them can be weakened.")

-- the state that would tell the rules apart, or that there is none
abbrev pub decision_text : Option State → List ℕ
decision_text (Some s) = codes "One more observation would tell the rules apart: " ++ (state_text s ++ codes ".")
decision_text None = codes "No single observation would tell the rules apart."

abbrev pub trouble_text : Trouble → List ℕ
trouble_text Memory = codes "no memory for the book"
trouble_text (Refused e) = codes "the book refused a call"
