-- The states of the exchange's messages. Assumes nothing.
use Rattle.std.specs.Prelude.{ℕ, Bool, List, [], ◌∷◌}
use Rattle.std.specs.Int.{from_bool}
use Rattle.std.specs.List.{list_any, starts_with}
use Rattle.std.specs.Prelude.{nat_eq}
use Rattle.exchange.specs.declared.messages.State.{State}

-- a state in a book's numbers: 1 for yes and 0 for no
abbrev pub values_of : State → List ℕ
values_of s = from_bool s.busy ∷ (from_bool s.wrapped ∷ [])

-- some message had the state
abbrev pub is_seen : List (List ℕ) → State → Bool
is_seen messages s = list_any (λ m. starts_with nat_eq m (values_of s)) messages
