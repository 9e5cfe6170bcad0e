-- The weights of rules, and the forecast of a head at a state. Assumes nothing.
use Rattle.std.specs.Prelude.{ℕ, max, cond, ◌&&◌, List, [], ◌∷◌, map, Some, None, count_by, filter, Option}
use Rattle.std.specs.Option.{unwrap_or}
use Rattle.std.specs.Str.{bytes_eq}
use Rattle.model.specs.Forecasts.{percentage}
use Rattle.model.specs.Kinds.{Meaning}
use Rattle.model.specs.Listings.{some_passes, against, listing}
use Rattle.model.specs.Observations.{Observation}
use Rattle.model.specs.Rules.{matches}
use Rattle.model.specs.declared.sense.Sense.{Sense}
use Rattle.model.specs.declared.sense.Sense.TheVariants.{Can, Cannot}

-- the different states of a list
abbrev pub different : List (List ℕ) → List (List ℕ)
different [] = []
different (s ∷ ss) = cond (some_passes (bytes_eq s) ss) (different ss) (s ∷ different ss)

-- the greatest of some numbers, if there are any
abbrev pub greatest : List ℕ → Option ℕ
greatest [] = None
greatest (n ∷ ns) = Some (max n (unwrap_or (greatest ns) 0))

-- the other sense: what is against a rule of one sense is on the own side of a rule of the other
abbrev pub opposite : Sense → Sense
opposite Can = Cannot
opposite Cannot = Can

module _ (m : Meaning) (ns : List ℕ) (os : List Observation) (target value : ℕ) where
  module _ (sense : Sense) where
    -- how many different states a rule matches on its own side: can: shown with the head; cannot: shown, never with it
    abbrev pub weight : List ℕ → ℕ
    weight b = count_by (λ s. against os target value (opposite sense) s && matches m ns b s) (different (map (λ o. o.state) os))

    -- the largest weight among the rules of the listing that match a state, or none
    abbrev pub best_weight : List ℕ → Option ℕ
    best_weight s = greatest (map weight (filter (λ b. matches m ns b s) (listing m ns os target value sense)))

  -- for, against and their percentage, where no weight counts as 0
  abbrev pub forecast : List ℕ → ℕ × ℕ × ℕ
  forecast s = let pro = unwrap_or (best_weight Can s) 0 in let contra = unwrap_or (best_weight Cannot s) 0 in (pro, contra, percentage pro contra)
