-- The texts that a line prints. Assumes nothing.
use Rattle.std.specs.Prelude.{ℕ, zero, suc, ◌+◌, List, [], ◌∷◌, ◌++◌, codes, decimal}
use Rattle.model.specs.declared.sense.Sense.{Sense}
use Rattle.model.specs.declared.sense.Sense.TheVariants.{Can, Cannot}

-- what every line ends with
abbrev pub line_feed : List ℕ
line_feed = 10 ∷ []

-- the mark between a target and a value: the head can be, or cannot be
abbrev pub mark : Sense → List ℕ
mark Can = codes "="
mark Cannot = codes "!"

-- a feature's condition: none at code 0, and equality with v at code 1 + v
abbrev pub condition : ℕ → ℕ → List ℕ
condition feature zero = []
condition feature (suc value) = codes " " ++ (decimal feature ++ (codes "=" ++ decimal value))

-- the conditions of a body, from a feature on
abbrev pub conditions : ℕ → List ℕ → List ℕ
conditions feature [] = []
conditions feature (code ∷ body) = condition feature code ++ conditions (feature + 1) body

-- a listed rule, as `0=1 1=1`: its head, then each feature with a condition
abbrev pub rule_text : ℕ → Sense → ℕ → List ℕ → List ℕ
rule_text target sense value body = decimal target ++ (mark sense ++ (decimal value ++ (conditions 0 body ++ line_feed)))

-- how many rules were listed, as `2 rules`
abbrev pub count_text : ℕ → List ℕ
count_text rules = decimal rules ++ (codes " rules" ++ line_feed)

-- a forecast, as `1 1 50`: the weights for and against, and the percentage
abbrev pub forecast_text : ℕ → ℕ → ℕ → List ℕ
forecast_text pro contra percentage = decimal pro ++ (codes " " ++ (decimal contra ++ (codes " " ++ (decimal percentage ++ line_feed))))

-- a refusal, as `! 4`
abbrev pub refusal_text : ℕ → List ℕ
refusal_text number = codes "! " ++ (decimal number ++ line_feed)
