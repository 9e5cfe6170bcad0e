-- The lines of a session: the text of a number, of a list and of each form. Assumes nothing.
use Rattle.std.specs.Prelude.{◌≡◌, ℕ, ◌≤◌, List, [], ◌∷◌, ◌++◌, length, take, drop, codes, decimal, ◌≢◌}
use Rattle.std.specs.Str.Parse.{digits_value as value, AllDigits}
use Rattle.std.specs.Char.{IsAsciiDigit}
use Rattle.std.specs.List.{AllByRecursion}
use Rattle.model.specs.declared.sense.Sense.{Sense}
use Rattle.model.specs.declared.sense.Sense.TheVariants.{Can, Cannot}

-- a number that a line may have
abbrev pub Small : ℕ → Type 0
Small n = n ≤ 65535

-- a list of numbers, each after a space
abbrev pub fields : List ℕ → List ℕ
fields [] = []
fields (n ∷ ns) = codes " " ++ (decimal n ++ fields ns)

-- the bytes are a list of numbers, none too large
abbrev pub Lists : List ℕ → List ℕ → Type 0
Lists bytes ns = AllByRecursion Small ns × (bytes ≡ fields ns)

-- a text is no longer than a session takes
abbrev pub Short : List ℕ → Type 0
Short bytes = length bytes ≤ 65536

-- the bytes are no such list; longer texts than a session takes are not spoken of
abbrev pub NoList : List ℕ → Type 0
NoList bytes = Short bytes → (ns : List ℕ) → Lists bytes ns → ⊥

-- the bytes are no list of two numbers and more
abbrev pub NoPair : List ℕ → Type 0
NoPair bytes = Short bytes → (a b : ℕ) (ns : List ℕ) → Lists bytes (a ∷ b ∷ ns) → ⊥

-- the sign of a sense: can, or cannot
abbrev pub sign_of : Sense → ℕ
sign_of Can = 43
sign_of Cannot = 45

-- the bytes are a text, a space and the sign of a sense
abbrev pub Signed : List ℕ → List ℕ → Sense → Type 0
Signed bytes front sense = bytes ≡ front ++ (codes " " ++ sign_of sense ∷ [])

-- the bytes do not end so
abbrev pub NoSign : List ℕ → Type 0
NoSign bytes = (front : List ℕ) (sense : Sense) → Signed bytes front sense → ⊥

-- the bytes are a target, a value and the sign of a sense
abbrev pub Asks : List ℕ → ℕ → ℕ → Sense → Type 0
Asks bytes target value sense = AllByRecursion Small (target ∷ value ∷ []) × Signed bytes (fields (target ∷ value ∷ [])) sense

-- the bytes are nothing of the kind
abbrev pub NoAsk : List ℕ → Type 0
NoAsk bytes = Short bytes → (target value : ℕ) (sense : Sense) → Asks bytes target value sense → ⊥

-- what a line says: sizes; class, day and cells; a head and a sense; a head and a state
pub data Line : Type 0 where
  features : List ℕ → Line
  targets : List ℕ → Line
  note : ℕ → ℕ → List ℕ → Line
  listing : ℕ → ℕ → Sense → Line
  forecast : ℕ → ℕ → List ℕ → Line

-- the text of a line
abbrev pub text : Line → List ℕ
text (features sizes) = codes "F" ++ fields sizes
text (targets sizes) = codes "T" ++ fields sizes
text (note class day cells) = codes "N" ++ fields (class ∷ day ∷ cells)
text (listing target value sense) = codes "L" ++ (fields (target ∷ value ∷ []) ++ (codes " " ++ sign_of sense ∷ []))
text (forecast target value state) = codes "P" ++ fields (target ∷ value ∷ state)

-- the numbers of a line
abbrev pub numbers : Line → List ℕ
numbers (features sizes) = sizes
numbers (targets sizes) = sizes
numbers (note class day cells) = class ∷ day ∷ cells
numbers (listing target value sense) = target ∷ value ∷ []
numbers (forecast target value state) = target ∷ value ∷ state

-- the bytes are the text of a line, and its numbers are not too large
abbrev pub Says : List ℕ → Line → Type 0
Says bytes line = AllByRecursion Small (numbers line) × (bytes ≡ text line)

-- the bytes are the text of no line; longer lines than a session takes are not spoken of
abbrev pub NoLine : List ℕ → Type 0
NoLine bytes = Short bytes → (line : Line) → Says bytes line → ⊥

-- a text that does not begin with a digit
abbrev pub Ends : List ℕ → Type 0
Ends [] = Unit {0}
Ends (c ∷ cs) = IsAsciiDigit c → ⊥

-- a text begins with so many digits and no more, and n is the number that they write
abbrev pub Runs : List ℕ → ℕ → ℕ → Type 0
Runs bytes n digits = Small n × (digits ≤ length bytes) × (n ≡ value 10 (take digits bytes)) × AllDigits 10 (take digits bytes) × Ends (drop digits bytes)

-- a text begins with a number, of which the first bytes are all digits there
abbrev pub Begins : List ℕ → ℕ → ℕ → Type 0
Begins bytes n digits = Small n × (digits ≤ length bytes) × (take digits bytes ≡ decimal n) × Ends (drop digits bytes)

-- a text begins with no number
abbrev pub NoNumber : List ℕ → Type 0
NoNumber bytes = (n : ℕ) (rest : List ℕ) → Small n → Ends rest → bytes ≢ decimal n ++ rest
