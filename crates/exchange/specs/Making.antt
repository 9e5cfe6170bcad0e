-- A new book for the exchange's messages. Assumes nothing.
use Rattle.std.specs.Prelude.{◌≡◌, ℕ, List, [], ◌∷◌}
use Rattle.model.specs.Shapes.{features, targets}
use Rattle.model.specs.declared.shape.Shape.{Shape}
use Rattle.logs.specs.Packed.{shown, free_in}

-- two features and a target, of two values each; no message is noted, and there are places for 254
abbrev pub New : Shape → List ℕ → Type 0
New s bytes = (features s ≡ 2 ∷ (2 ∷ [])) × (targets s ≡ 2 ∷ []) × (shown bytes ≡ []) × (free_in bytes ≡ 254)
