-- What a list in reserved memory holds. Assumes nothing.
use Rattle.std.specs.Prelude.{ℕ, List, vec_items, vec_len}
use Rattle.session.specs.declared.reserved.Reserved.{Reserved}

module _ {T : Type 0} {ROOM : ℕ} where
  -- its elements, in their order
  abbrev pub items_of : Reserved T ROOM → List T
  items_of r = vec_items r.items

  -- how many places they take
  abbrev pub places : Reserved T ROOM → ℕ
  places r = vec_len r.items
