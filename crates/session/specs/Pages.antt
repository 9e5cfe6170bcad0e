-- What stands on a page. Assumes nothing.
use Rattle.std.specs.Prelude.{◌≡◌, ℕ, List}
use Rattle.session.specs.Reserveds.{items_of, places}
use Rattle.session.specs.Rooms.{page_room}
use Rattle.session.specs.declared.reserved.Reserved.{Reserved}

-- the text put on the page so far
abbrev pub text_of : Reserved ℕ page_room → List ℕ
text_of p = items_of p

-- how many bytes of the page are used
abbrev pub used : Reserved ℕ page_room → ℕ
used p = places p

-- nothing stands on the page
abbrev pub Blank : Reserved ℕ page_room → Type 0
Blank p = used p ≡ 0
