-- What a question leaves as it was. Assumes nothing.
use Rattle.std.specs.Prelude.{◌≡◌}
use Rattle.book.specs.declared.book.Book.{Book}

-- a book has the shape and the log that it had
pub record Keeps {K L : Type 0} (old new : Book K L) : Type 0 where
  pub shape : new.shape ≡ old.shape
  pub log : new.log ≡ old.log
