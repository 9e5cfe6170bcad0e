-- A listing over equal bytes is a listing over the image. Assumes nothing.
use Rattle.std.proofs.Common.{◌≡◌, ℕ, List, IsErrAnd, Ok, Err, Result, sym, subst, inr}
use Rattle.model.specs.Kinds.{Meaning}
use Rattle.model.specs.Wholes.{ListedWhole}
use Rattle.model.specs.declared.head.Head.{Head}
use Rattle.model.specs.declared.refusal.Refusal.{Refusal}
use Rattle.model.specs.declared.sense.Sense.{Sense}
use Rattle.model.specs.declared.shape.Shape.{Shape}
use Rattle.logs.specs.Images.{ImageOf}
use Rattle.logs.specs.Packed.{shown}
use Rattle.calls.specs.Called.{Called, ListedOver}
use Rattle.calls.specs.declared.trouble.Trouble.{Trouble}
use Rattle.calls.specs.declared.trouble.Trouble.TheVariants.{Refused}

module _ (m : Meaning) (image : List ℕ) (h : Head) (sense : Sense) (before after : List ℕ) where
  pub over_from_bytes : (r : Result ℕ Refusal) (s : Shape) (bytes : List ℕ) → ImageOf image s → bytes ≡ image → ListedWhole m s (shown bytes) h sense before after r → ListedOver m image h sense before after r
  over_from_bytes r s bytes image_of same listed = record {
    shape = s;
    image_of = image_of;
    listed = subst (λ u. ListedWhole m s (shown u) h sense before after r) same listed;
  }

  -- a listing that is refused, as the call's own answer
  pub called_from_refused : (e : Refusal) (r : Result ℕ Trouble) → IsErrAnd r (λ t. t ≡ Refused e) → ListedOver m image h sense before after (Err e) → Called m image h sense before after r
  called_from_refused e (Ok n) refused over = absurd refused
  called_from_refused e (Err t) refused over = subst (λ u. Called m image h sense before after (Err u)) (sym refused) (inr over)
