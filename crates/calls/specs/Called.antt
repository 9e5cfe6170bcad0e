-- What a listing over the bytes of an image answers. Assumes nothing.
use Rattle.std.specs.Prelude.{◌≡◌, ℕ, Bool, cond, ◌⊎◌, List, Ok, Err, Result}
use Rattle.model.specs.Kinds.{Meaning}
use Rattle.model.specs.Wholes.{ListedWhole}
use Rattle.model.specs.declared.head.Head.{Head}
use Rattle.model.specs.declared.refusal.Refusal.{Refusal}
use Rattle.model.specs.declared.refusal.Refusal.TheVariants.{Image}
use Rattle.model.specs.declared.sense.Sense.{Sense}
use Rattle.model.specs.declared.sense.Sense.TheVariants.{Can, Cannot}
use Rattle.model.specs.declared.shape.Shape.{Shape}
use Rattle.logs.specs.Images.{ImageOf}
use Rattle.logs.specs.Packed.{shown}
use Rattle.calls.specs.declared.trouble.Trouble.{Trouble}
use Rattle.calls.specs.declared.trouble.Trouble.TheVariants.{Memory, Refused}

abbrev pub head_of : ℕ → ℕ → Head
head_of t v = record { target = t; value = v }

abbrev pub sense_of : Bool → Sense
sense_of cannot = cond cannot Cannot Can

module _ (m : Meaning) (image : List ℕ) (h : Head) (sense : Sense) (before after : List ℕ) where
  -- the bytes are an image, and the rows that it shows are listed
  pub record ListedOver (r : Result ℕ Refusal) : Type 0 where
    pub shape : Shape
    pub image_of : ImageOf image shape
    pub listed : ListedWhole m shape (shown image) h sense before after r

  -- the bytes are no image, and rule memory is as it was
  pub record NoImage (e : Refusal) : Type 0 where
    pub refused : e ≡ Image
    pub none : (s : Shape) → ImageOf image s → ⊥
    pub same : after ≡ before

  -- want of memory changes nothing; else the bytes are no image, or its rows are listed or refused
  abbrev pub Called : Result ℕ Trouble → Type 0
  Called (Ok n) = ListedOver (Ok n)
  Called (Err Memory) = after ≡ before
  Called (Err (Refused e)) = NoImage e ⊎ ListedOver (Err e)
