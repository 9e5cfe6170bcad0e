-- What a call answers in numbers. Assumes nothing.
use Rattle.std.specs.Prelude.{◌≡◌, ℕ, List, Ok, Err, Result}
use Rattle.model.specs.Kinds.{Meaning}
use Rattle.model.specs.Numbers.{number_of}
use Rattle.model.specs.declared.head.Head.{Head}
use Rattle.model.specs.declared.refusal.Refusal.{Refusal}
use Rattle.model.specs.declared.refusal.Refusal.TheVariants.{Shape, Image, Observation, NotAdmitted, Full, Head as refused_head, Bodies, Stray, Rules, State, Line, Output}
use Rattle.model.specs.declared.sense.Sense.{Sense}
use Rattle.calls.specs.Called.{Called}
use Rattle.calls.specs.declared.answer.Answer.{Answer}
use Rattle.calls.specs.declared.trouble.Trouble.{Trouble}
use Rattle.calls.specs.declared.trouble.Trouble.TheVariants.{Memory, Refused}

-- how many rules a refusal tells of
abbrev pub told_by : Refusal → ℕ
told_by (Rules n) = n
told_by Shape = 0
told_by Image = 0
told_by Observation = 0
told_by NotAdmitted = 0
told_by Full = 0
told_by refused_head = 0
told_by Bodies = 0
told_by (Stray s) = 0
told_by State = 0
told_by Line = 0
told_by (Output written lines) = 0

-- a refusal in numbers
abbrev pub refused : Refusal → Answer
refused e = record { rules = told_by e; refusal = number_of e }

-- a listing in numbers: 0 for no refusal, 255 for want of memory
abbrev pub answer_of : Result ℕ Trouble → Answer
answer_of (Ok n) = record { rules = n; refusal = 0 }
answer_of (Err Memory) = record { rules = 0; refusal = 255 }
answer_of (Err (Refused e)) = refused e

-- the answer of a listing over the bytes of an image, in numbers
pub record Answered (m : Meaning) (image : List ℕ) (h : Head) (sense : Sense) (before after : List ℕ) (a : Answer) : Type 0 where
  pub result : Result ℕ Trouble
  pub called : Called m image h sense before after result
  pub numbers : a ≡ answer_of result
