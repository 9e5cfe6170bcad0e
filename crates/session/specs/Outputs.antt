-- How a text is put into the output. Assumes nothing.
use Rattle.std.specs.Prelude.{◌≡◌, ℕ, ◌+◌, ◌≤◌, Bool, List, ◌++◌, length, take, drop, Result, MatchResult, nat_le}
use Rattle.model.specs.declared.refusal.Refusal.{Refusal}
use Rattle.model.specs.declared.refusal.Refusal.TheVariants.{Shape, Image, Observation, NotAdmitted, Full, Head, Bodies, Stray, Rules, State, Line, Output}
use Rattle.session.specs.declared.output.Done.{Done}

-- whether a text fits whole into the output, after the bytes written before
abbrev pub fits : List ℕ → ℕ → List ℕ → Bool
fits output written text = nat_le (written + length text) (length output)

-- the output with a text after the bytes written before, and all else the same
abbrev pub placed : List ℕ → ℕ → List ℕ → List ℕ
placed output written text = take written output ++ (text ++ drop (written + length text) output)

-- what a session answers where it wrote so many bytes: they lie within the output, and those after them stay
pub record Kept (before after : List ℕ) (written : ℕ) : Type 0 where
  pub within : written ≤ length before
  pub stays : drop written after ≡ drop written before

-- only an input that is too long, or an output that does not fit, is refused
abbrev pub RefusedRun : List ℕ → List ℕ → Refusal → Type 0
RefusedRun before after (Output written lines) = Kept before after written
RefusedRun before after Shape = ⊥
RefusedRun before after Image = ⊥
RefusedRun before after Observation = ⊥
RefusedRun before after NotAdmitted = ⊥
RefusedRun before after Full = ⊥
RefusedRun before after Head = ⊥
RefusedRun before after Bodies = ⊥
RefusedRun before after (Stray s) = ⊥
RefusedRun before after (Rules n) = ⊥
RefusedRun before after State = ⊥
RefusedRun before after Line = ⊥

-- what a session leaves in the output
abbrev pub Answered : List ℕ → List ℕ → Result Done Refusal → Type 0
Answered before after r = MatchResult r (λ d. Kept before after d.written) (RefusedRun before after)
