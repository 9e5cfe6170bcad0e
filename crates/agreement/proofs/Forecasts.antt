-- Forecasts from rows that give the same answers are the same. Assumes nothing.
use Rattle.std.proofs.Common.{◌≡◌, ℕ, ◌⊎◌, List, Ok, Err, Result, sym, refl, ap, ◌∙◌, inl, inr, arith}
use Rattle.model.specs.Forecasts.{RefusedForecast}
use Rattle.model.specs.Foretold.{Foretold}
use Rattle.model.specs.Heads.{KnownHead}
use Rattle.model.specs.Kinds.{Meaning}
use Rattle.model.specs.Limits.{Listable}
use Rattle.model.specs.Shapes.{features}
use Rattle.model.specs.Strays.{FirstStray}
use Rattle.model.specs.Values.{Fitting}
use Rattle.model.specs.declared.head.Head.{Head}
use Rattle.model.specs.declared.refusal.Refusal.{Refusal}
use Rattle.model.specs.declared.refusal.Refusal.TheVariants.{Head as refused_head, Bodies, Stray as refused_stray, State}
use Rattle.model.specs.declared.refusal.Stray.{Stray}
use Rattle.model.specs.declared.row.Row.{Row}
use Rattle.model.specs.declared.shape.Shape.{Shape}
use Rattle.agreement.proofs.Agreements.{SameAnswers}
use Rattle.agreement.proofs.Strays.{no_stray}

module _ (m : Meaning) (s : Shape) (h : Head) (state : List ℕ) where
  -- a forecast is refused whatever the rows are
  abbrev Unfit : Refusal → Type 0
  Unfit e =
      ((e ≡ refused_head) × (KnownHead s h → ⊥))
      ⊎ (((e ≡ State) × KnownHead s h × (Fitting (features s) state → ⊥))
      ⊎ ((e ≡ Bodies) × KnownHead s h × Fitting (features s) state × (Listable m (features s) → ⊥)))

  -- or for a stray cell
  abbrev Why : List Row → Refusal → Type 0
  Why rows e = Unfit e ⊎ ((f : Stray) × (e ≡ refused_stray f) × KnownHead s h × Fitting (features s) state × Listable m (features s) × FirstStray s rows f)

  why : (rows : List Row) (e : Refusal) → RefusedForecast m s rows h state e → Why rows e
  why rows refused_head r = inl (inl (refl, r))
  why rows State r = inl (inr (inl (refl, r.0, r.1)))
  why rows Bodies r = inl (inr (inr (refl, r.0, r.1, r.2)))
  why rows (refused_stray f) r = inr (f, refl, r.0, r.1, r.2, r.3)
  why rows _ r = absurd r

  unfit_once : (e e' : Refusal) → Unfit e → Unfit e' → e ≡ e'
  unfit_once e e' a b = grind arith

  fit : (e : Refusal) → Unfit e → KnownHead s h → Fitting (features s) state → Listable m (features s) → ⊥
  fit e a known fits listable = grind arith

  module _ (rows rows' : List Row) (same : SameAnswers m s rows rows') where
    same_refusal : (e e' : Refusal) → Why rows e → Why rows' e' → e ≡ e'
    same_refusal e e' (inl a) (inl b) = unfit_once e e' a b
    same_refusal e e' (inl a) (inr b) = absurd (fit e a b.2 b.3 b.4)
    same_refusal e e' (inr a) (inl b) = absurd (fit e' b a.2 a.3 a.4)
    same_refusal e e' (inr a) (inr b) = a.1 ∙ ap refused_stray (same.strays a.0 b.0 a.5 b.5) ∙ sym b.1

    not_refused : (answer : ℕ × ℕ × ℕ) (e : Refusal) → Foretold m s rows h state (Ok answer) → Why rows' e → ⊥
    not_refused answer e l (inl b) = fit e b l.0 l.1 l.2
    not_refused answer e l (inr b) = no_stray s rows' b.0 b.5 (same.onward l.3)

    not_forecast : (answer : ℕ × ℕ × ℕ) (e : Refusal) → Why rows e → Foretold m s rows' h state (Ok answer) → ⊥
    not_forecast answer e (inl a) l = fit e a l.0 l.1 l.2
    not_forecast answer e (inr a) l = no_stray s rows a.0 a.5 (same.back l.3)

    pub forecasted_same : (r r' : Result (ℕ × ℕ × ℕ) Refusal) → Foretold m s rows h state r → Foretold m s rows' h state r' → r ≡ r'
    forecasted_same (Ok a) (Ok a') l l' = ap Ok (l.4 ∙ same.weights h state ∙ sym l'.4)
    forecasted_same (Ok a) (Err e') l l' = absurd (not_refused a e' l (why rows' e' l'))
    forecasted_same (Err e) (Ok a') l l' = absurd (not_forecast a' e (why rows e l) l')
    forecasted_same (Err e) (Err e') l l' = ap Err (same_refusal e e' (why rows e l) (why rows' e' l'))
