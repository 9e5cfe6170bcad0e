-- Listings from rows that give the same answers come to the same. Assumes nothing.
use Rattle.std.proofs.Common.{◌≡◌, ℕ, ◌*◌, ◌<◌, ◌⊎◌, List, length, take, Ok, Err, Result, sym, refl, ap, ◌∙◌, inl, inr, arith}
use Rattle.std.specs.List.{AllByRecursion}
use Rattle.model.specs.Heads.{KnownHead}
use Rattle.model.specs.Kinds.{Meaning}
use Rattle.model.specs.Limits.{Listable}
use Rattle.model.specs.Listed.{RefusedList}
use Rattle.model.specs.Wholes.{rules_of, ListedWhole}
use Rattle.model.specs.Shapes.{features}
use Rattle.model.specs.Strays.{LawfulRow, FirstStray}
use Rattle.model.specs.declared.head.Head.{Head}
use Rattle.model.specs.declared.refusal.Refusal.{Refusal}
use Rattle.model.specs.declared.refusal.Refusal.TheVariants.{Head as refused_head, Bodies, Stray as refused_stray, Rules}
use Rattle.model.specs.declared.refusal.Stray.{Stray}
use Rattle.model.specs.declared.row.Row.{Row}
use Rattle.model.specs.declared.sense.Sense.{Sense}
use Rattle.model.specs.declared.shape.Shape.{Shape}
use Rattle.agreement.specs.Alike.{SameListing}
use Rattle.agreement.proofs.Agreements.{SameAnswers}
use Rattle.agreement.proofs.Fronts.{front_filled}
use Rattle.agreement.proofs.Strays.{no_stray}

module _ (m : Meaning) (s : Shape) (h : Head) (sense : Sense) where
  -- a listing is refused whatever the rows are
  abbrev Unfit : Refusal → Type 0
  Unfit e = ((e ≡ refused_head) × (KnownHead s h → ⊥)) ⊎ ((e ≡ Bodies) × KnownHead s h × (Listable m (features s) → ⊥))

  -- or for a stray cell, or for want of room
  abbrev Why : List Row → List ℕ → Refusal → Type 0
  Why rows memory e =
      Unfit e
      ⊎ (((f : Stray) × (e ≡ refused_stray f) × KnownHead s h × Listable m (features s) × FirstStray s rows f)
      ⊎ ((e ≡ Rules (length (rules_of m s rows h sense))) × KnownHead s h × Listable m (features s) × AllByRecursion (LawfulRow s) rows × (length memory < 8 * length (rules_of m s rows h sense))))

  why : (rows : List Row) (memory : List ℕ) (e : Refusal) → RefusedList m s rows h (rules_of m s rows h sense) memory e → Why rows memory e
  why rows memory refused_head r = inl (inl (refl, r))
  why rows memory Bodies r = inl (inr (refl, r.0, r.1))
  why rows memory (refused_stray f) r = inr (inl (f, refl, r.0, r.1, r.2))
  why rows memory (Rules n) r = inr (inr (ap Rules r.3, r.0, r.1, r.2, r.4))
  why rows memory _ r = absurd r

  unfit_once : (e e' : Refusal) → Unfit e → Unfit e' → e ≡ e'
  unfit_once e e' a b = grind arith

  fit : (e : Refusal) → Unfit e → KnownHead s h → Listable m (features s) → ⊥
  fit e a known listable = grind arith

  module _ (rows rows' : List Row) (same : SameAnswers m s rows rows') (before before' : List ℕ) (long : length before ≡ length before') where
    same_refusal : (e e' : Refusal) → Why rows before e → Why rows' before' e' → e ≡ e'
    same_refusal e e' (inl a) (inl b) = unfit_once e e' a b
    same_refusal e e' (inl a) (inr (inl b)) = absurd (fit e a b.2 b.3)
    same_refusal e e' (inl a) (inr (inr b)) = absurd (fit e a b.1 b.2)
    same_refusal e e' (inr (inl a)) (inl b) = absurd (fit e' b a.2 a.3)
    same_refusal e e' (inr (inr a)) (inl b) = absurd (fit e' b a.1 a.2)
    same_refusal e e' (inr (inl a)) (inr (inl b)) = a.1 ∙ ap refused_stray (same.strays a.0 b.0 a.4 b.4) ∙ sym b.1
    same_refusal e e' (inr (inl a)) (inr (inr b)) = absurd (no_stray s rows a.0 a.4 (same.back b.3))
    same_refusal e e' (inr (inr a)) (inr (inl b)) = absurd (no_stray s rows' b.0 b.4 (same.onward a.3))
    same_refusal e e' (inr (inr a)) (inr (inr b)) = a.0 ∙ ap (λ (rules : List (List ℕ)). Rules (length rules)) (same.rules h sense) ∙ sym b.0

    not_refused : (after : List ℕ) (n : ℕ) (e : Refusal) → ListedWhole m s rows h sense before after (Ok n) → Why rows' before' e → ⊥
    not_refused after n e l (inl b) = fit e b l.0 l.1
    not_refused after n e l (inr (inl b)) = no_stray s rows' b.0 b.4 (same.onward l.2)
    not_refused after n e l (inr (inr b)) = omega (arith, l.4, b.4, ap length (same.rules h sense))

    not_listed : (after' : List ℕ) (n : ℕ) (e : Refusal) → Why rows before e → ListedWhole m s rows' h sense before' after' (Ok n) → ⊥
    not_listed after' n e (inl a) l = fit e a l.0 l.1
    not_listed after' n e (inr (inl a)) l = no_stray s rows a.0 a.4 (same.back l.2)
    not_listed after' n e (inr (inr a)) l = omega (arith, l.4, a.4, ap length (same.rules h sense))

    -- so the answers are the same, and so are the rules in memory
    pub listed_same : (after after' : List ℕ) (r r' : Result ℕ Refusal) → ListedWhole m s rows h sense before after r → ListedWhole m s rows' h sense before' after' r' → SameListing r r' after after'
    listed_same after after' (Ok n) (Ok n') l l' =
        let rules : List (List ℕ) = rules_of m s rows h sense in
        let many : length rules ≡ length (rules_of m s rows' h sense) = ap length (same.rules h sense) in
        let fronts : take (8 * length rules) after ≡ take (8 * length rules) after' = cc (l.5, l'.5, front_filled rules before, front_filled (rules_of m s rows' h sense) before', same.rules h sense) in
        (ap Ok (l.3 ∙ many ∙ sym l'.3), λ k at. cc (l.3, fronts))
    listed_same after after' (Ok n) (Err e') l l' = absurd (not_refused after n e' l (why rows' before' e' l'.1))
    listed_same after after' (Err e) (Ok n') l l' = absurd (not_listed after' n' e (why rows before e l.1) l')
    listed_same after after' (Err e) (Err e') l l' =
        (ap Err (same_refusal e e' (why rows before e l.1) (why rows' before' e' l'.1)), λ k at. cc)
