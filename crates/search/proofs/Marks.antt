-- Marking one more state in a survey. Assumes nothing.
use Rattle.std.proofs.Common.{◌≡◌, ℕ, zero, suc, Bool, true, false, cond, ◌||◌, List, [], ◌∷◌, ◌++◌, length, get_or, set, Decides, sym, refl, ap, ◌∙◌, le_of_suc-le-suc, not-suc-le-zero, arith}
use Rattle.std.specs.Str.{bytes_eq}
use Rattle.std.proofs.lemmas.Slice.Eq.{bytes_eq-Decides}
use Rattle.std.proofs.lemmas.List.{set-get_or}
use Rattle.search.specs.Surveys.{Unseen, SeenAt, marked}
use Rattle.search.specs.declared.survey.Seen.{Seen}

-- what the checker reads beyond a survey's end
abbrev pub no_seen : Seen
no_seen = record { state = []; with_head = false }

decided_no : {P : Type 0} (b : Bool) → Decides b P → (P → ⊥) → b ≡ false
decided_no true d never = absurd (never (d.0 refl))
decided_no false d never = refl

other_state : (s : Seen) (v : List ℕ) → (s.state ≡ v → ⊥) → bytes_eq s.state v ≡ false
other_state s v never = decided_no (bytes_eq s.state v) (bytes_eq-Decides s.state v) never

-- the mark of a state that was not seen before
pub marked_none : (seen : List Seen) (v : List ℕ) (w : Bool) → Unseen seen v (length seen) → marked seen v w ≡ seen ++ record { state = v; with_head = w } ∷ []
marked_none [] v w none = refl
marked_none (s ∷ ss) v w none =
    ap (λ (t : Bool). cond t (record { state = s.state; with_head = s.with_head || w } ∷ ss) (s ∷ marked ss v w)) (other_state s v (none 0 s (omega arith)))
    ∙ ap (λ (xs : List Seen). s ∷ xs) (marked_none ss v w (λ k d h. none (suc k) d (omega arith)))

-- the mark of a state that was seen before
pub marked_at : (seen : List Seen) (v : List ℕ) (w : Bool) (i : ℕ) (d : Seen) → SeenAt seen v i
    → marked seen v w ≡ set seen i (record { state = (get_or seen i d).state; with_head = (get_or seen i d).with_head || w })
marked_at [] v w i d at = absurd (not-suc-le-zero at.within)
marked_at (s ∷ ss) v w zero d at =
    ap (λ (t : Bool). cond t (record { state = s.state; with_head = s.with_head || w } ∷ ss) (s ∷ marked ss v w)) ((bytes_eq-Decides s.state v).1 (at.here d))
marked_at (s ∷ ss) v w (suc i) d at =
    let later : SeenAt ss v i = record { within = le_of_suc-le-suc at.within; here = at.here; before = λ k e h. at.before (suc k) e (omega arith) } in
    ap (λ (t : Bool). cond t (record { state = s.state; with_head = s.with_head || w } ∷ ss) (s ∷ marked ss v w)) (other_state s v (at.before 0 s (omega arith)))
    ∙ ap (λ (xs : List Seen). s ∷ xs) (marked_at ss v w i d later)

or_true : (t : Bool) → (t || true) ≡ true
or_true true = refl
or_true false = refl

or_false : (t : Bool) → (t || false) ≡ t
or_false true = refl
or_false false = refl

-- with the head
pub marked_with : (seen : List Seen) (v : List ℕ) (i : ℕ) (old : Seen) → old ≡ get_or seen i old → SeenAt seen v i
    → set seen i (record { state = old.state; with_head = true }) ≡ marked seen v true
marked_with seen v i old read at =
    sym (marked_at seen v true i old at
    ∙ ap (λ (s : Seen). set seen i (record { state = s.state; with_head = s.with_head || true })) (sym read)
    ∙ ap (λ (t : Bool). set seen i (record { state = old.state; with_head = t })) (or_true old.with_head))

-- without the head, nothing changes
pub marked_without : (seen : List Seen) (v : List ℕ) (i : ℕ) (d : Seen) → SeenAt seen v i → seen ≡ marked seen v false
marked_without seen v i d at =
    sym (marked_at seen v false i d at
    ∙ ap (λ (t : Bool). set seen i (record { state = (get_or seen i d).state; with_head = t })) (or_false (get_or seen i d).with_head)
    ∙ set-get_or seen i d)
