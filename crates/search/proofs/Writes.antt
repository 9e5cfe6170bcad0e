-- Writing rules one after another to the front of rule memory. Assumes nothing.
use Rattle.std.proofs.Common.{◌≡◌, ℕ, ◌+◌, ◌*◌, ◌≤◌, List, [], ◌∷◌, ◌++◌, length, take, drop, sym, refl, ap, ◌∙◌, arith}
use borrow.Rule.Slice.PartMut.{put_mid}
use Rattle.std.specs.List.{flat_map}
use Rattle.std.proofs.lemmas.List.{append_assoc, append-nil, take-append-drop, drop-drop}
use Rattle.std.proofs.lemmas.Slice.{take-put_mid, drop-put_mid}

-- rules one after another
abbrev pub row : List (List ℕ) → List ℕ
row ps = flat_map (λ p. p) ps

-- out holds the rules before `ahead` up to `at`, and its old bytes after
pub record Writing (all ahead : List (List ℕ)) (old out : List ℕ) (at : ℕ) : Type 0 where
  pub count : at + 8 * length ahead ≡ 8 * length all
  pub front : take at out ++ row ahead ≡ row all
  pub after : drop at out ≡ drop at old

-- one rule more; k is 8, as the checker reads `[at..at + 8]`
module _ (all before ahead : List (List ℕ)) (old out p : List ℕ) (at : ℕ) (step : before ≡ p ∷ ahead) (so_far : Writing all before old out at) (room : 8 * length all ≤ length old) (same : length out ≡ length old) where
  -- there is room for it
  pub room_left : at + 8 ≤ length out
  room_left = let n = so_far.count in let m = ap length step in omega arith

  pub writing_more : (k : ℕ) → k ≡ 8 → length p ≡ 8 → Writing all ahead old (put_mid at k out p) (at + 8)
  writing_more k eight long =
      let fits : at + 8 ≤ length out = room_left in
      let less = ap length step in
      let c = so_far.count in
      record {
        count = omega arith;
        front = ap (λ (xs : List ℕ). xs ++ row ahead) (take-put_mid at k out p (at + 8) (omega arith) (omega arith)) ∙ append_assoc (take at out) p (row ahead) ∙ ap (λ (ps : List (List ℕ)). take at out ++ row ps) (sym step) ∙ so_far.front;
        after = drop-put_mid at k out p (at + 8) (omega arith) (omega arith) (omega arith)
            ∙ sym (drop-drop 8 at out)
            ∙ ap (drop 8) so_far.after
            ∙ drop-drop 8 at old;
      }

pub writing_none : (all ahead : List (List ℕ)) (old : List ℕ) → ahead ≡ all → Writing all ahead old old 0
writing_none all ahead old whole = record { count = let same = ap length whole in omega arith; front = ap row whole; after = refl }

pub writing_all : (all : List (List ℕ)) (old out : List ℕ) (at : ℕ) → Writing all [] old out at → out ≡ row all ++ drop (8 * length all) old
writing_all all old out at done =
    let end : at ≡ 8 * length all = let c = done.count in omega arith in
    sym (take-append-drop at out)
    ∙ ap (λ (xs : List ℕ). xs ++ drop at out) (sym (append-nil (take at out)) ∙ done.front)
    ∙ ap (λ (xs : List ℕ). row all ++ xs) (done.after ∙ ap (λ (n : ℕ). drop n old) end)
