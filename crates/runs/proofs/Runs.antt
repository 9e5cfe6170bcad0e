-- A run one call on. Assumes nothing.
use Rattle.std.proofs.Common.{◌≡◌, ℕ, ◌+◌, ◌-◌, ◌<◌, Bool, List, [], ◌∷◌, ◌++◌, map, length, get_or, take, set, refl, ap, ◌∙◌, arith}
use mathlib.Core.Path.{fun_ext}
use Rattle.std.specs.List.{flat_map}
use Rattle.std.proofs.Math.Seq.{map-set_same}
use Rattle.std.proofs.lemmas.List.{append-nil, append_assoc, flat_map_more, length-append, length-set, take_more_set}
use Rattle.book.specs.declared.book.Book.{Book}
use Rattle.model.specs.Kinds.{Meaning}
use Rattle.model.specs.declared.row.Row.{Row}
use Rattle.model.specs.declared.shape.Shape.{Shape}
use Rattle.runs.specs.Runs.{call_of, taken_in, Answered, Ran}
use Rattle.runs.specs.declared.entry.Entry.{Entry}

module _ (m : Meaning) (s : Shape) (admits : Row → Bool) where
  pub ran_push : (free : ℕ) (rows : List Row) (before between after : List ℕ) (es : List Entry) (e : Entry) → Ran m s admits free rows before es between
      → Answered m s admits (free - length (flat_map (taken_in s) es)) (rows ++ flat_map (taken_in s) es) between after e → Ran m s admits free rows before (es ++ e ∷ []) after
  ran_push free rows before between after [] e ran answered =
      let as_many : free - 0 ≡ free = omega arith in (after, rw (as_many, append-nil rows, ran) at answered, refl)
  ran_push free rows before between after (d ∷ es) e ran answered =
      let fewer : free - length (taken_in s d ++ flat_map (taken_in s) es) ≡ free - length (taken_in s d) - length (flat_map (taken_in s) es) =
      let l = length-append (taken_in s d) (flat_map (taken_in s) es) in omega arith in
      let there = rw (fewer, ← append_assoc rows (taken_in s d) (flat_map (taken_in s) es)) at answered in
      (ran.0, ran.1, ran_push (free - length (taken_in s d)) (rows ++ taken_in s d) ran.0 between after es e ran.2 there)

-- a run after its first i calls: the book, the entries and rule memory as they are, and as they were
pub record Running {K L : Type 0} (m : Meaning) (admits : L → Row → Bool) (free : L → ℕ) (rows : L → List Row) (book book₀ : Book K L) (es es₀ : List Entry) (i : ℕ) (memory memory₀ : List ℕ) : Type 0 where
  pub same_shape : book.shape ≡ book₀.shape
  pub calls : map call_of es ≡ map call_of es₀
  pub long : length es ≡ length es₀
  pub taken : rows book.log ≡ rows book₀.log ++ flat_map (taken_in book₀.shape) (take i es)
  pub left : free book.log ≡ free book₀.log - length (flat_map (taken_in book₀.shape) (take i es))
  pub admitted : (x : Row) → admits book.log x ≡ admits book₀.log x
  pub ran : Ran m book₀.shape (admits book₀.log) (free book₀.log) (rows book₀.log) memory₀ (take i es) memory

module _ {K L : Type 0} {m : Meaning} {admits : L → Row → Bool} {free : L → ℕ} {rows : L → List Row} {book book₀ : Book K L} {es es₀ : List Entry} {i : ℕ} {memory memory₀ : List ℕ}
    (so_far : Running m admits free rows book book₀ es es₀ i memory memory₀) where
  -- one more call
  pub running_more : {book' : Book K L} {memory' : List ℕ} (e d : Entry) → i < length es → book'.shape ≡ book.shape → call_of e ≡ call_of (get_or es i d)
      → rows book'.log ≡ rows book.log ++ taken_in book.shape e → free book'.log ≡ free book.log - length (taken_in book.shape e) → ((x : Row) → admits book'.log x ≡ admits book.log x)
      → Answered m book.shape (admits book.log) (free book.log) (rows book.log) memory memory' e → Running m admits free rows book' book₀ (set es i e) es₀ (i + 1) memory' memory₀
  running_more {memory'} e d within same call grown fewer kept answered =
      let taken : Entry → List Row = taken_in book₀.shape in
      let put = take_more_set es i e within in
      let answered₀ = rw (so_far.left, so_far.taken, fun_ext so_far.admitted, so_far.same_shape) at answered in
      record {
        same_shape = same ∙ so_far.same_shape;
        calls = map-set_same call_of es i e d call ∙ so_far.calls;
        long = length-set es i e ∙ so_far.long;
        taken = let next = flat_map_more taken (rows book₀.log) (take i es) e in cc;
        left =
            let l = ap length (flat_map_more taken [] (take i es) e) in
            let k = length-append (flat_map taken (take i es)) (taken e) in
            let h = ap (λ (s : Shape). length (taken_in s e)) so_far.same_shape in
            rw put (omega (arith, fewer, so_far.left));
        admitted = λ x. kept x ∙ so_far.admitted x;
        ran = rw put (ran_push m book₀.shape (admits book₀.log) (free book₀.log) (rows book₀.log) memory₀ memory memory' (take i es) e so_far.ran answered₀);
      }
