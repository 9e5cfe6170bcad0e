-- Lists of numbers in a text, field by field. Assumes nothing.
use Rattle.std.proofs.Common.{◌≡◌, ℕ, ◌<◌, List, [], ◌∷◌, ◌++◌, length, drop, decimal, sym, refl, ap, ◌∙◌, subst, append_assoc, append-nil, arith}
use Rattle.std.specs.List.{AllByRecursion}
use Rattle.std.proofs.lemmas.List.{take-append-drop, length-take-le}
use Rattle.std.proofs.ByRecursion.{All-push}
use Rattle.std.proofs.lemmas.Fmt.{decimal_injective, decimal_nonempty}
use Rattle.session.specs.Lines.{Small, Ends, Begins, NoNumber, Lists, fields}
use Rattle.session.proofs.Runs.{same_runs, decimal_digits}

-- Some fields are read, and what is left of the text is fields wherever the text is.
pub record Left (bytes ns left : List ℕ) : Type 0 where
  pub small : AllByRecursion Small ns
  pub read : bytes ≡ fields ns ++ left
  pub rest : (ms : List ℕ) → Lists bytes ms → (ks : List ℕ) × Lists left ks

-- fields do not begin with a digit
pub fields_end : (ns : List ℕ) → Ends (fields ns)
fields_end [] = tt
fields_end (n ∷ ns) = λ h. omega arith

-- one more field at the end
pub fields_push : (ns : List ℕ) (n : ℕ) → fields (ns ++ n ∷ []) ≡ fields ns ++ (32 ∷ decimal n)
fields_push [] n = ap (λ (xs : List ℕ). 32 ∷ xs) (append-nil (decimal n))
fields_push (k ∷ ns) n = ap (λ (xs : List ℕ). 32 ∷ (decimal k ++ xs)) (fields_push ns n) ∙ ap (λ (xs : List ℕ). 32 ∷ xs) (sym (append_assoc (decimal k) (fields ns) (32 ∷ decimal n)))

-- a text that is fields, and is not empty, begins with a space, and with a number after it
pub fields_first : (bytes : List ℕ) (first : ℕ) (more ks : List ℕ) → bytes ≡ first ∷ more → Lists bytes ks → (first ≡ 32) × ((n : ℕ) × (ms : List ℕ) × Small n × AllByRecursion Small ms × (more ≡ decimal n ++ fields ms))
fields_first bytes first more [] split lists = let e = lists.1 in cc
fields_first bytes first more (n ∷ ms) split lists = let e = lists.1 in (cc, (n, ms, lists.0.0, lists.0.1, cc))

-- so what is left is no fields where it begins with another byte
pub no_space : (bytes ns left : List ℕ) (first : ℕ) (more : List ℕ) → Left bytes ns left → left ≡ first ∷ more → (first ≡ 32 → ⊥) → (ms : List ℕ) → Lists bytes ms → ⊥
no_space bytes ns left first more is_left split other ms lists =
    let t = is_left.rest ms lists in
    other (fields_first left first more t.0 split t.1).0

-- nor where no number follows
pub no_field : (bytes ns left : List ℕ) (first : ℕ) (more : List ℕ) → Left bytes ns left → left ≡ first ∷ more → NoNumber more → (ms : List ℕ) → Lists bytes ms → ⊥
no_field bytes ns left first more is_left split none ms lists =
    let t = is_left.rest ms lists in
    let f = (fields_first left first more t.0 split t.1).1 in
    none f.0 (fields f.1) f.2 (fields_end f.1) f.4

-- a number has a digit
pub begins_some : (bytes : List ℕ) (n digits : ℕ) → Begins bytes n digits → 0 < digits
begins_some bytes n digits begins =
    let some = decimal_nonempty n (omega arith) in
    omega (arith, length-take-le digits bytes begins.1, ap length begins.2)

-- one more field is read
pub left_more : (bytes ns left : List ℕ) (first : ℕ) (field : List ℕ) (n digits : ℕ) (more : List ℕ) → more ≡ ns ++ n ∷ [] → Left bytes ns left → left ≡ first ∷ field → first ≡ 32 → Begins field n digits → Left bytes more (drop digits field)
left_more bytes ns left first field n digits more pushed is_left here space begins =
    let after = drop digits field in
    let split : field ≡ decimal n ++ after = sym (take-append-drop digits field) ∙ ap (λ (xs : List ℕ). xs ++ after) begins.2 in
    let push = fields_push ns n in
    let assoc = append_assoc (fields ns) (32 ∷ decimal n) after in
    let read = is_left.read in
    record {
      small = subst (AllByRecursion Small) (sym pushed) (All-push Small ns n is_left.small begins.0);
      read = cc;
      rest = λ ms lists.
          let t = is_left.rest ms lists in
          let f = (fields_first left first field t.0 here t.1).1 in
          let same = same_runs (decimal n) (decimal f.0) after (fields f.1) (decimal_digits n begins.0) (decimal_digits f.0 f.2) begins.3 (fields_end f.1) (sym split ∙ f.4) in
          (f.1, (f.3, same.1));
    }

-- the numbers of fields are the only ones
pub same_from_fields : (ns ms : List ℕ) → AllByRecursion Small ns → AllByRecursion Small ms → fields ns ≡ fields ms → ns ≡ ms
same_from_fields [] [] small small' e = refl
same_from_fields [] (m ∷ ms) small small' e = let z : ◌≡◌ {A = ℕ} 0 1 = cc in absurd (omega arith)
same_from_fields (n ∷ ns) [] small small' e = let z : ◌≡◌ {A = ℕ} 0 1 = cc in absurd (omega arith)
same_from_fields (n ∷ ns) (m ∷ ms) small small' e =
    let tail : decimal n ++ fields ns ≡ decimal m ++ fields ms = cc in
    let t = same_runs (decimal n) (decimal m) (fields ns) (fields ms) (decimal_digits n small.0) (decimal_digits m small'.0) (fields_end ns) (fields_end ms) tail in
    let same = decimal_injective n m (omega arith) (omega arith) t.0 in
    let rest = same_from_fields ns ms small.1 small'.1 t.1 in cc

-- fewer than two numbers are no pair
pub no_pair : (bytes ns : List ℕ) → Lists bytes ns → length ns < 2 → (a b : ℕ) (ms : List ℕ) → Lists bytes (a ∷ b ∷ ms) → ⊥
no_pair bytes ns lists few a b ms pair =
    let same = same_from_fields ns (a ∷ b ∷ ms) lists.0 pair.0 (sym lists.1 ∙ pair.1) in
    omega (arith, ap length same)
