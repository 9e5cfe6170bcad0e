-- Rules read from their places in rule memory. Assumes nothing.
use Rattle.std.proofs.Common.{◌≡◌, ℕ, zero, suc, ◌-◌, ◌*◌, ◌≤◌, List, [], ◌∷◌, ◌++◌, length, map, take, drop, replicate, get_or, Ok, refl, ap, ◌∙◌, arith}
use Rattle.std.specs.List.{flat_map, AllByRecursion}
use Rattle.std.specs.Simd.{first_chunks}
use Rattle.std.proofs.ByRecursion.{All-weaker}
use Rattle.std.proofs.lemmas.List.{append_assoc, take_at, drop_at}
use Rattle.model.specs.Exact.{exact}
use Rattle.model.specs.Memory.{place}
use Rattle.model.specs.Observations.{observations}
use Rattle.model.specs.Shapes.{features}
use Rattle.model.specs.Wholes.{rules_of, ListedWhole}
use Rattle.model.specs.declared.row.Row.{Row}
use Rattle.model.specs.declared.sense.Sense.TheVariants.{Can}
use Rattle.model.specs.declared.shape.Shape.{Shape}
use Rattle.model.proofs.Fits.{few_features}
use Rattle.model.proofs.Written.{place_long, length_rules}
use Rattle.exchange.specs.Answers.{rules_for_discard}
use Rattle.exchange.specs.Rules.{asked_by, rule_of}
use Rattle.exchange.specs.declared.messages.TheConstants.{DISCARDED}
use Rattle.exchange.specs.declared.rule.Rule.{Rule}

get_or-zeros : (n i : ℕ) → ◌≡◌ {A = ℕ} (get_or (replicate n 0) i 0) 0
get_or-zeros zero i = refl
get_or-zeros (suc n) zero = refl
get_or-zeros (suc n) (suc i) = get_or-zeros n i

get_or-padded : (b : List ℕ) (n i : ℕ) → ◌≡◌ {A = ℕ} (get_or (b ++ replicate n 0) i 0) (get_or b i 0)
get_or-padded [] n i = get_or-zeros n i
get_or-padded (x ∷ b) n zero = refl
get_or-padded (x ∷ b) n (suc i) = get_or-padded b n i

-- a rule reads the same from its place
rule_of-place : (b : List ℕ) → rule_of (place b) ≡ rule_of b
rule_of-place b =
    let made : ℕ → ℕ → Rule = λ busy wrapped. record { busy = asked_by busy; wrapped = asked_by wrapped } in
    ap (λ (code : ℕ). made code (get_or (place b) 1 0)) (get_or-padded b (8 - length b) 0) ∙ ap (λ (code : ℕ). made (get_or b 0 0) code) (get_or-padded b (8 - length b) 1)

-- the rules at the front of the places are read
rules_at_front : (rules : List (List ℕ)) (rest : List ℕ) (n : ℕ) → length rules ≤ n → AllByRecursion (λ b. length b ≤ 8) rules → map rule_of (take (length rules) (first_chunks 8 n (flat_map place rules ++ rest))) ≡ map rule_of rules
rules_at_front [] rest n few long = refl
rules_at_front (b ∷ rules) rest zero few long = absurd (omega arith)
rules_at_front (b ∷ rules) rest (suc n) few long =
    let read : List ℕ → List Rule = λ memory. map rule_of (take (length rules) (first_chunks 8 n memory)) in
    let others : List ℕ = flat_map place rules ++ rest in
    let memory : List ℕ = (place b ++ flat_map place rules) ++ rest in
    let apart : memory ≡ place b ++ others = append_assoc (place b) (flat_map place rules) rest in
    let eight : length (place b) ≡ 8 = place_long b long.0 in
    let front : take 8 memory ≡ place b = ap (take 8) apart ∙ take_at (place b) others 8 eight in
    let back : drop 8 memory ≡ others = ap (drop 8) apart ∙ drop_at (place b) others 8 eight in
    ap (λ (r : Rule). r ∷ read (drop 8 memory)) (ap rule_of front ∙ rule_of-place b)
    ∙ ap (λ (rs : List Rule). rule_of b ∷ rs) (ap read back ∙ rules_at_front rules rest n (omega arith) long.1)

module _ (s : Shape) (rows : List Row) (before after : List ℕ) where
  -- what a listing into 64 bytes wrote there is read
  pub rules_read : (n : ℕ) → length before ≡ 64 → ListedWhole exact s rows DISCARDED Can before after (Ok n) → map rule_of (take n (first_chunks 8 8 after)) ≡ rules_for_discard s rows
  rules_read n size listed =
      let rules : List (List ℕ) = rules_of exact s rows DISCARDED Can in
      let short : AllByRecursion (λ b. length b ≤ 8) rules = All-weaker (λ b. length b ≡ length (features s)) (λ b. length b ≤ 8) (λ b e. omega (arith, few_features s)) rules (length_rules exact (features s) (observations s rows) 0 1 Can) in
      ap (λ (k : ℕ). map rule_of (take k (first_chunks 8 8 after))) listed.3
      ∙ ap (λ (memory : List ℕ). map rule_of (take (length rules) (first_chunks 8 8 memory))) listed.5
      ∙ rules_at_front rules (drop (8 * length rules) before) 8 (omega (arith, listed.4)) short
