-- Reading back from rule memory what a listing wrote there. Assumes nothing.
use Rattle.std.proofs.Common.{◌≡◌, ℕ, ◌-◌, ◌*◌, ◌≤◌, List, [], ◌∷◌, ◌++◌, length, take, drop, replicate, Ok, Err, Result, sym, refl, ap, ◌∙◌, subst, arith}
use Rattle.std.specs.List.{ContainsAt as Has, flat_map, AllByRecursion}
use Rattle.std.proofs.ByRecursion.{all_kept_by, All-weaker}
use Rattle.std.proofs.lemmas.List.{append_assoc, take_at, drop_at, length-append, length-replicate}
use Rattle.model.specs.Bodies.{Body, bodies}
use Rattle.model.specs.Exactly.{Exactly}
use Rattle.model.specs.Kinds.{Meaning, Laws}
use Rattle.model.specs.Wholes.{rules_of, ListedWhole, Whole, Programmed}
use Rattle.model.specs.Listings.{optimal, listing}
use Rattle.model.specs.Memory.{place, written}
use Rattle.model.specs.Observations.{Observation, observations}
use Rattle.model.specs.Rows.{Twelve}
use Rattle.model.specs.Shapes.{features, targets}
use Rattle.model.specs.Sizes.{Size}
use Rattle.model.specs.declared.head.Head.{Head}
use Rattle.model.specs.declared.refusal.Refusal.{Refusal}
use Rattle.model.specs.declared.row.Row.{Row}
use Rattle.model.specs.declared.sense.Sense.{Sense}
use Rattle.model.specs.declared.shape.Shape.{Shape}
use Rattle.model.proofs.Bodies.{bodies_are, length_body}
use Rattle.model.proofs.Fits.{few_features, sized_targets, taken_features, states_fit, outcomes_fit}
use Rattle.model.proofs.Optima.{rivals_have}
use Rattle.model.proofs.Programs.{optimal_program}
use Rattle.model.proofs.Rising.{rising_bodies, rising_kept, once_rising}
use Rattle.model.proofs.Ties.{has_listing, listing_has}

pub place_long : (b : List ℕ) → length b ≤ 8 → length (place b) ≡ 8
place_long b few = omega (arith, length-append b (replicate (8 - length b) 0), length-replicate {A = ℕ} (8 - length b) 0)

pub written_joined : (k : ℕ) (rules : List (List ℕ)) (rest : List ℕ) → k ≤ 8 → AllByRecursion (λ b. length b ≡ k) rules → written k (length rules) (flat_map place rules ++ rest) ≡ rules
written_joined k [] rest few long = refl
written_joined k (b ∷ rules) rest few long =
    let zeros : List ℕ = replicate (8 - length b) 0 in
    let others : List ℕ = flat_map place rules ++ rest in
    let memory : List ℕ = (place b ++ flat_map place rules) ++ rest in
    let apart : memory ≡ place b ++ others = append_assoc (place b) (flat_map place rules) rest in
    let front : take k memory ≡ b = ap (take k) (apart ∙ append_assoc b zeros others) ∙ take_at b (zeros ++ others) k long.0 in
    let eight : length (place b) ≡ 8 = place_long b (omega (arith, long.0)) in
    let back : drop 8 memory ≡ others = ap (drop 8) apart ∙ drop_at (place b) others 8 eight in
    ap (λ (c : List ℕ). c ∷ written k (length rules) (drop 8 memory)) front
    ∙ ap (λ (bs : List (List ℕ)). b ∷ bs) (ap (written k (length rules)) back ∙ written_joined k rules rest few long.1)

module _ (m : Meaning) (ns : List ℕ) (os : List Observation) (target value : ℕ) (sense : Sense) where
  pub length_rules : AllByRecursion (λ b. length b ≡ length ns) (listing m ns os target value sense)
  length_rules = all_kept_by (optimal m ns os target value sense) (λ b. length b ≡ length ns) (bodies m ns) (All-weaker (Body m ns) (λ b. length b ≡ length ns) (length_body m ns) (bodies m ns) (bodies_are m ns))

  pub exactly : Exactly m ns os target value sense (listing m ns os target value sense)
  exactly =
      let up = rising_kept (optimal m ns os target value sense) (bodies m ns) (rising_bodies m ns) in
      record {
        sound = listing_has m ns os target value sense;
        whole = has_listing m ns os target value sense;
        once = once_rising (listing m ns os target value sense) up;
        rising = up;
      }

module _ (m : Meaning) (s : Shape) (rows : List Row) (h : Head) (sense : Sense) (before after : List ℕ) where
  -- the rules that are read back are those of the listing
  read_back : (n : ℕ) → ListedWhole m s rows h sense before after (Ok n) → written (length (features s)) n after ≡ rules_of m s rows h sense
  read_back n listed =
      let rules : List (List ℕ) = rules_of m s rows h sense in
      ap (λ (k : ℕ). written (length (features s)) k after) listed.3
      ∙ ap (written (length (features s)) (length rules)) listed.5
      ∙ written_joined (length (features s)) rules (drop (8 * length rules) before) (few_features s) (length_rules m (features s) (observations s rows) h.target h.value sense)

  -- what a listing wrote is whole
  pub whole_listed : (r : Result ℕ Refusal) → ListedWhole m s rows h sense before after r → Whole m s rows h sense after r
  whole_listed (Err e) listed = tt
  whole_listed (Ok n) listed =
      let os : List Observation = observations s rows in
      let same = read_back n listed in (
        subst (Exactly m (features s) os h.target h.value sense) (sym same) (exactly m (features s) os h.target h.value sense),
        λ rivals are. subst (AllByRecursion (Has rivals)) (sym same) (rivals_have m (features s) os h.target h.value sense rivals are),
      )

  -- what the can listings of all heads write is the optimal program
  pub programmed_listed : Laws m → AllByRecursion Twelve rows → (r : Result ℕ Refusal) → ListedWhole m s rows h sense before after r → Programmed m s rows h sense after r
  programmed_listed laws twelve (Err e) listed = tt
  programmed_listed laws twelve (Ok n) listed = (
    optimal_program m laws (features s) (targets s) (taken_features m s listed.1) (All-weaker Size (λ k. 1 ≤ k) (λ k size. omega (arith, size.0)) (targets s) (sized_targets s))
        (observations s rows) (states_fit s rows twelve listed.2) (outcomes_fit s rows twelve listed.2),
    λ can. read_back n listed ∙ ap (rules_of m s rows h) can,
  )
