-- From the places that the search fills to the listing of a shape's rows. Assumes nothing.
use Rattle.std.proofs.Common.{◌≡◌, ℕ, ◌*◌, ◌≤◌, List, [], ◌∷◌, ◌++◌, map, length, take, drop, replicate, None, sym, refl, ap, ◌∙◌, subst}
use Rattle.std.specs.List.{flat_map}
use Rattle.std.proofs.ByRecursion.{all_kept_by, All-weaker}
use Rattle.std.proofs.lemmas.List.{length-map}
use Rattle.model.specs.Bodies.{Body, bodies}
use Rattle.model.specs.Kinds.{Meaning, Laws}
use Rattle.model.specs.Limits.{Listable}
use Rattle.model.specs.Memory.{place, filled}
use Rattle.model.specs.Shapes.{features}
use Rattle.model.specs.Sizes.{Lawful}
use Rattle.model.specs.declared.head.Head.{Head}
use Rattle.model.specs.declared.row.Row.{Row}
use Rattle.model.specs.declared.sense.Sense.{Sense}
use Rattle.model.specs.declared.shape.Shape.{Shape}
use Rattle.model.proofs.Bodies.{bodies_are, length_body}
use Rattle.search.specs.Found.{found, best_matching}
use Rattle.search.specs.Opposing.{states_against, best}
use Rattle.search.specs.Surveys.{surveyed}
use Rattle.search.specs.Walks.{places}
use Rattle.search.specs.Weights.{heaviest}
use Rattle.search.specs.declared.survey.Seen.{Seen}
use Rattle.search.proofs.Counts.{body_bare, length_bodies}
use Rattle.search.proofs.Padding.{heaviest_place}

joined_map : (rules : List (List ℕ)) → flat_map {X = List ℕ} (λ p. p) (map place rules) ≡ flat_map place rules
joined_map [] = refl
joined_map (r ∷ rules) = ap (λ (xs : List ℕ). place r ++ xs) (joined_map rules)

module _ (m : Meaning) (laws : Laws m) (ns : List ℕ) (lawful : Lawful 8 ns) (listable : Listable m ns) where
  pub listable_bare : Body m ns (replicate (length ns) 0)
  listable_bare = body_bare m laws ns lawful.2 listable.0

  pub listable_bound : length (bodies m ns) ≤ 1000000
  listable_bound = subst (λ (n : ℕ). n ≤ 1000000) (sym (length_bodies m ns)) listable.1

-- the places that a search fills, by the sizes and the states against that it was given
pub places_are : (m : Meaning) (s : Shape) (rows : List Row) (h : Head) (sense : Sense) (ns : List ℕ) (seen : List Seen) (opposed : List (List ℕ)) → ns ≡ features s → seen ≡ surveyed s h.target h.value rows → opposed ≡ states_against sense seen
    → places m ns opposed ≡ map place (found m s rows h sense)
places_are m s rows h sense ns seen opposed sizes survey told =
    ap (λ (n : List ℕ). places m n opposed) sizes ∙ ap (places m (features s)) (told ∙ ap (states_against sense) survey)

module _ (rules ps : List (List ℕ)) (same : ps ≡ map place rules) where
  pub length_places : length ps ≡ length rules
  length_places = ap length same ∙ length-map rules place

  pub filled_places : (memory : List ℕ) → flat_map {X = List ℕ} (λ p. p) ps ++ drop (8 * length ps) memory ≡ filled rules memory
  filled_places memory =
      ap (λ (xs : List ℕ). xs ++ drop (8 * length ps) memory) (ap (flat_map {X = List ℕ} (λ p. p)) same ∙ joined_map rules)
      ∙ ap (λ (n : ℕ). flat_map place rules ++ drop (8 * n) memory) length_places

-- the best weight among the places that a search fills is that of what it finds
pub best_places : (m : Meaning) (s : Shape) (rows : List Row) (h : Head) (sense : Sense) (w state : List ℕ) → take (length (features s)) w ≡ state
    → heaviest m (features s) sense (surveyed s h.target h.value rows) w None (places m (features s) (states_against sense (surveyed s h.target h.value rows))) ≡ best_matching m s rows h sense state
best_places m s rows h sense w state front =
    heaviest_place m (features s) sense (surveyed s h.target h.value rows) w state front (found m s rows h sense)
    (all_kept_by (best m (features s) (states_against sense (surveyed s h.target h.value rows))) (λ b. length b ≡ length (features s)) (bodies m (features s)) (All-weaker (Body m (features s)) (λ b. length b ≡ length (features s)) (length_body m (features s)) (bodies m (features s)) (bodies_are m (features s)))) None
