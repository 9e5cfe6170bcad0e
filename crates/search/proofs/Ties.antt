-- What a search computes over a survey is what the definitions say of the observations. Assumes nothing.
use Rattle.std.proofs.Common.{◌≡◌, ℕ, ◌<◌, ◌≤◌, Bool, true, false, not, List, map, length, None, Decides, filter, sym, refl, ap, ◌∙◌, subst}
use mathlib.Core.Path.{fun_ext}
use Rattle.std.specs.List.{ContainsAt as Has, AllByRecursion}
use Rattle.std.proofs.lemmas.List.{length-map}
use Rattle.std.proofs.lemmas.List.Sums.{length-filter}
use Rattle.std.proofs.lemmas.Bool.Decides.{same_from_decides, Decides-at, Decides-and, Decides-not, Decides-like}
use Rattle.model.specs.Bodies.{bodies}
use Rattle.model.specs.Kinds.{Meaning, Laws}
use Rattle.model.specs.Listings.{consistent, listing}
use Rattle.model.specs.Observations.{Observation, observations}
use Rattle.model.specs.Optimal.{Taken, Matches, Against}
use Rattle.model.specs.Rows.{Twelve}
use Rattle.model.specs.Rules.{matches}
use Rattle.model.specs.Sets.{Supporters}
use Rattle.model.specs.Shapes.{features, targets}
use Rattle.model.specs.Weights.{greatest, opposite, weight, best_weight}
use Rattle.model.specs.declared.row.Row.{Row}
use Rattle.model.specs.declared.sense.Sense.{Sense}
use Rattle.model.specs.declared.sense.Sense.TheVariants.{Can, Cannot}
use Rattle.model.specs.declared.shape.Shape.{Shape}
use Rattle.model.proofs.Greatest.{greatest_folded}
use Rattle.model.proofs.Local.{listing_tight}
use Rattle.model.proofs.Members.{has_map, has_kept, kept_has}
use Rattle.model.proofs.Passing.{all_decides}
use Rattle.model.proofs.Ties.{matches_decides, consistent_decides, shown_from_against}
use Rattle.model.proofs.Weighing.{weighs}
use Rattle.search.specs.Opposing.{states_against, clear, best}
use Rattle.search.specs.Surveys.{against, surveyed}
use Rattle.search.specs.Weights.{counts, heaviest, weight as seen_weight}
use Rattle.search.specs.declared.survey.Seen.{Seen}
use Rattle.search.proofs.Padding.{matches_front}
use Rattle.search.proofs.Shows.{front, once_surveyed, front_same, seen_from_shown, against_seen, among_map, once_images}

not_not : (t : Bool) → not (not t) ≡ t
not_not true = refl
not_not false = refl

-- a state is on a rule's own side exactly when it is against the opposite sense
beside : (sense : Sense) (e : Seen) → not (against sense e) ≡ against (opposite sense) e
beside Can e = not_not e.with_head
beside Cannot e = refl

module _ (m : Meaning) (s : Shape) (t v : ℕ) (rows : List Row) (few : length (features s) ≤ 8) (twelve : AllByRecursion Twelve rows) (known : t < length (targets s)) where
  abbrev ns : List ℕ
  ns = features s

  abbrev seen : List Seen
  seen = surveyed s t v rows

  abbrev os : List Observation
  os = observations s rows

  -- a rule matches an entry exactly when it matches the entry's state
  matches_seen : (b : List ℕ) (e : Seen) → Decides (matches m ns b e.state) (Matches m ns b (front s t v rows e))
  matches_seen b e =
      Decides-at (matches m ns b e.state) (matches m ns b (front s t v rows e)) (matches_front m ns b e.state (front s t v rows e) refl)
      (matches_decides m ns b (front s t v rows e))

  module _ (sense : Sense) where
    -- the states against are those of the entries against
    pub clear_consistent : (b : List ℕ) → clear m ns (states_against sense seen) b ≡ consistent m ns os t v sense b
    clear_consistent b =
        same_from_decides (clear m ns (states_against sense seen) b) (consistent m ns os t v sense b)
        (Decides-like (clear m ns (states_against sense seen) b)
        (λ none st opposed hit.
        let e = seen_from_shown s t v rows few twelve known st (shown_from_against os t v sense st opposed) in
        let kept = has_kept (against sense) seen e.0 e.1 ((against_seen s t v rows few twelve known sense e.0 e.1).1 (subst (Against os t v sense) (sym e.2) opposed)) in
        none e.0.state (has_map (λ e. e.state) (filter (against sense) seen) e.0 kept) ((matches_seen b e.0).1 (subst (Matches m ns b) (sym e.2) hit)))
        (λ sound st has hit.
        let e = among_map (λ e. e.state) (filter (against sense) seen) st has in
        let kept = kept_has (against sense) seen e.0 e.1 in
        sound (front s t v rows e.0) ((against_seen s t v rows few twelve known sense e.0 kept.0).0 kept.1) ((matches_seen b e.0).0 (ap (matches m ns b) e.2 ∙ hit)))
        (all_decides (λ st. not (matches m ns b st)) (λ st. matches m ns b st ≡ true → ⊥) (λ st. Decides-not (matches m ns b st) (λ h. h, λ h. h)) (states_against sense seen)))
        (consistent_decides m ns os t v sense b)

    -- the states that a rule's weight counts
    abbrev supporting : List ℕ → List (List ℕ)
    supporting b = map (front s t v rows) (filter (counts m ns sense b) seen)

    counts_decides : (b : List ℕ) (e : Seen) → Has seen e → Decides (counts m ns sense b e) (Against os t v (opposite sense) (front s t v rows e) × Matches m ns b (front s t v rows e))
    counts_decides b e has =
        Decides-and (not (against sense e)) (matches m ns b e.state)
        (Decides-at (not (against sense e)) (against (opposite sense) e) (beside sense e) (against_seen s t v rows few twelve known (opposite sense) e has))
        (matches_seen b e)

    supporters : (b : List ℕ) → Supporters m ns os t v sense b (supporting b)
    supporters b = record {
      once = once_images (λ e. e.state) (front s t v rows) seen (counts m ns sense b) (front_same s t v rows few twelve known) (once_surveyed s t v rows);
      sound = λ st h.
          let e = among_map (front s t v rows) (filter (counts m ns sense b) seen) st h in
          let kept = kept_has (counts m ns sense b) seen e.0 e.1 in
          subst (λ (x : List ℕ). Against os t v (opposite sense) x × Matches m ns b x) e.2 ((counts_decides b e.0 kept.0).0 kept.1);
      whole = λ st both.
          let e = seen_from_shown s t v rows few twelve known st (shown_from_against os t v (opposite sense) st both.0) in
          subst (Has (supporting b)) e.2
          (has_map (front s t v rows) (filter (counts m ns sense b) seen) e.0
          (has_kept (counts m ns sense b) seen e.0 e.1
          ((counts_decides b e.0 e.1).1 (subst (λ (x : List ℕ). Against os t v (opposite sense) x × Matches m ns b x) (sym e.2) both))));
    }

    pub weight_same : (b : List ℕ) → seen_weight m ns sense seen b ≡ weight m ns os t v sense b
    weight_same b =
        sym ((weighs m ns os t v sense b).each (supporting b) (supporters b)
        ∙ length-map (filter (counts m ns sense b) seen) (front s t v rows)
        ∙ length-filter (counts m ns sense b) seen)

    module _ (laws : Laws m) (taken : Taken m ns) where
      pub found_listing : filter (best m ns (states_against sense seen)) (bodies m ns) ≡ listing m ns os t v sense
      found_listing = listing_tight m laws ns taken os t v sense (clear m ns (states_against sense seen)) clear_consistent

      pub heaviest_best : (st : List ℕ) → heaviest m ns sense seen st None (filter (best m ns (states_against sense seen)) (bodies m ns)) ≡ best_weight m ns os t v sense st
      heaviest_best st =
          greatest_folded (λ b. matches m ns b st) (seen_weight m ns sense seen) (filter (best m ns (states_against sense seen)) (bodies m ns))
          ∙ ap (λ (w : List ℕ → ℕ). greatest (map w (filter (λ b. matches m ns b st) (filter (best m ns (states_against sense seen)) (bodies m ns))))) (fun_ext weight_same)
          ∙ ap (λ (rules : List (List ℕ)). greatest (map (weight m ns os t v sense) (filter (λ b. matches m ns b st) rules))) found_listing
