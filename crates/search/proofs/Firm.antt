-- What the near misses of a clear rule tell: whether a weaker condition leaves it clear. Assumes nothing.
use Rattle.std.proofs.Common.{◌≡◌, ℕ, zero, suc, ◌<◌, ◌≤◌, Bool, true, false, not, ◌&&◌, eqb, ◌≢◌, List, [], length, get_or, set, take, drop, Decides, sym, refl, ap, ◌∙◌, inl, inr, arith}
use Rattle.std.specs.List.{ContainsAt as Has, AllByRecursion, list_all}
use Rattle.std.proofs.ByRecursion.{All-get_or}
use Rattle.std.proofs.lemmas.List.{get_or-set_same, get_or-set_other, take-append-drop}
use Rattle.std.proofs.lemmas.List.Folds.{list_all-append}
use Rattle.std.proofs.lemmas.Bool.{cases_Bool, cases_eq, and_parts, and_from}
use Rattle.std.proofs.lemmas.Bool.Decides.{same_from_decides, Decides-and, Decides-not, Decides-like, Decides-below_and}
use Rattle.model.specs.Kinds.{Meaning, Laws}
use Rattle.model.specs.Optimal.{Matches}
use Rattle.model.specs.Rules.{each_below, matches}
use Rattle.model.specs.Sizes.{Size}
use Rattle.model.specs.Below.{each_below_same}
use Rattle.model.proofs.Passing.{all_decides}
use Rattle.model.proofs.Ties.{matches_decides}
use Rattle.model.proofs.Weakening.{at_each_set}
use Rattle.search.specs.Misses.{meets, Lone, Missed, Noted, spares, firm, firm_all}
use Rattle.search.specs.Opposing.{clear, tight}

-- each weaker condition of a rule on feature i lets a near miss in
abbrev pub firm_at : Meaning → List ℕ → List (List Bool) → List ℕ → ℕ → Bool
firm_at m ns near b i = firm m (get_or ns i 0) (get_or near i []) (get_or b i 0)

-- a test that gives another gives it below a bound
each_below_kept : (n : ℕ) (test other : ℕ → Bool) → each_below n test ≡ true → ((k : ℕ) → k < n → test k ≡ true → other k ≡ true) → each_below n other ≡ true
each_below_kept zero test other all gives = refl
each_below_kept (suc n) test other all gives =
    let parts = and_parts (test n) (each_below n test) all in
    and_from (other n) (each_below n other) (gives n (omega arith) parts.0) (each_below_kept n test other parts.1 (λ k h. gives k (omega arith)))

module _ (m : Meaning) (ns : List ℕ) (opposed : List (List ℕ)) where
  clear_decides : (b : List ℕ) → Decides (clear m ns opposed b) ((v : List ℕ) → Has opposed v → Matches m ns b v → ⊥)
  clear_decides b = all_decides (λ v. not (matches m ns b v)) (λ v. Matches m ns b v → ⊥) (λ v. Decides-not (matches m ns b v) (matches_decides m ns b v)) opposed

  module _ (laws : Laws m) (sized : AllByRecursion Size ns) (b : List ℕ) (long : length ns ≤ length b) (few : length ns ≤ 8) (clears : clear m ns opposed b ≡ true) (near : List (List Bool)) (noted : Noted m ns opposed b near) where
    -- a rule with one condition changed matches a near miss there exactly when the new condition holds of its value
    module _ (i c : ℕ) (within : i < length ns) where
      matches_missed : (x : ℕ) (v : List ℕ) → Missed m ns b i x v → m.holds (get_or ns i 0) c x ≡ true → Matches m ns (set b i c) v
      matches_missed x v miss holds j h =
          at_each_set (λ j c. m.holds (get_or ns j 0) c (get_or v j 0) ≡ true) b i c j (omega arith) (rw miss.1 holds) (miss.0.others j h)

      changed_other : (v : List ℕ) → Matches m ns (set b i c) v → (j : ℕ) → j < length ns → j ≢ i → meets m ns b v j ≡ true
      changed_other v hit j h ne = ap (λ (c : ℕ). m.holds (get_or ns j 0) c (get_or v j 0)) (sym (get_or-set_other b i j c 0 ne)) ∙ hit j h

      changed_here : (v : List ℕ) → Matches m ns (set b i c) v → m.holds (get_or ns i 0) c (get_or v i 0) ≡ true
      changed_here v hit = ap (λ (c : ℕ). m.holds (get_or ns i 0) c (get_or v i 0)) (sym (get_or-set_same b i c 0 (omega arith))) ∙ hit i within

      -- the rule itself matches no state against, so that its own condition keeps the state out
      lone_changed : (v : List ℕ) → Has opposed v → Matches m ns (set b i c) v → Lone m ns b v (length ns) i
      lone_changed v has hit =
          elim (cases_Bool (meets m ns b v i)) [
            | inl holds ↦ absurd ((clear_decides b).0 clears v has (λ j h. elim (cases_eq j i) [ inl e ↦ ap (meets m ns b v) e ∙ holds | inr ne ↦ changed_other v hit j h ne ]))
            | inr fails ↦ record { within = within; fails = fails; others = changed_other v hit }
          ]

      spares_clear : spares m (get_or ns i 0) (get_or near i []) c ≡ clear m ns opposed (set b i c)
      spares_clear =
          let held : ℕ → Bool = λ x. get_or (get_or near i []) x false && m.holds (get_or ns i 0) c x in
          same_from_decides (spares m (get_or ns i 0) (get_or near i []) c) (clear m ns opposed (set b i c))
          (Decides-like (spares m (get_or ns i 0) (get_or near i []) c)
          (λ none v has hit.
          let holds = changed_here v hit in
          let inside = laws.outside.holds_inside (get_or ns i 0) c (get_or v i 0) holds in
          let size = All-get_or Size ns i 0 within sized in
          let small : get_or v i 0 < 8 = omega (arith, inside.3, size.1) in
          none (get_or v i 0) small ((noted i (get_or v i 0) (omega arith) small).1 (v, has, (lone_changed v has hit, refl)), holds))
          (λ none x small both.
          let a = (noted i x (omega arith) small).0 both.0 in
          none a.0 a.1 (matches_missed x a.0 a.2 both.1))
          (Decides-below_and (λ x. not (held x)) (λ x. (get_or (get_or near i []) x false ≡ true) × (m.holds (get_or ns i 0) c x ≡ true) → ⊥) (λ n. each_below n (λ x. not (held x)))
          (λ x. Decides-not (held x) (Decides-and (get_or (get_or near i []) x false) (m.holds (get_or ns i 0) c x) (λ h. h, λ h. h) (λ h. h, λ h. h)))
          refl (λ _. refl) 8))
          (clear_decides (set b i c))

    -- the near misses tell whether a clear rule is tight
    pub firm_tight : each_below (length ns) (firm_at m ns near b) ≡ tight m ns opposed b
    firm_tight =
        each_below_same (length ns) _ _
        (λ i within. each_below_same (m.conditions (get_or ns i 0)) _ _
        (λ c _. ap (λ (t : Bool). not ((not (eqb c (get_or b i 0)) && m.weaker (get_or ns i 0) c (get_or b i 0)) && t)) (spares_clear i c within)))

-- the first states against tell already that a clear rule is tight, where their near misses do
module _ (m : Meaning) (ns : List ℕ) (opposed : List (List ℕ)) (n : ℕ) where
  clear_first : (b : List ℕ) → clear m ns opposed b ≡ true → clear m ns (take n opposed) b ≡ true
  clear_first b clears =
      let missed : List ℕ → Bool = λ v. not (matches m ns b v) in
      (and_parts (list_all missed (take n opposed)) (list_all missed (drop n opposed)) (sym (list_all-append missed (take n opposed) (drop n opposed)) ∙ ap (list_all missed) (take-append-drop n opposed) ∙ clears)).0

  still_not : (w t u : Bool) → (u ≡ true → t ≡ true) → not (w && t) ≡ true → not (w && u) ≡ true
  still_not false t u from none = refl
  still_not true t false from none = refl
  still_not true true true from none = none
  still_not true false true from none = from refl

  tight_first : (b : List ℕ) → tight m ns (take n opposed) b ≡ true → tight m ns opposed b ≡ true
  tight_first b first =
      each_below_kept (length ns) _ _ first
      (λ i _ here. each_below_kept (m.conditions (get_or ns i 0)) _ _ here
      (λ c _ none. still_not (not (eqb c (get_or b i 0)) && m.weaker (get_or ns i 0) c (get_or b i 0)) (clear m ns (take n opposed) (set b i c)) (clear m ns opposed (set b i c)) (clear_first (set b i c)) none))

  pub firm_first : Laws m → AllByRecursion Size ns → (b : List ℕ) → length ns ≤ length b → length ns ≤ 8 → clear m ns opposed b ≡ true → (near : List (List Bool)) → Noted m ns (take n opposed) b near → firm_all m ns near b ≡ true → tight m ns opposed b ≡ true
  firm_first laws sized b long few clears near noted firm = tight_first b (sym (firm_tight m ns (take n opposed) laws sized b long few (clear_first b clears) near noted) ∙ firm)
