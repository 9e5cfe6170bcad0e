use Rattle.std.proofs.Common.{ℕ, ◌+◌, ◌-◌, List, [], ap, ◌∙◌, subst, arith, rules}
use Rattle.search.specs.Walks.{to_find, places}
use Rattle.search.specs.declared.rules.Rules.{Rules}
use Rattle.search.proofs.Writes.{Writing, room_left, writing_none, writing_more, writing_all}
use Rattle.search.proofs.bodies.Bodies.write.Goals as goal

pub rules-init : goal.rules-init
rules-init g c =
    let m = g.K.Kind.meaning in
    let ahead : Rules g.row.K.Denot g.K.Kind → List (List ℕ) = λ w. to_find m w.bodies.now.sizes.now w.opposed.now w.next in (
      tt,
      tt,
      writing_none (places m c.args.self.now.sizes.now c.args.opposed.now) (ahead c.into_iter-rule-iterator.result) c.args.rules.now
          (ap ahead c.into_iter-rule-iterator.ensures.into_iter_gives ∙ c.rules-rule-items.ensures),
    )

pub overflow_add-at : goal.overflow_add-at
overflow_add-at g c = let room = room_left _ _ _ _ _ _ _ c.in-Some.ensures.steps c.rules.invariant.2 c.requires c.rules.auto.rules in search rules

pub slice_bounds-copy_from_slice-end : goal.slice_bounds-copy_from_slice-end
slice_bounds-copy_from_slice-end g c = let room = room_left _ _ _ _ _ _ _ c.in-Some.ensures.steps c.rules.invariant.2 c.requires c.rules.auto.rules in search rules

pub rules-preserved : goal.rules-preserved
rules-preserved g c =
    let at = c.rules.at in (
      tt,
      tt,
      rw c.copy_from_slice.ensures.after
          (writing_more _ _ _ _ _ _ _ c.in-Some.ensures.steps c.rules.invariant.2 c.requires c.rules.auto.rules (at + 8 - at) (omega arith) (search rules)),
    )

pub returns : goal.returns
returns g c =
    let all = places g.K.Kind.meaning c.args.self.now.sizes.now c.args.opposed.now in
    let done : Writing all [] c.args.rules.now c.rules.rules c.rules.at =
    subst (λ (ps : List (List ℕ)). Writing all ps c.args.rules.now c.rules.rules c.rules.at) c.in-None.ensures.steps.0 c.rules.invariant.2 in
    writing_all all c.args.rules.now c.rules.rules c.rules.at done
