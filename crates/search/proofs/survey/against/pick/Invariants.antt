use Rattle.std.proofs.Common.{◌≡◌, ◌+◌, ◌≤◌, ◌++◌, take, vec_items, vec_len, vec_capacity}
use Rattle.search.specs.Opposing.{states_against}
use Rattle.search.proofs.survey.against.pick.Given as goal

-- the states against so far are picked out
abbrev pub invariant-seen : goal.invariant-seen
invariant-seen l =
    (vec_len l.opposed ≤ vec_len l.initial.opposed + l.s-index)
    × (vec_capacity l.opposed ≡ vec_capacity l.initial.opposed)
    × (vec_items l.opposed ≡ vec_items l.initial.opposed ++ states_against l.sense (take l.s-index l.seen))
