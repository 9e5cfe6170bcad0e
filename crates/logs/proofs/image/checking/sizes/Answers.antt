use Rattle.std.proofs.Common.{◌+◌, ◌<◌, ◌≤◌, length, get_or, take, drop, sym, ◌∙◌, arith, rules}
use Rattle.std.proofs.lemmas.List.{ext_get_or, get_or-take, get_or-drop, length-take-le, length-drop}
use Rattle.model.proofs.Made.{made}
use Rattle.logs.proofs.image.checking.sizes.Goals as goal

pub returns : goal.returns
returns c =
    let b = c.args.bytes.now in
    let at = c.args.at in
    let read = c.from_fn.result in
    let rest : 8 ≤ length (drop at b) = simp length-drop (omega arith) in
    let long = length-take-le 8 (drop at b) rest in
    ext_get_or 0 read (take 8 (drop at b)) (c.from_fn.ensures.items.long ∙ sym long)
    (λ k h.
    let below : k < 8 = omega (arith, c.from_fn.ensures.items.long) in
    made _ _ (λ i. get_or b (at + i) 0) (λ i y q call. search rules) read 8 k c.from_fn.ensures.items below ∙ sym (get_or-take 8 (drop at b) k 0 below ∙ get_or-drop at b k 0))
