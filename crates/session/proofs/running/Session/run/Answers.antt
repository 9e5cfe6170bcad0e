use Rattle.std.proofs.Common.{◌≡◌, ℕ, ◌+◌, ◌≤◌, Bool, cond, length, drop, sym, ap, ◌∙◌, arith}
use Rattle.std.proofs.lemmas.Bool.{leb-true}
use Rattle.std.proofs.lemmas.List.{length-append}
use Rattle.session.specs.Outputs.{fits, placed}
use Rattle.session.specs.Pages.{text_of}
use Rattle.session.proofs.Emits.{emitted, length_placed, drop_placed}
use Rattle.session.proofs.running.Session.run.Goals as goal

pub lines-preserved : goal.lines-preserved
lines-preserved c =
    let before = c.args.output.now in
    let out = c.lines.output in
    let text = text_of c.answer.new.self.page in
    let w = c.lines.done.written in
    let steps = c.in-Some.ensures.steps in
    let some = emitted (fits out w text) _ _ _ c.emit.result c.emit.ensures.value c.in_ok-done.was in
    let written : c.in_ok-done.done.written ≡ w + length text = ap (λ d. d.written) some.1 in
    let after : c.emit.new.output ≡ placed out w text = c.emit.ensures.after ∙ ap (λ (b : Bool). cond b (placed out w text) out) some.0 in
    let long : w + length text ≤ length out = leb-true (w + length text) (length out) some.0 in (
      omega (arith, ap length steps.0, length-append {A = ℕ}, ap (λ d. d.lines) some.1),
      ap length after ∙ length_placed before out text w some.0 ∙ c.lines.invariant.1,
      omega (arith, written, c.lines.invariant.1),
      ap (λ (n : ℕ). drop n c.emit.new.output) written
          ∙ ap (drop (w + length text)) after
          ∙ drop_placed before out text w some.0 c.lines.invariant.3
          ∙ ap (λ (n : ℕ). drop n before) (sym written),
    )
