use Rattle.std.proofs.Common.{◌≡◌, ℕ, cond, List, is_ok, vec_items, sym, refl, ap, ◌∙◌, subst, arith}
use Rattle.std.specs.Vec.{with_items}
use Rattle.std.proofs.lemmas.List.{with_items_is}
use Rattle.model.specs.Rows.{Twelve}
use Rattle.logs.specs.Images.{StaysImage}
use Rattle.logs.specs.Packed.{shown, free_in, written}
use Rattle.logs.proofs.Appended.{shown_appended, free_appended, image_appended}
use Rattle.logs.proofs.packed.appending.PackedLogIntake.append.Goals as goal

pub returns : goal.returns
returns c =
    let v = c.args.self.now.bytes in
    let b = vec_items v in
    let row = c.args.row in
    let twelve : Twelve row = omega arith in
    let whole = with_items_is v c.append.new.bytes (c.append.auto.bytes ∙ c.as_mut_slice.ensures.len) in
    let verdict = rw c.as_mut_slice.ensures.value at c.append.ensures.verdict in
    let after : vec_items (with_items v c.append.new.bytes) ≡ cond (is_ok c.append.result) (written b row) b = whole ∙ (rw c.as_mut_slice.ensures.value at c.append.ensures.after) in
    let P : List ℕ → Type 0 = λ a. StaysImage b a (cond (is_ok c.append.result) 1 0) in
    record {
      verdict = verdict;
      rows = ap shown after ∙ shown_appended b row twelve c.append.result verdict;
      free = ap free_in after ∙ free_appended b row twelve c.append.result verdict;
      admits = λ x. refl;
      after = after;
      image = subst P (sym after) (image_appended b row twelve c.append.result verdict);
    }
