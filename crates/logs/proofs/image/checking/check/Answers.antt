use Rattle.std.proofs.Common.{◌≡◌, leb, length, sym, refl, ap, ◌∙◌, inl, inr, arith}
use native.Mathlib.Nat.{sub-zero}
use Rattle.std.proofs.lemmas.Bool.{both_ways, and_parts, leb-true}
use Rattle.model.specs.Shapes.{features, targets}
use Rattle.logs.proofs.Shapes.{ranges}
use Rattle.logs.specs.Images.{header_of}
use Rattle.logs.proofs.Headers.{feature_count_told, target_count_told, used_told, features_told, targets_told, ranges_told, same_header, starts_told}
use Rattle.logs.proofs.image.checking.check.Goals as goal

-- a header that tells such counts is that of no shape
pub returns-then-from-places : goal.returns-then-from-places
returns-then-from-places c = (
  refl,
  λ s d.
      let b = c.args.bytes.now in
      let used = used_told b s d.0 d.1.starts in
      let fs = feature_count_told b s d.0 d.1.starts in
      let ts = target_count_told b s d.0 d.1.starts in
      let few = ranges s in
      let within = d.1.within in
      elim c.then-from-places.either [ inl h ↦ omega arith | inr h ↦ elim h [ inl k ↦ omega arith | inr k ↦ omega arith ] ],
)

-- the sizes that the header tells are those of no shape
pub returns-in_default : goal.returns-in_default
returns-in_default c = (refl, λ s d. c.in_default.ensures.1 (simp (sub-zero, c.sizes.ensures, c.sizes-2.ensures, c.from-features.ensures, c.from-targets.ensures) (ranges_told c.args.bytes.now s d.0 d.1.starts)))

pub returns-then-starts_with : goal.returns-then-starts_with
returns-then-starts_with c =
    let b = c.args.bytes.now in
    let same = starts_told b c.in-Ok.shape c.used-used.result c.header.result c.starts_with.result c.header.ensures c.starts_with.ensures.value in
    let both = and_parts (leb 32 (length b)) (leb (length b) 65536) (sym c.sized.ensures ∙ c.if-not-sized.false) in
    let low = leb-true 32 (length b) both.0 in
    let high = leb-true (length b) 65536 both.1 in
    (c.used-used.result, record { long = omega arith; short = omega arith; within = omega arith; starts = same.0 c.if-starts_with.true })

-- another shape's header would tell the same sizes
pub returns-else-starts_with : goal.returns-else-starts_with
returns-else-starts_with c = (
  refl,
  λ s d.
      let b = c.args.bytes.now in
      let new = c.in-Ok.ensures in
      let fs : features s ≡ features c.in-Ok.shape = sym (features_told b s d.0 d.1.starts) ∙ simp (new.1, sub-zero, c.sizes.ensures, c.from-features.ensures) in
      let ts : targets s ≡ targets c.in-Ok.shape = sym (targets_told b s d.0 d.1.starts) ∙ simp (new.2, sub-zero, c.sizes-2.ensures, c.from-targets.ensures) in
      let rows : d.0 ≡ c.used-used.result = sym (used_told b s d.0 d.1.starts) ∙ sym c.used-used.ensures in
      let same = starts_told b c.in-Ok.shape c.used-used.result c.header.result c.starts_with.result c.header.ensures c.starts_with.ensures.value in
      both_ways c.starts_with.result c.if-starts_with.false (same.1 (d.1.starts ∙ (ap (header_of s) rows ∙ same_header s c.in-Ok.shape c.used-used.result fs ts))),
)
