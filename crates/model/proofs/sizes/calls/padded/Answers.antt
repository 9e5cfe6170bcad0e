use Rattle.std.proofs.Common.{get_or, rules}
use Rattle.model.proofs.Filled.{place_filled}
use Rattle.model.proofs.Made.{made}
use Rattle.model.proofs.sizes.calls.padded.Goals as goal

-- each byte is the number at its place, or 0 where there is none
pub returns : goal.returns
returns c =
    let ns = c.args.numbers.now in
    let bytes = c.from_fn.result in
    place_filled bytes ns c.from_fn.ensures.items.long c.requires.few (λ k h. made _ _ (λ i. get_or ns i 0) (λ i y q call. search rules) bytes 8 k c.from_fn.ensures.items h)
