use Rattle.std.proofs.Common.{get_or, rules}
use Rattle.std.proofs.lemmas.List.FromFn.{fill_by_all}
use Rattle.model.proofs.Made.{made}
use Rattle.logs.proofs.image.header.padded.Goals as goal

pub returns : goal.returns
returns g c =
    let sizes = c.args.sizes.now in
    let bytes = c.from_fn.result in
    fill_by_all (λ i. get_or sizes i 0) bytes g.row.N 0 c.from_fn.ensures.items.long (λ k h. made _ _ (λ i. get_or sizes i 0) (λ i y q call. search rules) bytes g.row.N k c.from_fn.ensures.items h)
