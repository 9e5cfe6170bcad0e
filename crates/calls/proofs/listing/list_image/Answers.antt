use Rattle.std.proofs.Common.{vec_items}
use Rattle.calls.proofs.Over.{over_from_bytes, called_from_refused}
use Rattle.calls.proofs.listing.list_image.Goals as goal

pub returns-in_err-list : goal.returns-in_err-list
returns-in_err-list g c =
    called_from_refused _ _ _ _ _ _ _ _ c.from_residual-in_err-list.ensures.1 (over_from_bytes _ _ _ _ _ _ _ _ (vec_items c.new-log.result.bytes) c.in_ok-shape.ensures (cc (c.new-log.ensures, c.in_ok-from_slice.ensures.items)) c.in_err-list.ensures.listing)

pub returns : goal.returns
returns g c =
    over_from_bytes _ _ _ _ _ _ _ _ (vec_items c.new-log.result.bytes) c.in_ok-shape.ensures (cc (c.new-log.ensures, c.in_ok-from_slice.ensures.items)) c.in_ok-list.ensures.listing
