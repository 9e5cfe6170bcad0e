use Rattle.std.proofs.Common.{rules, replicate}
use Rattle.logs.specs.Packed.{shown}
use Rattle.exchange.proofs.Places.{rules_read}
use Rattle.exchange.proofs.listing.list.Goals as goal

pub returns-clause-answer : goal.returns-clause-answer
returns-clause-answer c =
    cc (
      c.read.ensures,
      rules_read c.args.book.now.shape (shown c.args.book.now.log.bytes.items) (replicate 64 0) c.list.new.rules c.in_ok-count.count (search rules) (search (rules, c.in_ok-count.ensures.listing)),
    )
