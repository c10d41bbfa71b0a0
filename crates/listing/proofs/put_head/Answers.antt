-- `listing::put_head` meets its contract: two lines.
use Rattle.listing.proofs.Putting.{puts_then}
use Rattle.listing.proofs.put_head.Goals as goal

pub returns : goal.returns
returns c =
    puts_then c.put_line-next.ensures c.put_line.ensures
