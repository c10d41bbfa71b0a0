-- `listing::lines::put_line` meets its contract: a label with its number, then a line feed.
use borrow.Author.Rules.{rules}
use Rattle.listing.proofs.Putting.{puts_then}
use Rattle.listing.proofs.lines.put_line.Goals as goal

pub returns : goal.returns
returns c = search (rules, puts_then)
