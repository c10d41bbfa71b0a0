-- `listing::lines::put_labelled` meets its contract: the label, then the number.
use borrow.Author.Rules.{rules}
use Rattle.listing.proofs.Putting.{puts_then}
use Rattle.listing.proofs.lines.put_labelled.Goals as goal

pub returns : goal.returns
returns c = search (rules, puts_then)
