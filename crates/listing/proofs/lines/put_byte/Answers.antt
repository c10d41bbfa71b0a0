-- `listing::lines::put_byte` meets its contract: a byte is the one byte of its word.
use borrow.Author.Rules.{rules}
use Rattle.listing.proofs.Putting.{byte_put}
use Rattle.listing.proofs.lines.put_byte.Goals as goal

pub returns : goal.returns
returns c = search (rules, byte_put)
