-- `listing::lines::put_number` meets its contract: the digits of the quotient, which is smaller, and then the last one.
use Rattle.std.proofs.Common.{arith, rules}
use Rattle.listing.proofs.Putting.{digit_put, number_put}
use Rattle.listing.proofs.lines.+put_number.Goals as goal

pub returns-then-n-lt10 : goal.returns-then-n-lt10
returns-then-n-lt10 t c = digit_put _ (omega arith) c.put_byte.ensures

pub returns : goal.returns
returns t c = number_put _ (omega arith) (search rules) c.put_number-next.ensures c.put_byte-2.ensures
