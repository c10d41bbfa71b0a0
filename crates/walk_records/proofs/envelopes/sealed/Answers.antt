-- `sealed` meets its contract: 7 or 16 where the fill or the byte number is wrong, and else what the handle number says.
use borrow.Author.Rules.{rules}
use Rattle.walk_records.proofs.Payloads.{fill_wrong, fill_right, bytes_wrong, bytes_right}
use Rattle.walk_records.proofs.envelopes.sealed.Goals as goal

pub returns-then-zeros-fill : goal.returns-then-zeros-fill
returns-then-zeros-fill c = λ t values objects handles h k. search (rules, fill_wrong)

pub returns-then-size-le4 : goal.returns-then-size-le4
returns-then-size-le4 c = λ t values objects handles h k. search (rules, fill_right, c.handles_sealed.ensures)

pub returns-then-load-covered : goal.returns-then-load-covered
returns-then-load-covered c = λ t values objects handles h k. search (rules, bytes_wrong)

pub returns : goal.returns
returns c = λ t values objects handles h k. search (rules, bytes_right, c.handles_sealed-2.ensures)
