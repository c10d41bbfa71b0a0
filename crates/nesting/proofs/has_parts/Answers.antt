-- `nesting::has_parts_lem` meets its contract: by the numbers that it reads.
use borrow.Author.Rules.{rules}
use Rattle.nesting.proofs.Nested.{past_last, has_parts_lem}
use Rattle.nesting.proofs.has_parts.Goals as goal

pub returns-then-row-ge256 : goal.returns-then-row-ge256
returns-then-row-ge256 c = search (rules, past_last)

pub returns : goal.returns
returns c = search (rules, has_parts_lem)
