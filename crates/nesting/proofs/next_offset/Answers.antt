-- `nesting::next_offset` meets its contract: a law for each answer, and a bound.
use borrow.Author.Rules.{rules}
use Rattle.nesting.proofs.Nested.{offset_small, offset_last, offset_next}
use Rattle.nesting.proofs.next_offset.Goals as goal

pub returns-then-member-end : goal.returns-then-member-end
returns-then-member-end c = (search (rules, offset_last), search (rules, offset_small))

pub returns : goal.returns
returns c = (search (rules, offset_next), search (rules, offset_small))
