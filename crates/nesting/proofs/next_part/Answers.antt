-- `nesting::next_part` meets its contract: a law for each answer.
use borrow.Author.Rules.{rules}
use Rattle.nesting.proofs.Nested.{part_member, part_element}
use Rattle.nesting.proofs.next_part.Goals as goal

pub returns-then-kind_at-eq7 : goal.returns-then-kind_at-eq7
returns-then-kind_at-eq7 c = search (rules, part_member)

pub returns : goal.returns
returns c = search (rules, part_element)
