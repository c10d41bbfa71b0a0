-- `walk_leaves::scalars::store_numbers` meets its contract: so does each of the ways that it may go.
use borrow.Author.Rules.{rules}
use Rattle.walk_leaves.proofs.InLine.{numbers_counted, part_stored}
use Rattle.walk_leaves.proofs.scalars.store_numbers.Goals as goal

pub overflow_add-first : goal.overflow_add-first
overflow_add-first c = search (rules, numbers_counted)

pub returns-else-bytes-at : goal.returns-else-bytes-at
returns-else-bytes-at c = search (rules, part_stored)
