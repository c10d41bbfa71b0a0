-- `walk_leaves::scalars::numbers` meets its contract: the numbers are stored, or there is no room for any.
use borrow.Author.Rules.{rules}
use Rattle.walk_leaves.proofs.InLine.{numbers_counted, numbers_given, numbers_past}
use Rattle.walk_leaves.proofs.scalars.numbers.Goals as goal

pub overflow_add-done : goal.overflow_add-done
overflow_add-done c = search (rules, numbers_counted)

pub returns-then-values-first : goal.returns-then-values-first
returns-then-values-first c = search (rules, numbers_past)

pub returns : goal.returns
returns c = search (rules, numbers_given)
