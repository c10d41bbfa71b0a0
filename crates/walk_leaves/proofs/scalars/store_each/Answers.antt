-- `walk_leaves::scalars::store_each` meets its contract. The loop's invariant: the rest of the numbers lies in a message that is not
-- too long, and to store it as well is to store them all.
use borrow.Author.Rules.{rules}
use Rattle.walk_leaves.proofs.InLine.{numbers_counted, stored_none, stored_more, stored_all, stored_length, all_inside, next_fits, next_inside}
use Rattle.walk_leaves.proofs.scalars.store_each.Goals as goal

pub overflow_add-i-end : goal.overflow_add-i-end
overflow_add-i-end c = search (rules, numbers_counted)

pub loop-i-init : goal.loop-i-init
loop-i-init c = search (rules, all_inside, stored_none)

pub overflow_add-p : goal.overflow_add-p
overflow_add-p c = search (rules, next_fits)

pub loop-i-preserved : goal.loop-i-preserved
loop-i-preserved c = search (rules, next_inside, stored_more)

pub shape_of-values : goal.shape_of-values
shape_of-values c = search (rules, stored_length)

pub returns : goal.returns
returns c = search (rules, stored_all)
