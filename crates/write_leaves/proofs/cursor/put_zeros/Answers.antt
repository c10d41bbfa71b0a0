-- `write_leaves::cursor::put_zeros` meets its contract. The loop's invariant: to store the rest of the zeros as well is to store them all.
use borrow.Author.Rules.{rules}
use Rattle.write_leaves.proofs.Filling.{filled_past, filled_none, filled_more, filled_all, filled_length}
use Rattle.write_leaves.proofs.cursor.put_zeros.Goals as goal

pub returns-then-out-at : goal.returns-then-out-at
returns-then-out-at c = search (rules, filled_past)

pub loop-i-init : goal.loop-i-init
loop-i-init c = search (rules, filled_none)

pub loop-i-preserved : goal.loop-i-preserved
loop-i-preserved c = search (rules, filled_more)

pub shape_of-out : goal.shape_of-out
shape_of-out c = search (rules, filled_length)

pub returns : goal.returns
returns c = search (rules, filled_all)
