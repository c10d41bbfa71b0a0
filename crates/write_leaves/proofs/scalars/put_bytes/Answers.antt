-- `write_leaves::scalars::put_bytes` meets its contract. The loop's invariant: the numbers before `i` are stored, as in a run of any
-- width. Assumes nothing.
use borrow.Author.Rules.{rules}
use Rattle.write_leaves.proofs.InLine.{bytes_none, byte_more, byte_fits, run_all}
use Rattle.write_leaves.proofs.scalars.put_bytes.Goals as goal

pub loop-i-init : goal.loop-i-init
loop-i-init c = search (rules, bytes_none)

pub overflow_cast-out : goal.overflow_cast-out
overflow_cast-out c = search (rules, byte_fits)

pub bounds-out-at : goal.bounds-out-at
bounds-out-at c = search rules

pub loop-i-preserved : goal.loop-i-preserved
loop-i-preserved c = search (rules, byte_more)

pub shape_of-out : goal.shape_of-out
shape_of-out c = search rules

pub returns : goal.returns
returns c = search (rules, run_all)
