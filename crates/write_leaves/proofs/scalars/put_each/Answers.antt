-- `write_leaves::scalars::put_each` meets its contract. The loop's invariant: the numbers before `i` are stored, and the rules' run goes
-- on with those that are left. Assumes nothing.
use borrow.Author.Rules.{rules}
use Rattle.rules.proofs.Passing.{err_passed}
use Rattle.write_leaves.proofs.InLine.{run_none, run_more, run_all, run_ended, run_large, run_length, next_fits}
use Rattle.write_leaves.proofs.scalars.put_each.Goals as goal

pub loop-i-init : goal.loop-i-init
loop-i-init c = search (rules, run_none)

pub shape_of-out-in_err-v : goal.shape_of-out-in_err-v
shape_of-out-in_err-v c = search (rules, run_length)

pub returns-in_err-v : goal.returns-in_err-v
returns-in_err-v c = let n = rw c.in_err-v.was at c.number_at.ensures in search (rules, run_ended, err_passed c.from_residual.ensures.1)

pub shape_of-out-then-most-v : goal.shape_of-out-then-most-v
shape_of-out-then-most-v c = search (rules, run_length)

pub returns-then-most-v : goal.returns-then-most-v
returns-then-most-v c = let n = rw c.in_ok-v.was at c.number_at.ensures in search (rules, run_large, n.0, n.1)

pub overflow_add-p : goal.overflow_add-p
overflow_add-p c = search (rules, next_fits)

pub loop-i-preserved : goal.loop-i-preserved
loop-i-preserved c = let n = rw c.in_ok-v.was at c.number_at.ensures in search (rules, run_more, n.0, n.1)

pub shape_of-out : goal.shape_of-out
shape_of-out c = search (rules, run_length)

pub returns : goal.returns
returns c = search (rules, run_all)
