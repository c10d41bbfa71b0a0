-- `write_leaves::scalars::boolean` meets its contract: a law for each way that it ends.
use borrow.Author.Rules.{rules}
use Rattle.rules.proofs.Passing.{err_passed}
use Rattle.write_leaves.specs.InLine.{bool_as}
use Rattle.write_leaves.proofs.InLine.{list_ended, bool_large, bool_put}
use Rattle.write_leaves.proofs.scalars.boolean.Goals as goal

pub returns-in_err-v : goal.returns-in_err-v
unfolding bool_as
returns-in_err-v c = rw (err_passed c.from_residual.ensures.1) (list_ended _ _ c.requires.left (rw c.in_err-v.was at c.number_at.ensures))

pub returns-then-v-gt1 : goal.returns-then-v-gt1
returns-then-v-gt1 c = let n = rw c.in_ok-v.was at c.number_at.ensures in search (rules, bool_large, n.0, n.1)

pub returns : goal.returns
returns c = let n = rw c.in_ok-v.was at c.number_at.ensures in search (rules, bool_put, n.0, n.1)
