-- `write_leaves::scalars::handle` meets its contract: a law for each way that it ends.
use borrow.Author.Rules.{rules}
use Rattle.rules.proofs.Passing.{err_passed}
use Rattle.write_leaves.specs.InLine.{handle_as}
use Rattle.write_leaves.proofs.InLine.{list_ended, handle_large, handle_required, handle_absent, handle_taken, took_held, took_some}
use Rattle.write_leaves.proofs.scalars.handle.Goals as goal

pub returns-in_err-v : goal.returns-in_err-v
unfolding handle_as
returns-in_err-v c t = rw (err_passed c.from_residual.ensures.1) (list_ended _ _ c.requires.left (rw c.in_err-v.was at c.number_at.ensures))

pub returns-then-v-gt1 : goal.returns-then-v-gt1
returns-then-v-gt1 c = let n = rw c.in_ok-v.was at c.number_at.ensures in search (rules, handle_large, n.0, n.1)

pub returns-then-optional-ne1 : goal.returns-then-optional-ne1
returns-then-optional-ne1 c = let n = rw c.in_ok-v.was at c.number_at.ensures in search (rules, handle_required, n.0, n.1)

pub returns-then-v-eq0 : goal.returns-then-v-eq0
returns-then-v-eq0 c = let n = rw c.in_ok-v.was at c.number_at.ensures in search (rules, handle_absent, n.0, n.1)

pub with_handles-requires : goal.with_handles-requires
with_handles-requires c = let n = rw c.in_ok-v.was at c.number_at.ensures in search (rules, took_held, took_some, n.0)

pub returns : goal.returns
returns c = let n = rw c.in_ok-v.was at c.number_at.ensures in search (rules, handle_taken, n.0, n.1)
