-- `write_leaves::scalars::number` meets its contract: a law for each way that it ends.
use borrow.Author.Rules.{rules}
use Rattle.rules.proofs.Passing.{err_passed}
use Rattle.rules.specs.Envelope.{encode_word}
use Rattle.write_leaves.proofs.InLine.{list_ended, number_large, number_put}
use Rattle.write_leaves.proofs.scalars.number.Goals as goal

pub returns-in_err-v : goal.returns-in_err-v
unfolding encode_word
returns-in_err-v c = rw (err_passed c.from_residual.ensures.1) (list_ended _ _ c.requires.1.left (rw c.in_err-v.was at c.number_at.ensures))

pub returns-then-largest-v : goal.returns-then-largest-v
returns-then-largest-v c = let n = rw c.in_ok-v.was at c.number_at.ensures in search (rules, number_large, n.0, n.1)

pub returns : goal.returns
returns c = let n = rw c.in_ok-v.was at c.number_at.ensures in search (rules, number_put, n.0, n.1)
