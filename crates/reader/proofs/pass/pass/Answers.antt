-- `reader::pass::pass` meets its contract: the walk is refused, or what comes after it answers.
use borrow.Author.Rules.{rules}
use Rattle.rules.proofs.Passing.{err_passed}
use Rattle.reader.proofs.Passes.{walk_refused, walk_ended}
use Rattle.reader.proofs.pass.pass.Goals as goal

pub returns-in_err-end : goal.returns-in_err-end
returns-in_err-end c = rw (err_passed c.from_residual.ensures.1) (walk_refused _ _ _ _ c.primary.ensures c.in_err-end.was)

pub returns : goal.returns
returns c = walk_ended _ _ _ _ c.primary.ensures c.in_ok-end.was c.after.ensures
