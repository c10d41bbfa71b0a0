-- `writer::pass::pass` meets its contract: the value is refused, or what comes after it answers.
use borrow.Author.Rules.{rules}
use Rattle.rules.proofs.Passing.{err_passed}
use Rattle.writer.proofs.Passes.{value_refused, value_ended}
use Rattle.writer.proofs.pass.pass.Goals as goal

pub returns-in_err-end : goal.returns-in_err-end
returns-in_err-end c = rw (err_passed c.from_residual.ensures.1) (search (rules, value_refused, c.in_err-end.was))

pub returns : goal.returns
returns c = search (rules, value_ended, c.in_ok-end.was)
