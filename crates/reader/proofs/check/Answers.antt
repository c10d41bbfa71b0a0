-- `reader::check` meets its contract: what was judged, without the lengths.
use Rattle.rules.proofs.Passing.{err_passed}
use Rattle.reader.proofs.Lent.{check_refused, check_accepted}
use Rattle.reader.proofs.check.Goals as goal

pub returns-in_err-judge : goal.returns-in_err-judge
returns-in_err-judge c = rw (err_passed c.from_residual.ensures.1) (check_refused _ _ _ _ c.judge.ensures.answer c.in_err-judge.was)

pub returns : goal.returns
returns c = check_accepted _ _ _ _ c.judge.ensures.answer c.in_ok-judge.was
