-- `reader::pass::judge` meets its contract: the tests before the walk, and a pass that stores nothing.
use Rattle.rules.proofs.Passing.{err_passed}
use Rattle.reader.proofs.Judging.{judge_refused, judge_walkable, judge_passed}
use Rattle.reader.proofs.pass.judge.Goals as goal

pub returns-in_err-before : goal.returns-in_err-before
returns-in_err-before c =
    record { answer = rw (err_passed c.from_residual.ensures.1) (judge_refused _ _ _ _ _ _ c.climb-verdict.ensures.verdict c.before-2.ensures c.in_err-before.was); sizes = c.climb-verdict.ensures.sizes; alignments = c.climb-verdict.ensures.alignments }

pub pass-requires : goal.pass-requires
pass-requires c =
    judge_walkable _ _ _ _ _ _ c.climb-verdict.ensures.verdict c.before-2.ensures c.in_ok-before.was _ _
    c.climb-verdict.ensures.sizes c.climb-verdict.ensures.alignments

pub returns : goal.returns
returns c =
    record { answer = judge_passed _ _ _ _ _ _ c.climb-verdict.ensures.verdict c.before-2.ensures c.in_ok-before.was c.pass.ensures; sizes = c.climb-verdict.ensures.sizes; alignments = c.climb-verdict.ensures.alignments }
