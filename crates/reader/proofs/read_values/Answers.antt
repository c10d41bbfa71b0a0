-- `reader::read_values` meets its contract: what was judged, then 22; nothing is stored before both.
use native.Mathlib.Omega.{arith}
use Rattle.rules.proofs.Passing.{err_passed}
use Rattle.reader.proofs.Judging.{judged_walkable}
use Rattle.reader.proofs.Lent.{values_refused, values_room, values_read}
use Rattle.reader.proofs.read_values.Goals as goal

pub returns-then-values-needed : goal.returns-then-values-needed
returns-then-values-needed c =
    values_room _ _ _ _ c.judge.ensures.answer c.in_ok-needed.was _ (omega (arith, c.if-values-needed.true))
    c.at.ensures

pub pass-requires : goal.pass-requires
pass-requires c =
    let judged = c.judge in
    judged_walkable _ _ _ _ _ _ _ _ judged.ensures.answer c.in_ok-needed.was judged.ensures.sizes judged.ensures.alignments

pub returns-in_err-needed : goal.returns-in_err-needed
returns-in_err-needed c = rw (err_passed c.from_residual.ensures.1) (values_refused _ _ _ _ c.judge.ensures.answer _ c.in_err-needed.was)

pub returns : goal.returns
returns c =
    values_read _ _ _ _ c.judge.ensures.answer c.in_ok-needed.was c.pass.ensures (omega (arith, c.if-values-needed.false))
