-- `reader::read` meets its contract: what was judged, then 22 of the objects and of the values; nothing is stored before.
use native.Mathlib.Omega.{arith}
use Rattle.rules.proofs.Passing.{err_passed}
use Rattle.reader.proofs.Judging.{judged_walkable}
use Rattle.reader.proofs.Lent.{both_refused, both_objects_room, both_values_room, both_read}
use Rattle.reader.proofs.read.Goals as goal

pub returns-then-objects-lengths : goal.returns-then-objects-lengths
returns-then-objects-lengths c =
    both_objects_room _ _ _ _ c.judge.ensures.answer c.in_ok-lengths.was _ _ (omega (arith, c.if-objects-lengths.true))
    c.at.ensures

pub returns-then-values-lengths : goal.returns-then-values-lengths
returns-then-values-lengths c =
    both_values_room _ _ _ _ c.judge.ensures.answer c.in_ok-lengths.was _ _ (omega (arith, c.if-objects-lengths.false))
    (omega (arith, c.if-values-lengths.true)) c.at-then-values-lengths.ensures

pub pass-requires : goal.pass-requires
pass-requires c =
    let judged = c.judge in
    judged_walkable _ _ _ _ _ _ _ _ judged.ensures.answer c.in_ok-lengths.was judged.ensures.sizes judged.ensures.alignments

pub returns-in_err-lengths : goal.returns-in_err-lengths
returns-in_err-lengths c = rw (err_passed c.from_residual.ensures.1) (both_refused _ _ _ _ c.judge.ensures.answer _ _ c.in_err-lengths.was)

pub returns : goal.returns
returns c =
    both_read _ _ _ _ c.judge.ensures.answer c.in_ok-lengths.was c.pass.ensures
    (omega (arith, c.if-objects-lengths.false)) (omega (arith, c.if-values-lengths.false))
