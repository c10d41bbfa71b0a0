-- `writer::write` meets its contract: what was measured, then 22; nothing is stored before both.
use mathlib.Core.Path.{refl}
use native.Mathlib.Omega.{arith}
use borrow.Author.Rules.{rules}
use Rattle.rules.proofs.Passing.{err_passed}
use Rattle.writer.proofs.Lent.{lent_long, again_ready, write_refused, write_room, write_stored}
use Rattle.writer.proofs.write.Goals as goal

pub returns-then-out-needed : goal.returns-then-out-needed
returns-then-out-needed c =
    rw c.at.ensures (write_room _ _ _ _ c.measure.ensures.answer c.in_ok-needed.was _ (omega (arith, c.if-out-needed.true)))

pub slice_bounds-pass-end : goal.slice_bounds-pass-end
slice_bounds-pass-end c = search (rules, lent_long)

pub pass-requires : goal.pass-requires
pass-requires c =
    let measured = c.measure in
    again_ready _ _ _ _ measured.ensures.answer c.in_ok-needed.was _ _ refl measured.ensures.sizes measured.ensures.alignments

pub returns-in_err-needed : goal.returns-in_err-needed
returns-in_err-needed c = rw (err_passed c.from_residual.ensures.1) (write_refused _ _ _ _ c.measure.ensures.answer _ c.in_err-needed.was)

pub returns : goal.returns
returns c =
    write_stored _ _ _ _ c.measure.ensures.answer c.in_ok-needed.was _ c.pass.ensures (omega (arith, c.if-out-needed.false))
