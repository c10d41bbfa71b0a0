-- `write_leaves::planned::planned` meets its contract: whoever puts the values that are left has put them all.
use mathlib.Core.Path.{refl}
use native.Mathlib.Omega.{arith}
use borrow.Author.Rules.{rules}
use Rattle.rules.proofs.Passing.{err_passed}
use Rattle.nesting.proofs.Runs.{run_asks, run_stopped, run_end}
use Rattle.nesting.proofs.Counted.{turns_start, turns_next}
use Rattle.write_leaves.proofs.planned.planned.Goals as goal

pub loop-init : goal.loop-init
loop-init c = (turns_start _ _ c.requires.1 c.requires.2, refl)

pub one-requires : goal.one-requires
one-requires c = (c.requires.0, run_asks c.loop.invariant.0 (omega arith))

pub returns-in_err-d : goal.returns-in_err-d
returns-in_err-d c = rw (err_passed c.from_residual.ensures.1) (run_stopped c.loop.invariant.0 (omega arith) c.one.ensures c.in_err-d.was)

pub overflow_add-place : goal.overflow_add-place
overflow_add-place c =
    let a = run_asks c.loop.invariant.0 (omega arith) in
    omega (arith, a.inside, a.free)

pub loop-preserved : goal.loop-preserved
loop-preserved c = (turns_next c.loop.invariant.0 (omega arith) c.one.ensures c.requires.1 c.in_ok-d.was, search rules)

pub returns : goal.returns
returns c = run_end c.loop.invariant.0 (omega arith)
