-- `walk_leaves::planned::planned` meets its contract: a run is given all at once, bools as numbers of one byte; of any other values,
-- whoever does those that are left has done them all.
use mathlib.Core.Path.{refl}
use native.Mathlib.Omega.{arith}
use borrow.Author.Rules.{rules}
use Rattle.plans.proofs.Widths.{bytes_allowed}
use Rattle.walk_leaves.proofs.OneWidth.{run_size, run_inside, run_given, numbers_run}
use Rattle.walk_leaves.proofs.Bools.{bools_run}
use Rattle.nesting.proofs.Runs.{run_asks, run_stopped, run_end}
use Rattle.nesting.proofs.Counted.{turns_start, turns_next}
use Rattle.rules.proofs.Passing.{err_passed}
use Rattle.walk_leaves.proofs.planned.planned.Goals as goal

pub overflow_mul-all : goal.overflow_mul-all
overflow_mul-all c =
    let asked = c.requires.2 in
    omega (arith, run_inside c.args.parts.now c.in-Some.width c.in-Some.ensures c.requires.1 c.args.count asked, asked.short)

pub numbers-requires : goal.numbers-requires
numbers-requires c =
    let asked = c.requires.2 in
    let size = rw c.in-Bytes.is at (run_size c.args.parts.now c.in-Some.width c.in-Some.ensures c.requires.1 c.args.count) in
    (bytes_allowed c.in-Bytes.is c.in-Some.ensures.0, omega (arith, size, asked.inside, asked.short), omega (arith, asked.small))

pub returns-in-Bytes : goal.returns-in-Bytes
returns-in-Bytes c =
    run_given c.args.parts.now c.in-Some.width c.in-Some.ensures c.requires.1 _ _ _ (numbers_run _ _ _ c.in-Bytes.is c.in-Some.ensures.0 c.numbers.ensures)

pub overflow_add-stop : goal.overflow_add-stop
overflow_add-stop c =
    let asked = c.requires.2 in
    omega (arith, run_inside c.args.parts.now c.in-Some.width c.in-Some.ensures c.requires.1 c.args.count asked, asked.short)

pub slice_bounds-bits_of-end : goal.slice_bounds-bits_of-end
slice_bounds-bits_of-end c = omega (arith, run_inside c.args.parts.now c.in-Some.width c.in-Some.ensures c.requires.1 c.args.count c.requires.2)

pub returns-then-bits_of-le1 : goal.returns-then-bits_of-le1
returns-then-bits_of-le1 c =
    let inside = run_inside c.args.parts.now c.in-Some.width c.in-Some.ensures c.requires.1 c.args.count c.requires.2 in
    run_given c.args.parts.now c.in-Some.width c.in-Some.ensures c.requires.1 _ _ _
    (bools_run _ _ _ c.in-Boolean.is inside c.bits_of.ensures c.if-bits_of-le1.true c.numbers-then-bits_of-le1.ensures)

pub loop-init : goal.loop-init
loop-init c = (turns_start _ _ c.requires.1 c.requires.2, refl)

pub one-requires : goal.one-requires
one-requires c = (c.requires.0, run_asks c.loop.invariant.0 (omega arith))

pub returns-in_err-d : goal.returns-in_err-d
returns-in_err-d c = rw (err_passed c.from_residual.ensures.1) (run_stopped c.loop.invariant.0 (omega arith) c.one.ensures c.in_err-d.was)

pub overflow_add-place : goal.overflow_add-place
overflow_add-place c =
    let a = run_asks c.loop.invariant.0 (omega arith) in
    omega (arith, a.inside, a.short)

pub loop-preserved : goal.loop-preserved
loop-preserved c = (turns_next c.loop.invariant.0 (omega arith) c.one.ensures c.requires.1 c.in_ok-d.was, search rules)

pub returns : goal.returns
returns c = run_end c.loop.invariant.0 (omega arith)
