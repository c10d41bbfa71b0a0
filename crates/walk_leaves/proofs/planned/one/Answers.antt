-- `walk_leaves::planned::one` meets its contract: whoever does the parts that are left has done them all.
use mathlib.Core.Path.{refl}
use native.Mathlib.Omega.{arith}
use borrow.Author.Rules.{rules}
use Rattle.rules.proofs.Passing.{err_passed}
use Rattle.plans.proofs.ByPlan.{parts_start, parts_open, parts_end, part_allowed, part_asks, part_refused, fill_refused, part_on}
use Rattle.walk_leaves.proofs.ByPlan.{part_given, fill_given}
use Rattle.walk_leaves.proofs.Reading.{run_parts}
use Rattle.walk_leaves.proofs.planned.one.Goals as goal

pub loop-p-init : goal.loop-p-init
loop-p-init c = (parts_start _ (run_parts _) c.requires.0 c.requires.1, refl)

pub overflow_add-stop : goal.overflow_add-stop
overflow_add-stop c =
    let p = parts_open c.args.parts.now c.loop-p.p-index c.loop-p.invariant.0 c.loop-p-test.true in
    omega (arith, part_asks p, c.bytes.ensures)

pub part-requires : goal.part-requires
part-requires c =
    let p = parts_open c.args.parts.now c.loop-p.p-index c.loop-p.invariant.0 c.loop-p-test.true in
    let a = part_asks p in
    (part_allowed p, omega (arith, a), omega (arith, a.inside, a.short))

pub filled-requires : goal.filled-requires
filled-requires c =
    let p = parts_open c.args.parts.now c.loop-p.p-index c.loop-p.invariant.0 c.loop-p-test.true in
    omega (arith, part_asks p, c.bytes.ensures)

pub overflow_add-place : goal.overflow_add-place
overflow_add-place c =
    let p = parts_open c.args.parts.now c.loop-p.p-index c.loop-p.invariant.0 c.loop-p-test.true in
    omega (arith, part_asks p, c.bytes.ensures)

pub loop-p-preserved : goal.loop-p-preserved
loop-p-preserved c =
    let p = parts_open c.args.parts.now c.loop-p.p-index c.loop-p.invariant.0 c.loop-p-test.true in
    (part_on p (part_given c.args.bytes.now p c.part.ensures) c.in_ok-after.was c.bytes.ensures (fill_given c.args.bytes.now p c.filled.ensures) c.in_ok-d.was, search rules)

pub returns-in_err-d : goal.returns-in_err-d
returns-in_err-d c =
    let p = parts_open c.args.parts.now c.loop-p.p-index c.loop-p.invariant.0 c.loop-p-test.true in
    rw (err_passed c.from_residual-in_err-d.ensures.1) (fill_refused p (part_given c.args.bytes.now p c.part.ensures) c.in_ok-after.was c.bytes.ensures (fill_given c.args.bytes.now p c.filled.ensures) c.in_err-d.was)

pub returns-in_err-after : goal.returns-in_err-after
returns-in_err-after c =
    let p = parts_open c.args.parts.now c.loop-p.p-index c.loop-p.invariant.0 c.loop-p-test.true in
    rw (err_passed c.from_residual.ensures.1) (part_refused p (part_given c.args.bytes.now p c.part.ensures) c.in_err-after.was)

pub returns : goal.returns
returns c = parts_end c.args.parts.now c.loop-p.p-index c.loop-p.invariant.0 c.loop-p-test.false
