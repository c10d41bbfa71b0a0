-- `write_leaves::planned::one` meets its contract: whoever puts the parts that are left has put them all.
use mathlib.Core.Path.{refl}
use native.Mathlib.Omega.{arith}
use borrow.Author.Rules.{rules}
use Rattle.rules.proofs.Passing.{err_passed}
use Rattle.plans.proofs.ByPlan.{parts_start, parts_open, parts_end, part_allowed, part_asks, part_refused, part_on}
use Rattle.write_leaves.proofs.ByPlan.{fill_stored}
use Rattle.write_leaves.proofs.Leading.{ask_stands}
use Rattle.write_leaves.proofs.Writing.{run_fields}
use Rattle.write_leaves.proofs.planned.one.Goals as goal

pub loop-p-init : goal.loop-p-init
loop-p-init c = (parts_start _ (run_fields _ _ _) c.requires.0 c.requires.1, refl)

pub overflow_add-stop : goal.overflow_add-stop
overflow_add-stop c =
    let p = parts_open c.args.parts.now c.loop-p.p-index c.loop-p.invariant.0 c.loop-p-test.true in
    omega (arith, part_asks p, c.bytes.ensures)

pub part-requires : goal.part-requires
part-requires c =
    let p = parts_open c.args.parts.now c.loop-p.p-index c.loop-p.invariant.0 c.loop-p-test.true in
    (part_allowed p, ask_stands (part_asks p))

pub put_zeros-requires : goal.put_zeros-requires
put_zeros-requires c =
    let p = parts_open c.args.parts.now c.loop-p.p-index c.loop-p.invariant.0 c.loop-p-test.true in
    omega (arith, part_asks p, c.bytes.ensures)

pub overflow_add-place : goal.overflow_add-place
overflow_add-place c =
    let p = parts_open c.args.parts.now c.loop-p.p-index c.loop-p.invariant.0 c.loop-p-test.true in
    omega (arith, part_asks p, c.bytes.ensures)

pub loop-p-preserved : goal.loop-p-preserved
loop-p-preserved c =
    let p = parts_open c.args.parts.now c.loop-p.p-index c.loop-p.invariant.0 c.loop-p-test.true in
    (part_on p (λ base a. c.part.ensures base) c.in_ok-d.was c.bytes.ensures (fill_stored _ c.put_zeros.ensures) refl, search rules)

pub returns-in_err-d : goal.returns-in_err-d
returns-in_err-d c =
    let p = parts_open c.args.parts.now c.loop-p.p-index c.loop-p.invariant.0 c.loop-p-test.true in
    rw (err_passed c.from_residual.ensures.1) (part_refused p (λ base a. c.part.ensures base) c.in_err-d.was)

pub returns : goal.returns
returns c = parts_end c.args.parts.now c.loop-p.p-index c.loop-p.invariant.0 c.loop-p-test.false
