-- `plans::flat_members` meets its contract: what is planned so far, and then what is left, is the whole.
use native.Mathlib.Omega.{arith}
use Rattle.plans.proofs.Planning.{planning_start, planning_end, planning_other, planning_far, planning_more}
use Rattle.plans.proofs.flat_members.Goals as goal

pub loop-i-init : goal.loop-i-init
loop-i-init c = planning_start _ _ _ _ _ _ c.told-parts

pub returns-in_err-width : goal.returns-in_err-width
returns-in_err-width c =
    rw c.from_residual.ensures (planning_other _ _ _ _ _ _ c.loop-i.invariant c.loop-i-test.true c.next_part.ensures.0 c.flat_width.ensures c.in_err-width.was)

pub returns-then-fill-gt8 : goal.returns-then-fill-gt8
returns-then-fill-gt8 c =
    planning_far _ _ _ _ _ _ c.loop-i.invariant c.loop-i-test.true c.next_part.ensures.0 c.flat_width.ensures c.in_ok-width.was c.requires.1 c.bytes.ensures c.next_place-next.ensures c.saturating_sub-fill.ensures c.if-fill-gt8.true

pub loop-i-preserved : goal.loop-i-preserved
loop-i-preserved c =
    planning_more _ _ _ _ _ _ c.loop-i.invariant c.loop-i-test.true c.next_part.ensures.0 c.flat_width.ensures c.in_ok-width.was c.requires.1 c.bytes.ensures c.next_place-next.ensures c.saturating_sub-fill.ensures c.if-fill-gt8.false

pub returns : goal.returns
returns c = planning_end _ _ _ _ _ _ c.loop-i.invariant (omega arith) c.requires.1
