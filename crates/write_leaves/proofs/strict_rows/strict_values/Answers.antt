-- `write_leaves::strict_rows::strict_values` meets its contract: whoever puts the values that are left has put them all.
use mathlib.Core.Path.{refl}
use native.Mathlib.Omega.{arith}
use borrow.Author.Rules.{rules}
use Rattle.rules.proofs.Passing.{err_passed}
use Rattle.strict.proofs.Numbers.{row_width, row_searchable}
use Rattle.nesting.proofs.Runs.{run_asks, run_stopped, run_end}
use Rattle.nesting.proofs.Counted.{turns_start}
use Rattle.write_leaves.specs.InLine.{strict_as}
use Rattle.write_leaves.proofs.InLine.{list_ended}
use Rattle.write_leaves.proofs.Strict.{strict_small, strict_stopped, strict_next}
use Rattle.write_leaves.proofs.strict_rows.strict_values.Goals as goal

pub largest-most-requires : goal.largest-most-requires
largest-most-requires c = row_width c.requires.0 c.a_at-width.ensures

pub loop-init : goal.loop-init
loop-init c = (turns_start _ _ refl c.requires.1, refl)

pub returns-in_err-v : goal.returns-in_err-v
unfolding strict_as
returns-in_err-v c =
    rw (err_passed c.from_residual.ensures.1)
    (run_stopped c.loop.invariant.0 (omega arith) (λ base a. list_ended _ _ a.left (rw c.in_err-v.was at c.number_at.ensures) base) refl)

pub allows-requires : goal.allows-requires
allows-requires c = row_searchable c.requires.0 c.kind_at-kind.ensures c.b_at-first.ensures c.c_at-named.ensures

pub returns-then-not-fits : goal.returns-then-not-fits
returns-then-not-fits c =
    let n = rw c.in_ok-v.was at c.number_at.ensures in
    strict_stopped c.requires.0 c.kind_at-kind.ensures c.a_at-width.ensures c.b_at-first.ensures c.c_at-named.ensures _ _ c.largest-most.ensures c.allows.ensures _ c.loop.invariant.0 (omega arith) n.0 n.1 c.if-not-fits.true c.refused.ensures

pub put_number-requires : goal.put_number-requires
put_number-requires c = (row_width c.requires.0 c.a_at-width.ensures, strict_small _ _ _ _ c.largest-most.ensures c.if-not-fits.false)

pub took-d-requires : goal.took-d-requires
took-d-requires c =
    let a = run_asks c.loop.invariant.0 (omega arith) in
    omega (arith, a.left)

pub overflow_add-place : goal.overflow_add-place
overflow_add-place c =
    let a = run_asks c.loop.invariant.0 (omega arith) in
    omega (arith, a.inside, a.free, c.a_at-width.ensures)

pub loop-preserved : goal.loop-preserved
loop-preserved c =
    let n = rw c.in_ok-v.was at c.number_at.ensures in
    (strict_next c.requires.0 c.kind_at-kind.ensures c.a_at-width.ensures c.b_at-first.ensures c.c_at-named.ensures _ _ c.largest-most.ensures c.allows.ensures _ c.loop.invariant.0 (omega arith) n.0 n.1 c.if-not-fits.false c.put_number.ensures c.took-d.ensures, search rules)

pub returns : goal.returns
returns c = run_end c.loop.invariant.0 (omega arith)
