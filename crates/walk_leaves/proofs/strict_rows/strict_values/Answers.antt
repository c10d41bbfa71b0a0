-- `walk_leaves::strict_rows::strict_values` meets its contract: whoever does the values that are left has done them all.
use mathlib.Core.Path.{refl}
use native.Mathlib.Omega.{arith}
use borrow.Author.Rules.{rules}
use Rattle.strict.proofs.Numbers.{row_width, row_searchable}
use Rattle.nesting.proofs.Runs.{run_asks, run_end}
use Rattle.nesting.proofs.Counted.{turns_start}
use Rattle.walk_leaves.proofs.Strict.{strict_stopped, strict_next}
use Rattle.walk_leaves.proofs.strict_rows.strict_values.Goals as goal

pub loop-init : goal.loop-init
loop-init c = (turns_start _ _ refl c.requires.1, refl)

pub number_of-x-requires : goal.number_of-x-requires
number_of-x-requires c = row_width c.requires.0 c.a_at-width.ensures

pub allows-requires : goal.allows-requires
allows-requires c = row_searchable c.requires.0 c.kind_at-kind.ensures c.b_at-first.ensures c.c_at-named.ensures

pub returns-then-not-allows : goal.returns-then-not-allows
returns-then-not-allows c = strict_stopped c.requires.0 c.kind_at-kind.ensures c.a_at-width.ensures c.b_at-first.ensures c.c_at-named.ensures _ _ c.number_of-x.ensures c.allows.ensures c.loop.invariant.0 (omega arith) c.if-not-allows.true c.refused.ensures

pub gave-d-requires : goal.gave-d-requires
gave-d-requires c =
    let a = run_asks c.loop.invariant.0 (omega arith) in
    omega (arith, a.small)

pub overflow_add-place : goal.overflow_add-place
overflow_add-place c =
    let a = run_asks c.loop.invariant.0 (omega arith) in
    omega (arith, a.inside, a.short, c.a_at-width.ensures)

pub loop-preserved : goal.loop-preserved
loop-preserved c = (strict_next c.requires.0 c.kind_at-kind.ensures c.a_at-width.ensures c.b_at-first.ensures c.c_at-named.ensures _ _ c.number_of-x.ensures c.allows.ensures c.loop.invariant.0 (omega arith) c.if-not-allows.false c.gave-d.ensures.0 c.gave-d.ensures.1, search rules)

pub returns : goal.returns
returns c = run_end c.loop.invariant.0 (omega arith)
