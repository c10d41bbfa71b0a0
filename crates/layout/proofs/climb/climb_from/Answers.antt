-- `layout::climb::climb_from` meets its contract: a turn judges one row and keeps its layout.
use Rattle.std.proofs.lemmas.Result.{err_from_is_err_and}
use mathlib.Core.Path.{sym, ◌∙◌}
use native.Mathlib.Omega.{arith}
use Rattle.layout.proofs.Climbing as climbing
use Rattle.layout.proofs.climb.climb_from.Goals as goal

pub returns-then-not-lists_whole : goal.returns-then-not-lists_whole
returns-then-not-lists_whole c =
    rw c.at.ensures (climbing.climbed_refused _ _ (climbing.lists_refused _ (sym c.lists_whole.ensures ∙ c.if-not-lists_whole.true)))

pub returns-in_err-l : goal.returns-in_err-l
returns-in_err-l c =
    let p = err_from_is_err_and c.from_residual.result c.from_residual.ensures.1 in
    rw (p.1, p.2) (climbing.climbed_refused _ _ (climbing.row_refused c.loop-row.invariant (omega arith) c.judge.result c.judge.ensures _ c.in_err-l.was))

pub overflow_cast-sizes : goal.overflow_cast-sizes
overflow_cast-sizes c = omega (arith, climbing.row_fits_lists c.loop-row.invariant (omega arith) c.judge.result c.judge.ensures c.in_ok-l.l c.in_ok-l.was)

pub overflow_cast-alignments : goal.overflow_cast-alignments
overflow_cast-alignments c = omega (arith, climbing.row_fits_lists c.loop-row.invariant (omega arith) c.judge.result c.judge.ensures c.in_ok-l.l c.in_ok-l.was)

pub returns : goal.returns
returns c = climbing.climbed_sound c.loop-row.invariant (omega arith)
