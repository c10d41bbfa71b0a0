-- `walk_leaves::planned::one_width` meets its contract: all its parts are like the first.
use native.Mathlib.Omega.{arith}
use Rattle.walk_leaves.proofs.OneWidth.{all_alike, first_runs}
use Rattle.walk_leaves.proofs.planned.one_width.Goals as goal

pub returns : goal.returns
returns c =
    (first_runs c.args.parts.now c.requires (rw c.in_ok-first.was at c.first.ensures.value), all_alike c.args.parts.now _ (λ k h. c.loop-p.invariant k (omega arith)))
