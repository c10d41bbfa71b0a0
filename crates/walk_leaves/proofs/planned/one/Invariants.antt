-- `walk_leaves::planned::one` meets its contract: whoever does the parts that are left has done them all.
use mathlib.Core.Path.{◌≡◌}
use lib.ListN.{length, drop}
use Rattle.walk_leaves.proofs.ByPlan.{PartsLeft}
use Rattle.walk_leaves.proofs.planned.one.Given as goal

abbrev pub invariant-loop-p : goal.invariant-loop-p
invariant-loop-p l =
    PartsLeft l.bytes l.parts l.at l.initial.values l.initial.d l.values l.d (drop l.p-index l.parts) l.place × (length l.values ≡ length l.initial.values)
