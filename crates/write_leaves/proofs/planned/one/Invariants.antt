-- `write_leaves::planned::one` meets its contract: whoever puts the parts that are left has put them all.
use mathlib.Core.Path.{◌≡◌}
use lib.ListN.{length, drop}
use Rattle.write_leaves.proofs.ByPlan.{PartsLeft}
use Rattle.write_leaves.proofs.planned.one.Given as goal

abbrev pub invariant-loop-p : goal.invariant-loop-p
invariant-loop-p l =
    PartsLeft l.values l.parts l.at l.initial.out l.initial.d l.out l.d (drop l.p-index l.parts) l.place × (length l.out ≡ length l.initial.out)
