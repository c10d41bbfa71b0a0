-- `walk_leaves::planned::planned` meets its contract: bools within 1 are numbers of one byte; of any other values, whoever does those
-- that are left has done them all.
use mathlib.Core.Path.{◌≡◌}
use Prim.Native.Nat.{◌-◌}
use lib.ListN.{length}
use Rattle.walk_leaves.proofs.ByPlan.{ValuesLeft}
use Rattle.walk_leaves.proofs.planned.planned.Given as goal

abbrev pub invariant-loop : goal.invariant-loop
invariant-loop l =
    ValuesLeft l.bytes l.parts l.size l.count l.at l.initial.values l.initial.d l.values l.d (l.count - l.counter) l.place × (length l.values ≡ length l.initial.values)
