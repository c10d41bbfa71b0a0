-- `write_leaves::planned::planned` meets its contract: whoever puts the values that are left has put them all.
use mathlib.Core.Path.{◌≡◌}
use Prim.Native.Nat.{◌-◌}
use lib.ListN.{length}
use Rattle.write_leaves.proofs.ByPlan.{ValuesLeft}
use Rattle.write_leaves.proofs.planned.planned.Given as goal

abbrev pub invariant-loop : goal.invariant-loop
invariant-loop l =
    ValuesLeft l.values l.parts l.size l.count l.at l.initial.out l.initial.d l.out l.d (l.count - l.counter) l.place × (length l.out ≡ length l.initial.out)
