-- `walk_leaves::scalars::store_each` meets its contract. The loop's invariant: the rest of the numbers lies in a message that is not
-- too long, and to store it as well is to store them all.
use Prim.Native.Nat.{◌+◌}
use Rattle.walk_leaves.proofs.InLine.{Stored, Inside}
use Rattle.walk_leaves.proofs.scalars.store_each.Given as goal

abbrev pub invariant-loop-i : goal.invariant-loop-i
invariant-loop-i l =
    Inside 65536 l.width (l.first + l.count) l.i l.p × Stored l.bytes l.initial.values l.width l.count l.at l.first (l.first + l.count) l.values l.i l.p
