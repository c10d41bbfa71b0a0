-- `write_leaves::scalars::put_bytes` meets its contract. The loop's invariant: the numbers before `i` are stored, as in a run of any
-- width. Assumes nothing.
use mathlib.Core.Path.{◌≡◌}
use Prim.Native.Nat.{◌+◌}
use lib.ListN.{length}
use Rattle.write_leaves.proofs.InLine.{Run}
use Rattle.write_leaves.proofs.scalars.put_bytes.Given as goal

abbrev pub invariant-loop-i : goal.invariant-loop-i
invariant-loop-i l = (length l.out ≡ length l.initial.out) × Run l.values l.initial.out 1 l.count l.at l.c l.out l.i (l.at + l.i)
