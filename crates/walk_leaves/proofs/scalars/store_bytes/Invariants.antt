-- `walk_leaves::scalars::store_bytes` meets its contract. The loop's invariant: the bytes before `i` are stored.
use mathlib.Core.Path.{◌≡◌}
use lib.ListN.{length, take}
use Rattle.walk_leaves.proofs.scalars.store_bytes.Given as goal

abbrev pub invariant-loop-i : goal.invariant-loop-i
invariant-loop-i l = (length l.values ≡ length l.bytes) × (take l.i l.values ≡ take l.i l.bytes)
