-- `ordinals::ordinal_of` meets its contract: what is left between `low` and `high` is what the whole search finds, and it
-- falls.
use Prim.Native.Nat.{◌-◌}
use Rattle.ordinals.proofs.Halving.{Searched}
use Rattle.ordinals.proofs.ordinal_of.Given as goal

abbrev pub invariant-loop-low : goal.invariant-loop-low
invariant-loop-low l = Searched l.members l.first l.count l.ordinal l.low l.high

abbrev pub decreases-loop-low : goal.decreases-loop-low
decreases-loop-low l = l.high - l.low
