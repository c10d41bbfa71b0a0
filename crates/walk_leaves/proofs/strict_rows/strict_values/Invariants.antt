-- `walk_leaves::strict_rows::strict_values` meets its contract: whoever does the values that are left has done them all.
use mathlib.Core.Path.{◌≡◌}
use Prim.Native.Nat.{◌-◌}
use lib.ListN.{length}
use Rattle.walk_leaves.proofs.Strict.{StrictLeft}
use Rattle.walk_leaves.proofs.strict_rows.strict_values.Given as goal

abbrev pub invariant-loop : goal.invariant-loop
invariant-loop l =
    StrictLeft l.rows l.entries l.bytes l.row l.count l.at l.initial.values l.initial.d l.values l.d (l.count - l.counter) l.place × (length l.values ≡ length l.initial.values)
