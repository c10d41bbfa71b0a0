-- `write_leaves::strict_rows::strict_values` meets its contract: whoever puts the values that are left has put them all.
use mathlib.Core.Path.{◌≡◌}
use Prim.Native.Nat.{◌-◌}
use lib.ListN.{length}
use Rattle.write_leaves.proofs.Strict.{StrictLeft}
use Rattle.write_leaves.proofs.strict_rows.strict_values.Given as goal

abbrev pub invariant-loop : goal.invariant-loop
invariant-loop l =
    StrictLeft l.rows l.entries l.values l.row l.count l.at l.initial.out l.initial.d l.out l.d (l.count - l.counter) l.place × (length l.out ≡ length l.initial.out)
