-- `layout::kinds::rising_members` meets its contract: a turn is one step of `rising_members`.
use mathlib.Core.Path.{◌≡◌}
use Prim.Native.Nat.{◌+◌, ◌-◌}
use Rattle.rules.specs.TypeTable.{TypeTable}
use Rattle.rules.specs.Sound.{rising_members}
use Rattle.layout.proofs.kinds.rising_members.Given as goal

abbrev pub invariant-loop-ordinal : goal.invariant-loop-ordinal
invariant-loop-ordinal l =
    (t : TypeTable) → t.rows ≡ l.rows → t.members ≡ l.members
    → rising_members t l.first l.count 0 ≡ rising_members t (l.first + l.ordinal-index) (l.count - l.ordinal-index) l.before
