-- `layout::kinds::struct_members` meets its contract: a turn is one step of `struct_members`.
use mathlib.Core.Path.{◌≡◌}
use Prim.Native.Nat.{◌+◌, ◌-◌}
use Rattle.rules.specs.TypeTable.{TypeTable}
use Rattle.rules.specs.Sound.{struct_members}
use Rattle.layout.proofs.kinds.struct_members.Given as goal

abbrev pub invariant-loop-i : goal.invariant-loop-i
invariant-loop-i l =
    (t : TypeTable) → t.members ≡ l.members → struct_members t l.row l.first l.count 1 ≡ struct_members t l.row (l.first + l.i) (l.count - l.i) (l.i + 1)
