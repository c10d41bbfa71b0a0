-- The cycle of calls of layouts: a row that is not kept is made of rows that its kind names, and those have smaller numbers.
use Prim.Native.Nat.{◌+◌, ◌-◌, ◌*◌}
use Rattle.rules.specs.TypeTable.{type_table}
use Rattle.layout.proofs.Members.{Placing}
use Rattle.layout.proofs.calculator.+inner_layout_row_layout_struct_layout.Given as goal

abbrev pub decreases-inner_layout : goal.decreases-inner_layout
decreases-inner_layout l = 3 * l.row + 2

abbrev pub decreases-row_layout : goal.decreases-row_layout
decreases-row_layout l = 3 * l.row + 1

abbrev pub decreases-struct_layout : goal.decreases-struct_layout
decreases-struct_layout l = 3 * l.row

abbrev pub invariant-struct_layout-loop-member : goal.invariant-struct_layout-loop-member
invariant-struct_layout-loop-member l = Placing (type_table l.rows l.members l.entries) l.row l.member ((l.first + l.count) - l.member) l.so_far
