-- `walk_leaves::planned::part` meets its contract: a bool, or a number of a width that is allowed.
use Rattle.plans.proofs.Widths.{bytes_allowed}
use Rattle.walk_leaves.proofs.InLine.{number_given}
use Rattle.walk_leaves.proofs.ByPlan.{part_bool, part_number, part_past}
use Rattle.walk_leaves.proofs.planned.part.Goals as goal

pub returns-in-Boolean : goal.returns-in-Boolean
returns-in-Boolean c = part_bool _ _ _ _ c.in-Boolean.is c.boolean.ensures

pub returns-then-values-c : goal.returns-then-values-c
returns-then-values-c c = part_past _ _ _ _ c.in-Bytes.is c.requires.0 c.if-values-c.true

pub number_among-x-requires : goal.number_among-x-requires
number_among-x-requires c = (bytes_allowed c.in-Bytes.is c.requires.0, c.requires.2)

pub returns-else-values-c : goal.returns-else-values-c
returns-else-values-c c =
    part_number _ _ _ _ c.in-Bytes.is c.requires.0 (number_given _ _ _ _ _ c.number_among-x.ensures c.gave.ensures.0 c.gave.ensures.1)
