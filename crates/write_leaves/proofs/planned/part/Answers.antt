-- `write_leaves::planned::part` meets its contract: a bool, or a number of a width that is allowed.
use Rattle.plans.proofs.Widths.{bytes_allowed}
use Rattle.write_leaves.proofs.ByPlan.{part_bool, part_number}
use Rattle.write_leaves.proofs.planned.part.Goals as goal

pub returns-in-Boolean : goal.returns-in-Boolean
returns-in-Boolean c = part_bool c.in-Boolean.is c.boolean.ensures

pub number-requires : goal.number-requires
number-requires c = (bytes_allowed c.in-Bytes.is c.requires.0, c.requires.1)

pub returns-in-Bytes : goal.returns-in-Bytes
returns-in-Bytes c = part_number c.in-Bytes.is c.requires.0 c.number.ensures
