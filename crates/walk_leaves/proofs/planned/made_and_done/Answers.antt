-- `walk_leaves::planned::made_and_done` meets its contract.
use lib.ListN.{take}
use Rattle.walk_leaves.proofs.planned.made_and_done.Goals as goal

pub returns : goal.returns
returns c =
    let put = rw c.in_ok-many.was at c.plan_into.ensures in
    (take c.in_ok-many.many c.plan_into.new.parts, put.1, rw (← c.item_at-size.ensures) c.planned.ensures)
