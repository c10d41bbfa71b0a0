-- `plans::plan_of` meets its contract: past the parts its array is as it was made.
use Rattle.plans.proofs.Padding.{padded_end}
use Rattle.plans.proofs.plan_of.Goals as goal

pub invariant_of-result : goal.invariant_of-result
invariant_of-result c =
    let put = rw c.in_ok-count.was at c.plan_into.ensures in
    (put.0, c.plan_into.array_long, padded_end c.plan_into.new.parts c.in_ok-count.count c.plan_into.array_long put.0 put.2)
