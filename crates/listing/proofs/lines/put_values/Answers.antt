-- `listing::lines::put_values` meets its contract.
use Rattle.std.proofs.Common.{arith}
use Rattle.listing.proofs.Putting.{goes_on, goes_end, value_left, values_end}
use Rattle.listing.proofs.lines.put_values.Goals as goal

pub loop-value-preserved : goal.loop-value-preserved
loop-value-preserved c =
    let l = c.loop-value in
    goes_on l.invariant (value_left c.args.values.now l.value-index (omega arith)) (omega arith) c.put_line-next.ensures

pub returns : goal.returns
returns c = goes_end c.loop-value.invariant (values_end c.args.values.now c.loop-value.value-index c.loop-value-test.false)
