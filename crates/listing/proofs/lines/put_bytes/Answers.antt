-- `listing::lines::put_bytes` meets its contract.
use Rattle.std.proofs.Common.{arith, drop_of_length-le}
use Rattle.listing.proofs.Putting.{goes_on, goes_end, byte_left}
use Rattle.listing.proofs.lines.put_bytes.Goals as goal

pub loop-byte-preserved : goal.loop-byte-preserved
loop-byte-preserved c =
    let l = c.loop-byte in
    goes_on l.invariant (byte_left c.args.text.now l.byte-index (omega arith)) (omega arith) c.put_byte-next.ensures

pub returns : goal.returns
returns c = goes_end c.loop-byte.invariant (drop_of_length-le _ c.loop-byte-test.false)
