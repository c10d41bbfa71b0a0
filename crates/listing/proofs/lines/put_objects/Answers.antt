-- `listing::lines::put_objects` meets its contract.
use Rattle.std.proofs.Common.{arith}
use Rattle.listing.proofs.Putting.{goes_on, goes_end, object_left, objects_end}
use Rattle.listing.proofs.lines.put_objects.Goals as goal

pub loop-object-preserved : goal.loop-object-preserved
loop-object-preserved c =
    let l = c.loop-object in
    let chunks = c.as_chunks.ensures in
    let left = object_left c.args.objects.now l.object-index _ (omega (arith, chunks.front_len)) in
    goes_on l.invariant left (omega (arith, chunks.front_len)) (rw chunks.front at c.put_object-next.ensures)

pub returns : goal.returns
returns c =
    goes_end c.loop-object.invariant (objects_end c.args.objects.now c.loop-object.object-index (omega (arith, c.as_chunks.ensures.front_len)))
