-- `listing::put_counts` meets its contract: four lines.
use Rattle.listing.proofs.Putting.{puts_then}
use Rattle.listing.proofs.put_counts.Goals as goal

pub returns : goal.returns
returns c =
    puts_then c.put_line-after_bytes.ensures
    (puts_then c.put_line-after_handles.ensures (puts_then c.put_line-after_objects.ensures c.put_line.ensures))
