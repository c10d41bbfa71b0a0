-- `listing::put_lists` meets its contract: the counts, then the objects, then the values.
use Rattle.listing.proofs.Putting.{puts_then}
use Rattle.listing.proofs.put_lists.Goals as goal

pub returns : goal.returns
returns c =
    puts_then c.put_counts-after_counts.ensures (puts_then c.put_objects-after_objects.ensures c.put_values.ensures)
