-- `listing::lines::put_object` meets its contract: four numbers, each behind its label, then a line feed.
use Rattle.listing.proofs.Putting.{puts_then}
use Rattle.listing.proofs.lines.put_object.Goals as goal

pub returns : goal.returns
returns c =
    puts_then (rw c.from.ensures at c.put_labelled-after_kind.ensures)
    (puts_then (rw c.from-2.ensures at c.put_labelled-after_row.ensures)
    (puts_then (rw c.from-3.ensures at c.put_labelled-after_offset.ensures)
    (puts_then (rw c.from-4.ensures at c.put_labelled-after_size.ensures) c.put_byte.ensures)))
