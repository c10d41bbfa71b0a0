-- `listing::lines::put_objects` meets its contract. The loop's invariant: whoever puts the rest has put all.
use Rattle.std.proofs.Common.{◌*◌, ◌-◌, length, drop}
use Rattle.listing.specs.Lines.{object_lines}
use Rattle.listing.proofs.Putting.{Goes}
use Rattle.listing.proofs.lines.put_objects.Given as goal

abbrev pub invariant-loop-object : goal.invariant-loop-object
invariant-loop-object l =
    Goes l.initial.out l.at (object_lines l.objects) (23 * length l.objects) l.out l.next (object_lines (drop (l.object-index * 4) l.objects)) (23 * (length l.objects - l.object-index * 4))
