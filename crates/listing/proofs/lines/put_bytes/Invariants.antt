-- `listing::lines::put_bytes` meets its contract. The loop's invariant: whoever puts the rest has put all.
use Rattle.std.proofs.Common.{◌-◌, length, drop}
use Rattle.listing.proofs.Putting.{Goes}
use Rattle.listing.proofs.lines.put_bytes.Given as goal

abbrev pub invariant-loop-byte : goal.invariant-loop-byte
invariant-loop-byte l =
    Goes l.initial.out l.at l.text (length l.text) l.out l.next (drop l.byte-index l.text) (length l.text - l.byte-index)
