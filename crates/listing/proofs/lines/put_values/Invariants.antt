-- `listing::lines::put_values` meets its contract. The loop's invariant: whoever puts the rest has put all.
use Rattle.std.proofs.Common.{◌*◌, ◌-◌, length, drop}
use Rattle.listing.specs.Lines.{value_lines}
use Rattle.listing.proofs.Putting.{Goes}
use Rattle.listing.proofs.lines.put_values.Given as goal

abbrev pub invariant-loop-value : goal.invariant-loop-value
invariant-loop-value l =
    Goes l.initial.out l.at (value_lines l.values) (27 * length l.values) l.out l.next (value_lines (drop l.value-index l.values)) (27 * (length l.values - l.value-index))
