-- `write_leaves::cursor::put_zeros` meets its contract. The loop's invariant: to store the rest of the zeros as well is to store them all.
use Rattle.write_leaves.proofs.Filling.{Filled}
use Rattle.write_leaves.proofs.cursor.put_zeros.Given as goal

abbrev pub invariant-loop-i : goal.invariant-loop-i
invariant-loop-i l = Filled l.initial.out l.at l.count l.out l.i
