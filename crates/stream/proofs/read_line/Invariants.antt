-- `stream::read_line` meets its contract. The loop's invariant: reading on comes to the same as reading the line whole.
use Rattle.stream.proofs.Laws.{Reads}
use Rattle.stream.proofs.read_line.Given as goal

abbrev pub invariant-loop-at : goal.invariant-loop-at
invariant-loop-at l = Reads l.text l.initial.numbers l.value l.count l.at l.numbers
