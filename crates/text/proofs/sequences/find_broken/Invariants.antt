-- `text::sequences::find_broken` meets its contract. The loop's invariant: the machine is there, and the sequence that it is in began at
-- `start`.
use Rattle.std.proofs.Common.{map}
use Rattle.text.specs.Machine.{At}
use Rattle.text.proofs.sequences.find_broken.Given as goal

abbrev pub invariant-loop-at : goal.invariant-loop-at
invariant-loop-at g l = At (map g.T.Item.number l.text) l.from l.at l.start l.state.word
