-- `text::ascii::past_ascii` meets its contract. The loop's invariant: what stands before is passed.
use Rattle.std.proofs.Common.{map}
use Rattle.text.specs.Sequences.{Passes}
use Rattle.text.proofs.ascii.past_ascii.Given as goal

abbrev pub invariant-loop-at : goal.invariant-loop-at
invariant-loop-at g l = Passes (map g.T.Item.number l.text) 0 l.at
