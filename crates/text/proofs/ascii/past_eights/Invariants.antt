-- `text::ascii::past_eights` meets its contract. The loop's invariant: what stands before is passed. The measure is what is left of the text.
use Rattle.std.proofs.Common.{◌-◌, map, length}
use Rattle.text.specs.Sequences.{Passes}
use Rattle.text.proofs.ascii.past_eights.Given as goal

abbrev pub invariant-loop-eight : goal.invariant-loop-eight
invariant-loop-eight g l = Passes (map g.T.Item.number l.text) 0 l.at

abbrev pub decreases-loop-eight : goal.decreases-loop-eight
decreases-loop-eight g l = length l.text - l.at
