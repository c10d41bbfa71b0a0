-- `text::sequences::past_sequences` meets its contract. The loop's invariant: the machine has come so far, and a text may be judged from
-- `begun` on. The measure is what is left of the text.
use Rattle.std.proofs.Common.{◌-◌, map, length}
use Rattle.text.specs.Sequences.{Passes}
use Rattle.text.specs.Machine.{Reached}
use Rattle.text.proofs.sequences.past_sequences.Given as goal

abbrev pub invariant-loop-eight : goal.invariant-loop-eight
invariant-loop-eight g l = Passes (map g.T.Item.number l.text) l.from l.begun × Reached (map g.T.Item.number l.text) l.from l.at l.state.word

abbrev pub decreases-loop-eight : goal.decreases-loop-eight
decreases-loop-eight g l = length l.text - l.at
