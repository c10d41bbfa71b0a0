-- `text::ascii::past_blocks` meets its contract. The loop's invariant: what stands before is passed, and the rest is still to come in blocks.
use Rattle.std.proofs.Common.{◌≡◌, map, drop}
use Rattle.std.specs.Slice.Iter.{chunks_exact_rest, chunks_exact_size}
use Rattle.text.specs.Sequences.{Passes}
use Rattle.text.proofs.ascii.past_blocks.Given as goal

abbrev pub invariant-loop-block : goal.invariant-loop-block
invariant-loop-block g l =
    (chunks_exact_size l.block-iterator ≡ 32) × (chunks_exact_rest l.block-iterator ≡ drop l.at l.text) × Passes (map g.T.Item.number l.text) l.from l.at
