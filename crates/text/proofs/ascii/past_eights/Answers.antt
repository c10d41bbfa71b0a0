-- `text::ascii::past_eights` meets its contract.
use Rattle.text.proofs.Laws.{both_passed}
use Rattle.text.proofs.Runs.{chunk_passed}
use Rattle.text.proofs.ascii.past_eights.Goals as goal

pub loop-eight-preserved : goal.loop-eight-preserved
loop-eight-preserved g c =
    let chunk = c.in-Some.ensures.lookup.0 in
    both_passed (chunk_passed g.T.Item.number c.args.text.now 8 chunk.1 chunk.2 (c.are_ascii.ensures c.if-not-are_ascii.false) c.loop-eight.invariant) c.past_blocks-at.ensures
