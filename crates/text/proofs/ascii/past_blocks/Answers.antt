-- `text::ascii::past_blocks` meets its contract.
use mathlib.Core.Path.{sym, ◌∙◌}
use Rattle.text.proofs.Runs.{cut_passed}
use Rattle.text.proofs.ascii.past_blocks.Goals as goal

pub loop-block-preserved : goal.loop-block-preserved
loop-block-preserved g c =
    let inv = c.loop-block.invariant in
    let steps = c.in-Some.ensures.steps in
    let ascii = c.block_ascii.ensures c.if-not-block_ascii.false in
    let passed = cut_passed g.T.Item.number c.args.text.now c.in-Some.block.now _ 32 (sym inv.1 ∙ steps.1.0) (steps.1.1 ∙ inv.0) ascii inv.2 in
    (steps.0 ∙ inv.0, passed.0, passed.1)
