-- `text::ascii::block_ascii` meets its contract.
use Rattle.rules.proofs.Tests.{both}
use Rattle.text.proofs.Runs.{four_joined}
use Rattle.text.proofs.ascii.block_ascii.Goals as goal

pub returns : goal.returns
returns g c test =
    let halves = both _ _ test in
    let lower = both _ _ halves.0 in
    let upper = both _ _ halves.1 in
    four_joined g.T.Item.number c.args.block.now (c.are_ascii.ensures lower.0) (c.are_ascii-2.ensures lower.1) (c.are_ascii-3.ensures upper.0) (c.are_ascii-4.ensures upper.1)
