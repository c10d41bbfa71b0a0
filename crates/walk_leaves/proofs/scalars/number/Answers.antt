-- `walk_leaves::scalars::number` meets its contract.
use borrow.Author.Rules.{rules}
use Rattle.walk_leaves.proofs.InLine.{number_given}
use Rattle.walk_leaves.proofs.scalars.number.Goals as goal

pub returns : goal.returns
returns c = search (rules, number_given)
