-- `walk_leaves::scalars::boolean` meets its contract.
use borrow.Author.Rules.{rules}
use Rattle.walk_leaves.proofs.InLine.{bool_refused, bool_given}
use Rattle.walk_leaves.proofs.scalars.boolean.Goals as goal

pub returns-then-b-gt1 : goal.returns-then-b-gt1
returns-then-b-gt1 c = search (rules, bool_refused)

pub returns : goal.returns
returns c = search (rules, bool_given)
