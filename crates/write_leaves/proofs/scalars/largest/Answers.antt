-- `write_leaves::scalars::largest` meets its contract: the width that is left is 8.
use borrow.Author.Rules.{rules}
use Rattle.write_leaves.proofs.InLine.{largest_one, largest_two, largest_four, largest_eight}
use Rattle.write_leaves.proofs.scalars.largest.Goals as goal

pub returns-then-width-eq1 : goal.returns-then-width-eq1
returns-then-width-eq1 c = search (rules, largest_one)

pub returns-then-width-eq2 : goal.returns-then-width-eq2
returns-then-width-eq2 c = search (rules, largest_two)

pub returns-then-width-eq4 : goal.returns-then-width-eq4
returns-then-width-eq4 c = search (rules, largest_four)

pub returns : goal.returns
returns c = search (rules, largest_eight)
