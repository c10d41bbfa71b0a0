-- `walk_leaves::scalars::number_of` meets its contract: a load for each width; the width that is left is a byte.
use borrow.Author.Rules.{rules}
use Rattle.walk_leaves.proofs.InLine.{number_byte}
use Rattle.walk_leaves.proofs.scalars.number_of.Goals as goal

pub returns-then-width-eq8 : goal.returns-then-width-eq8
returns-then-width-eq8 c = cc

pub returns-then-width-eq4 : goal.returns-then-width-eq4
returns-then-width-eq4 c = cc

pub returns-then-width-eq2 : goal.returns-then-width-eq2
returns-then-width-eq2 c = cc

pub returns : goal.returns
returns c = search (rules, number_byte)
