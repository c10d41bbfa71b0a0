-- `write_leaves::scalars::put_word` meets its contract: a store for each width; the width that is left is 8.
use borrow.Author.Rules.{rules}
use Rattle.write_leaves.proofs.InLine.{fits_one, fits_two, fits_four, eight_stored}
use Rattle.write_leaves.proofs.scalars.put_word.Goals as goal

pub overflow_cast-v : goal.overflow_cast-v
overflow_cast-v c = search (rules, fits_one)

pub overflow_cast-v-then-width-eq2 : goal.overflow_cast-v-then-width-eq2
overflow_cast-v-then-width-eq2 c = search (rules, fits_two)

pub overflow_cast-v-then-width-eq4 : goal.overflow_cast-v-then-width-eq4
overflow_cast-v-then-width-eq4 c = search (rules, fits_four)

pub returns-then-width-eq1 : goal.returns-then-width-eq1
returns-then-width-eq1 c = cc

pub returns-then-width-eq2 : goal.returns-then-width-eq2
returns-then-width-eq2 c = cc

pub returns-then-width-eq4 : goal.returns-then-width-eq4
returns-then-width-eq4 c = cc

pub returns-else-width-eq4 : goal.returns-else-width-eq4
returns-else-width-eq4 c = search (rules, eight_stored)
