-- `walk_leaves::claims::fill_at` meets its contract.
use borrow.Author.Rules.{rules}
use Rattle.walk_leaves.proofs.Objects.{fill_refused, fill_passed}
use Rattle.walk_leaves.proofs.claims.fill_at.Goals as goal

pub returns-then-zeros-count : goal.returns-then-zeros-count
returns-then-zeros-count c = search (rules, fill_refused)

pub returns : goal.returns
returns c = search (rules, fill_passed)
