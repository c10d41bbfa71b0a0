-- `walk_leaves::planned::filled` meets its contract.
use borrow.Author.Rules.{rules}
use Rattle.walk_leaves.proofs.ByPlan.{filled_none}
use Rattle.walk_leaves.proofs.planned.filled.Goals as goal

pub returns-then-count-eq0 : goal.returns-then-count-eq0
returns-then-count-eq0 c = search (rules, filled_none)
