-- `walk_leaves::scalars::handle` meets its contract: a law for each way that it ends.
use borrow.Author.Rules.{rules}
use Rattle.walk_leaves.proofs.InLine.{handle_absent, handle_required, handle_taken, handle_missing, handle_wrong}
use Rattle.walk_leaves.proofs.scalars.handle.Goals as goal

pub returns-then-optional-eq1 : goal.returns-then-optional-eq1
returns-then-optional-eq1 c = search (rules, handle_absent)

pub returns-then-word-eq0 : goal.returns-then-word-eq0
returns-then-word-eq0 c = search (rules, handle_required)

pub returns-then-used-held : goal.returns-then-used-held
returns-then-used-held c = search (rules, handle_taken)

pub returns-then-word : goal.returns-then-word
returns-then-word c = search (rules, handle_missing)

pub returns : goal.returns
returns c = search (rules, handle_wrong)
