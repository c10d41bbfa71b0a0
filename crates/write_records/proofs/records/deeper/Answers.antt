-- `write_records::records::deeper` meets its contract: spent, or what the claim answers.
use borrow.Author.Rules.{rules}
use Rattle.write_records.proofs.Openings.{deeper_spent, deeper_down, reaches_down}
use Rattle.write_records.proofs.records.deeper.Goals as goal

pub returns-then-depth-eq0 : goal.returns-then-depth-eq0
returns-then-depth-eq0 c = search (rules, deeper_spent)

pub returns : goal.returns
returns c = search (rules, deeper_down, reaches_down)
