-- `write_leaves::cursor::with_handles` meets its contract.
use borrow.Author.Rules.{rules}
use Rattle.write_leaves.proofs.InLine.{handles_taken, handles_over}
use Rattle.write_leaves.proofs.cursor.with_handles.Goals as goal

pub returns-then-used-gt64 : goal.returns-then-used-gt64
returns-then-used-gt64 c = search (rules, handles_over)

pub returns : goal.returns
returns c = search (rules, handles_taken)
