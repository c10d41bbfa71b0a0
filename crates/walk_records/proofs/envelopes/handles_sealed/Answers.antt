-- `handles_sealed` meets its contract: 16 where the handle number is another.
use borrow.Author.Rules.{rules}
use Rattle.walk_records.proofs.Payloads.{handles_right, handles_wrong}
use Rattle.walk_records.proofs.envelopes.handles_sealed.Goals as goal

pub returns-then-load-c : goal.returns-then-load-c
returns-then-load-c c = λ t values objects handles h k. search (rules, handles_wrong)

pub returns : goal.returns
returns c = λ t values objects handles h k. search (rules, handles_right)
