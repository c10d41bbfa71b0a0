-- `walk_records::records::count_record` meets its contract: a law for each answer.
use borrow.Author.Rules.{rules}
use Rattle.walk_records.proofs.Counts.{count_absent, count_absent_not_zero, count_required, count_over, count_present, count_neither}
use Rattle.walk_records.proofs.records.count_record.Goals as goal

pub returns-then-count-eq0 : goal.returns-then-count-eq0
returns-then-count-eq0 c = search (rules, count_absent)

pub returns-then-optional-eq1 : goal.returns-then-optional-eq1
returns-then-optional-eq1 c = search (rules, count_absent_not_zero)

pub returns-then-presence-eq0 : goal.returns-then-presence-eq0
returns-then-presence-eq0 c = search (rules, count_required)

pub returns-then-largest-count : goal.returns-then-largest-count
returns-then-largest-count c = search (rules, count_over)

pub returns-then-presence : goal.returns-then-presence
returns-then-presence c = search (rules, count_present)

pub returns : goal.returns
returns c = search (rules, count_neither)
