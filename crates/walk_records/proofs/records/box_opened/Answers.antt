-- `walk_records::records::box_opened` meets its contract: a law for each answer.
use native.Mathlib.Omega.{arith}
use borrow.Author.Rules.{rules}
use Rattle.walk_records.proofs.Openings.{bytes_gave}
use Rattle.walk_records.proofs.Boxes.{box_closed, box_opened, box_refused}
use Rattle.walk_records.proofs.records.box_opened.Goals as goal

pub returns-then-presence-eq0 : goal.returns-then-presence-eq0
returns-then-presence-eq0 c = search (rules, box_closed)

pub deeper-requires : goal.deeper-requires
deeper-requires c = (search (rules, bytes_gave), search rules, omega arith)

pub returns-then-presence : goal.returns-then-presence
returns-then-presence c = search (rules, box_opened)

pub returns : goal.returns
returns c = search (rules, box_refused)
