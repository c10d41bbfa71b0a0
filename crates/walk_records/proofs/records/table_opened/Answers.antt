-- `walk_records::records::table_opened` meets its contract: a law for each answer.
use borrow.Author.Rules.{rules}
use Rattle.walk_records.proofs.Openings.{bytes_gave}
use Rattle.walk_records.proofs.Tables.{table_absent, table_opened, table_neither}
use Rattle.walk_records.proofs.records.table_opened.Goals as goal

pub returns-then-presence-eq0 : goal.returns-then-presence-eq0
returns-then-presence-eq0 c = search (rules, table_absent)

pub envelopes_opened-requires : goal.envelopes_opened-requires
envelopes_opened-requires c = (search (rules, bytes_gave), search rules)

pub returns-then-presence : goal.returns-then-presence
returns-then-presence c = search (rules, table_opened)

pub returns : goal.returns
returns c = search (rules, table_neither)
