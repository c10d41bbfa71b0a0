-- `write_records::records::claim` meets its contract: it fits, or it does not.
use borrow.Author.Rules.{rules}
use Rattle.words.proofs.Padding.{padded_fits}
use Rattle.write_records.proofs.Openings.{claim_over, claim_opened}
use Rattle.write_records.proofs.records.claim.Goals as goal

pub returns-then-c-whole : goal.returns-then-c-whole
returns-then-c-whole c = search (rules, claim_over, padded_fits)

pub returns : goal.returns
returns c = search (rules, claim_opened, padded_fits)
