-- `taken` meets its contract: 14 where too few handles are left, and else they are used.
use borrow.Author.Rules.{rules}
use Rattle.walk_records.proofs.Unknown.{taken_few, taken_all}
use Rattle.walk_records.proofs.envelopes.taken.Goals as goal

pub returns-then-held-used : goal.returns-then-held-used
returns-then-held-used c = λ t bytes values objects content from h. search (rules, taken_few)

pub returns : goal.returns
returns c = λ t bytes values objects content from h. search (rules, taken_all)
