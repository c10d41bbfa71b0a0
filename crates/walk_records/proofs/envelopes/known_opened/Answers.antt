-- `known_opened` meets its contract: in line the payload is open where it stands, out of line where `deeper` opened it.
use borrow.Author.Rules.{rules}
use Rattle.walk_records.proofs.Payloads.{in_line_wrong, in_line_too_deep, in_line_open, out_of_line_wrong, out_of_line_open}
use Rattle.walk_records.proofs.envelopes.known_opened.Goals as goal

pub returns-then-flags-ne1 : goal.returns-then-flags-ne1
returns-then-flags-ne1 c = (λ t values handles row e ask. search (rules, in_line_wrong), search rules)

pub returns-then-depth-eq0 : goal.returns-then-depth-eq0
returns-then-depth-eq0 c = (λ t values handles row e ask. search (rules, in_line_too_deep), search rules)

pub returns-then-size-le4 : goal.returns-then-size-le4
returns-then-size-le4 c = (λ t values handles row e ask. search (rules, in_line_open), search rules)

pub returns-then-flags-ne0 : goal.returns-then-flags-ne0
returns-then-flags-ne0 c = (λ t values handles row e ask. search (rules, out_of_line_wrong), search rules)

pub returns : goal.returns
returns c = (λ t values handles row e ask. search (rules, out_of_line_open), search rules)
