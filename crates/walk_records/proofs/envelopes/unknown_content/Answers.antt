-- `unknown_content` meets its contract: the flags and the byte number say in line, out of line or 15; what the payload has room for says 35.
use borrow.Author.Rules.{rules}
use Rattle.walk_records.proofs.Unknown.{in_line_impossible, form_in_line, form_neither, out_of_line_impossible, form_out_of_line}
use Rattle.walk_records.proofs.envelopes.unknown_content.Goals as goal

pub returns-then-not-can_claim : goal.returns-then-not-can_claim
returns-then-not-can_claim c = λ t. search (rules, in_line_impossible)

pub returns-then-flags-eq1 : goal.returns-then-flags-eq1
returns-then-flags-eq1 c =
    λ t. search (rules, form_in_line, c.unknown_in_line.ensures)

pub returns-then-not-formed : goal.returns-then-not-formed
returns-then-not-formed c = λ t. search (rules, form_neither)

pub returns-then-not-can_claim-2 : goal.returns-then-not-can_claim-2
returns-then-not-can_claim-2 c = λ t. search (rules, out_of_line_impossible)

pub returns : goal.returns
returns c =
    λ t. search (rules, form_out_of_line, c.unknown_out_of_line.ensures)
