-- `walk_records::records::envelopes_opened` meets its contract: the last envelope lies in the object that was claimed.
use mathlib.Core.Path.{ap, ◌∙◌}
use Rattle.std.specs.Prelude.{Ok}
use borrow.Author.Rules.{rules}
use Rattle.rules.proofs.Passing.{err_passed}
use Rattle.walk_records.proofs.Openings.{opened_count}
use Rattle.walk_records.proofs.Tables.{last_fits, envelopes_spent, envelopes_over, envelopes_closed, envelopes_refused, envelopes_last_zero, envelopes_none, envelopes_last_present}
use Rattle.walk_records.proofs.records.envelopes_opened.Goals as goal

pub returns-then-depth-eq0 : goal.returns-then-depth-eq0
returns-then-depth-eq0 c = search (rules, envelopes_spent)

pub returns-then-count-gt8192 : goal.returns-then-count-gt8192
returns-then-count-gt8192 c = search (rules, envelopes_over)

pub overflow_add-last : goal.overflow_add-last
overflow_add-last c = search (rules, last_fits, c.in_ok-opened.was ∙ ap Ok c.in-Open.is)

pub returns-then-load-eq0 : goal.returns-then-load-eq0
returns-then-load-eq0 c = search (rules, envelopes_last_zero, c.in_ok-opened.was ∙ ap Ok c.in-Open.is)

pub returns-in_err-opened : goal.returns-in_err-opened
returns-in_err-opened c =
    rw (err_passed c.from_residual.ensures.1) (envelopes_refused _ _ _ _ _ _ _ _ _ c.deeper.ensures.0 c.in_err-opened.was, tt, tt)

pub returns-in-Closed : goal.returns-in-Closed
returns-in-Closed c = search (rules, envelopes_closed, c.in_ok-opened.was ∙ ap Ok c.in-Closed.is)

pub returns-else-load-eq0 : goal.returns-else-load-eq0
returns-else-load-eq0 c = search (rules, envelopes_last_present, opened_count, c.in_ok-opened.was ∙ ap Ok c.in-Open.is)

pub returns-else-envelopes-gt0 : goal.returns-else-envelopes-gt0
returns-else-envelopes-gt0 c = search (rules, envelopes_none, opened_count, c.in_ok-opened.was ∙ ap Ok c.in-Open.is)
