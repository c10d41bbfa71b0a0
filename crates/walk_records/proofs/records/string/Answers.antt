-- `walk_records::records::string` meets its contract: its object is open, and its text is judged once it is given.
use mathlib.Core.Path.{refl, ap, ◌∙◌}
use Rattle.std.specs.Prelude.{Ok}
use borrow.Author.Rules.{rules}
use Rattle.rules.proofs.Passing.{err_passed}
use Rattle.walk_records.proofs.Strings.{string_inside, string_room, string_closed, string_refused, string_judged}
use Rattle.walk_records.proofs.records.string.Goals as goal

pub numbers-e-requires : goal.numbers-e-requires
numbers-e-requires c = (refl, search (rules, string_inside, c.in_ok-opened.was ∙ ap Ok c.in-Open.is), search (rules, string_room, c.in_ok-opened.was ∙ ap Ok c.in-Open.is))

pub returns-in-Closed : goal.returns-in-Closed
returns-in-Closed c = search (rules, string_closed, c.in_ok-opened.was ∙ ap Ok c.in-Closed.is)

pub returns-in_err-opened : goal.returns-in_err-opened
returns-in_err-opened c = rw (err_passed c.from_residual.ensures.1) (search (rules, string_refused, c.in_err-opened.was))

pub returns-in-Open : goal.returns-in-Open
returns-in-Open c = search (rules, string_judged, c.in_ok-opened.was ∙ ap Ok c.in-Open.is)
