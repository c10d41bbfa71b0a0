-- `walk_records::records::vector_opened` meets its contract: a law for each arm; the count is bounded by the largest, which is a `u32`.
use mathlib.Core.Path.{ap, ◌∙◌}
use Rattle.std.specs.Prelude.{Ok}
use borrow.Author.Rules.{rules}
use Rattle.rules.proofs.Passing.{err_passed}
use Rattle.walk_records.proofs.Openings.{bytes_gave}
use Rattle.walk_records.proofs.Counts.{count_fits, elements_below, elements_fit, counted_closed, counted_refused, counted_opened}
use Rattle.walk_records.proofs.records.vector_opened.Goals as goal

pub overflow_add-count : goal.overflow_add-count
overflow_add-count c = search (rules, count_fits, c.in_ok-count_record.was ∙ ap Ok c.in-Some.is)

pub overflow_mul-count : goal.overflow_mul-count
overflow_mul-count c = search (rules, elements_fit, c.in_ok-count_record.was ∙ ap Ok c.in-Some.is)

pub deeper-requires : goal.deeper-requires
deeper-requires c = (search (rules, bytes_gave), search rules, search (rules, elements_below, c.in_ok-count_record.was ∙ ap Ok c.in-Some.is))

pub returns-in-None : goal.returns-in-None
returns-in-None c = search (rules, counted_closed, c.in_ok-count_record.was ∙ ap Ok c.in-None.is)

pub returns-in_err-count_record : goal.returns-in_err-count_record
returns-in_err-count_record c = rw (err_passed c.from_residual.ensures.1) (search (rules, counted_refused, c.in_err-count_record.was))

pub returns-in-Some : goal.returns-in-Some
returns-in-Some c = search (rules, counted_opened, c.in_ok-count_record.was ∙ ap Ok c.in-Some.is)
