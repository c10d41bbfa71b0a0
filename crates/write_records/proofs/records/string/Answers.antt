-- `string` meets its contract: a law for each way that it ends, and for what it asks on the way.
use Rattle.std.specs.Prelude.{Ok}
use Rattle.rules.proofs.Passing.{err_passed}
use mathlib.Core.Path.{refl, ap, ◌∙◌}
use native.Mathlib.Omega.{arith}
use borrow.Author.Rules.{rules}
use Rattle.write_records.proofs.Texts.{string_claimed, string_index_fits, string_from, string_to, string_closed, string_refused, string_halted, string_put, string_unfit}
use Rattle.write_records.proofs.records.string.Goals as goal

pub object_of_numbers-requires : goal.object_of_numbers-requires
object_of_numbers-requires c = let e = c.in_ok-d.was ∙ ap Ok c.in-Open.is in (refl, search (rules, string_claimed, e))

pub offset_bounds-values-first : goal.offset_bounds-values-first
offset_bounds-values-first c =
    let e = c.in_ok-d.was ∙ ap Ok c.in-Open.is in
    string_index_fits c.args.values.now c.args.out.now c.vector_opened.new.out c.args.depth c.args.at c.args.base c.args.c c.args.largest c.args.optional _ c.requires c.vector_opened.ensures.0 e (omega arith)

pub slice_bounds-are_utf8-count : goal.slice_bounds-are_utf8-count
slice_bounds-are_utf8-count c = let e = c.in_ok-d.was ∙ ap Ok c.in-Open.is in search (rules, string_from, e, c.in_ok-d-in-Open.was)

pub slice_bounds-are_utf8-start : goal.slice_bounds-are_utf8-start
slice_bounds-are_utf8-start c = let e = c.in_ok-d.was ∙ ap Ok c.in-Open.is in search (rules, string_from, e, c.in_ok-d-in-Open.was)

pub slice_bounds-are_utf8-end : goal.slice_bounds-are_utf8-end
slice_bounds-are_utf8-end c =
    let e = c.in_ok-d.was ∙ ap Ok c.in-Open.is in
    string_to c.args.values.now c.args.out.now c.vector_opened.new.out c.args.depth c.args.at c.args.base c.args.c c.args.largest c.args.optional _ c.requires c.vector_opened.ensures.0 e c.object_of_numbers.ensures c.in_ok-d-in-Open.was

pub returns-then-not-are_utf8 : goal.returns-then-not-are_utf8
returns-then-not-are_utf8 c = let e = c.in_ok-d.was ∙ ap Ok c.in-Open.is in search (rules, string_unfit, e, c.in_ok-d-in-Open.was)

pub returns-in-Closed : goal.returns-in-Closed
returns-in-Closed c = let e = c.in_ok-d.was ∙ ap Ok c.in-Closed.is in search (rules, string_closed, e)

pub returns-in_err-d : goal.returns-in_err-d
returns-in_err-d c = rw (err_passed c.from_residual.ensures.1) (search (rules, string_refused, c.in_err-d.was))

pub returns-in_err-d-in-Open : goal.returns-in_err-d-in-Open
returns-in_err-d-in-Open c =
    let e = c.in_ok-d.was ∙ ap Ok c.in-Open.is in
    rw (err_passed c.from_residual-in_err-d-in-Open.ensures.1) (search (rules, string_halted, e, c.in_err-d-in-Open.was))

pub returns-else-not-are_utf8 : goal.returns-else-not-are_utf8
returns-else-not-are_utf8 c = let e = c.in_ok-d.was ∙ ap Ok c.in-Open.is in search (rules, string_put, e, c.in_ok-d-in-Open.was)
