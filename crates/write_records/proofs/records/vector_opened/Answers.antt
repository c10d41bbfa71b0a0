-- `write_records::records::vector_opened` meets its contract: a law for each answer; the count is bounded by the largest, which is a `u32`.
use native.Mathlib.Omega.{arith}
use Rattle.std.specs.Prelude.{Err, Ok}
use borrow.Author.Rules.{rules}
use Rattle.rules.proofs.Passing.{err_passed}
use Rattle.write_leaves.proofs.InLine.{took_held, took_some}
use Rattle.write_records.proofs.Openings.{took_free}
use Rattle.write_records.proofs.Counts.{elements_below, elements_fit, counted_ended, counted_required, counted_absent, counted_over, counted_opened}
use Rattle.write_records.proofs.records.vector_opened.Goals as goal

pub returns-then-values-c : goal.returns-then-values-c
returns-then-values-c c = search (rules, counted_ended)

pub returns-then-optional-ne1 : goal.returns-then-optional-ne1
returns-then-optional-ne1 c = search (rules, counted_required)

pub returns-then-v-eq0 : goal.returns-then-v-eq0
returns-then-v-eq0 c = search (rules, counted_absent)

pub returns-then-largest-count : goal.returns-then-largest-count
returns-then-largest-count c = search (rules, counted_over)

pub overflow_mul-count : goal.overflow_mul-count
overflow_mul-count c = search (rules, elements_fit)

pub deeper-requires : goal.deeper-requires
deeper-requires c = (search (rules, took_free), search (rules, took_held), search (rules, took_some), search (rules, elements_below))

pub returns : goal.returns
returns c =
    let p = c.in_ok-x.ensures in
    (counted_opened _ _ _ _ _ _ _ _ c.requires.0 (omega arith) c.item_at-v.ensures c.if-v-eq0.false (Ok c.in_ok-x.x) (omega arith) c.ranges.largest c.store-2.ensures c.store-3.ensures c.took-2.ensures p.0 p.1, p.2)

pub returns-in_err-x : goal.returns-in_err-x
returns-in_err-x c =
    let p = c.in_err-x.ensures in
    rw (err_passed c.from_residual.ensures.1)
    (counted_opened _ _ _ _ _ _ _ _ c.requires.0 (omega arith) c.item_at-v.ensures c.if-v-eq0.false (Err _) (omega arith) c.ranges.largest c.store-2.ensures c.store-3.ensures c.took-2.ensures p.0 p.1, tt)
