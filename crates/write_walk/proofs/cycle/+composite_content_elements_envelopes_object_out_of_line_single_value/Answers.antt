-- The eight functions of cycle.rt that call each other meet their contracts. For each function: what its callees promise, its
-- loop's invariant and measure, and an answer to each need that `search rules` does not find; those that it finds stand at the
-- end, where all is put together.
--
-- What falls at each call: 1,048,576 times the depth left, plus four times the row, plus the elements or envelopes left. What is
-- added last keeps functions apart that call each other on one row and one depth.
use Rattle.std.specs.Prelude.{Ok}
use mathlib.Core.Path.{refl, sym, ap, ◌∙◌}
use Prim.Native.Nat.{ℕ, ◌+◌, ◌*◌, ◌<◌}
use native.Mathlib.Omega.{arith}
use borrow.Author.Rules.{rules}
use lib.ListN.{length}
use Rattle.layout.specs.Ready.{table_in}
use Rattle.rules.proofs.Passing.{err_passed}
use Rattle.ordinals.proofs.Members.{members_rise, ordinal_content, ordinal_fits, vector_in_use, box_in_use, table_members, union_members, union_else}
use Rattle.nesting.proofs.NoParts.{outside_left}
use Rattle.layout.proofs.Readiness.{row_in_use, row_size, size_small, ready_at, few_elements}
use Rattle.nesting.proofs.Runs.{run_asks, run_stopped, run_end}
use Rattle.write_walk.specs.Walking.{write_row, write_elements}
use Rattle.nesting.proofs.Counted.{turns_start, turns_next}
use Rattle.write_leaves.proofs.Leading.{ask_stands}
use Rattle.write_walk.proofs.Values.{value_bool, value_number, value_handle, value_string, value_empty, string_ask, number_ask, numbers_ask, numbers_done, array_ask, array_done}
use Rattle.plans.proofs.Rows.{left_alone}
use Rattle.write_walk.proofs.Plans.{planned_ask, planned_done, alone_ask, alone_done}
use Rattle.write_walk.proofs.StrictRows.{strict_run_ask, strict_ask, strict_run_done, strict_done}
use Rattle.write_walk.proofs.Composite.{writing_start, level_known, fill_within, fill_done, into_done, call_asks, call_done, call_refused, out_done, all_put}
use Rattle.write_records.proofs.Objects.{object_asks, object_few, object_counted, object_written}
use Rattle.write_walk.proofs.OutOfLine.{vector_record, box_record, table_record_lem, union_record_lem, level_left, vector_closed, vector_refused, vector_claimed, vector_done, box_absent, box_refused, box_claimed, box_done, table_closed, table_refused, table_claimed, table_done, union_none, union_bad, union_asks, union_fits, union_done}
use Rattle.write_walk.proofs.Contents.{put_rises, content_unknown, content_ready, payload_few, payload_ready, payload_small, small_too_deep, small_asks, small_refused, small_sealed, large_not_open, payload_claimed, large_refused, large_rises, large_sealed}
use Rattle.write_walk.proofs.TableEnvelopes.{EnvelopesLeft, envelopes_start, envelopes_end, one_ended, one_wrong, one_absent, content_asks, one_present, one_refused}
use Rattle.write_walk.proofs.cycle.+composite_content_elements_envelopes_object_out_of_line_single_value.Goals as goal
use Rattle.write_walk.proofs.cycle.+composite_content_elements_envelopes_object_out_of_line_single_value.Goals.{envelopes-then-v-eq0, envelopes-else-v-eq0+in_ok-d}

-- ---- composite: structs and arrays

pub composite-by_plan-requires : goal.composite-by_plan-requires
composite-by_plan-requires t c = alone_ask c.args.laid.now c.requires.0 c.requires.2

pub composite-returns-in-Some : goal.composite-returns-in-Some
composite-returns-in-Some t c =
    alone_done c.args.laid.now c.requires.0 _ _ _ _ _ _ _ c.requires.2 (rw c.in-Some.is at c.by_plan.ensures)

pub composite-loop-next-init : goal.composite-loop-next-init
composite-loop-next-init t c =
    (c.requires.0, writing_start c.requires.0 _ _ _ refl c.requires.1 c.requires.2)

pub composite-overflow_sub-next : goal.composite-overflow_sub-next
composite-overflow_sub-next t c =
    (fill_within c.loop-next.invariant.0 c.loop-next.invariant.1 c.next_step.ensures c.in-Fill.is).0

pub composite-put_zeros-requires : goal.composite-put_zeros-requires
composite-put_zeros-requires t c =
    let f = fill_within c.loop-next.invariant.0 c.loop-next.invariant.1 c.next_step.ensures c.in-Fill.is in omega arith

pub composite-overflow_add-level : goal.composite-overflow_add-level
composite-overflow_add-level t c =
    let k = level_known c.loop-next.invariant.0 c.loop-next.invariant.1 in omega arith

pub composite-loop-next-smaller-in-Fill : goal.composite-loop-next-smaller-in-Fill
composite-loop-next-smaller-in-Fill t c =
    (fill_done c.loop-next.invariant.0 c.loop-next.invariant.1 c.next_step.ensures c.in-Fill.is c.put_zeros.ensures).1

pub composite-loop-next-preserved-in-Fill : goal.composite-loop-next-preserved-in-Fill
composite-loop-next-preserved-in-Fill t c =
    (c.loop-next.invariant.0, (fill_done c.loop-next.invariant.0 c.loop-next.invariant.1 c.next_step.ensures c.in-Fill.is c.put_zeros.ensures).0)

pub composite-bounds-kept-around : goal.composite-bounds-kept-around
composite-bounds-kept-around t c =
    (into_done c.loop-next.invariant.0 c.loop-next.invariant.1 c.next_step.ensures c.in-Into.is).2

pub composite-loop-next-smaller-in-Into : goal.composite-loop-next-smaller-in-Into
composite-loop-next-smaller-in-Into t c =
    (into_done c.loop-next.invariant.0 c.loop-next.invariant.1 c.next_step.ensures c.in-Into.is).1

pub composite-loop-next-preserved-in-Into : goal.composite-loop-next-preserved-in-Into
composite-loop-next-preserved-in-Into t c =
    (c.loop-next.invariant.0, (into_done c.loop-next.invariant.0 c.loop-next.invariant.1 c.next_step.ensures c.in-Into.is).0)

pub composite-value-requires : goal.composite-value-requires
composite-value-requires t c =
    let k = call_asks c.loop-next.invariant.0 c.loop-next.invariant.1 c.next_step.ensures c.in-Call.is in (omega (arith, k.2), (k.0, k.1))

pub composite-overflow_add-place : goal.composite-overflow_add-place
composite-overflow_add-place t c =
    omega (arith, (level_known c.loop-next.invariant.0 c.loop-next.invariant.1).short)

pub composite-loop-next-smaller-in-Call : goal.composite-loop-next-smaller-in-Call
composite-loop-next-smaller-in-Call t c =
    (call_done c.loop-next.invariant.0 c.loop-next.invariant.1 c.next_step.ensures c.in-Call.is c.value.ensures c.in_ok-d-in-Call.was c.item_at.ensures).1

pub composite-loop-next-preserved-in-Call : goal.composite-loop-next-preserved-in-Call
composite-loop-next-preserved-in-Call t c =
    (c.loop-next.invariant.0, (call_done c.loop-next.invariant.0 c.loop-next.invariant.1 c.next_step.ensures c.in-Call.is c.value.ensures c.in_ok-d-in-Call.was c.item_at.ensures).0)

pub composite-returns-in_err-d-in-Call : goal.composite-returns-in_err-d-in-Call
composite-returns-in_err-d-in-Call t c =
    rw (err_passed c.from_residual.ensures.1) (rw (left_alone _ _ c.in_default.is c.by_plan.ensures) at (call_refused c.loop-next.invariant.0 c.loop-next.invariant.1 c.next_step.ensures c.in-Call.is c.value.ensures c.in_err-d-in-Call.was))

pub composite-overflow_sub-around : goal.composite-overflow_sub-around
composite-overflow_sub-around t c =
    (out_done c.loop-next.invariant.0 c.loop-next.invariant.1 c.next_step.ensures c.in-Out.is).2

pub composite-loop-next-smaller : goal.composite-loop-next-smaller
composite-loop-next-smaller t c =
    (out_done c.loop-next.invariant.0 c.loop-next.invariant.1 c.next_step.ensures c.in-Out.is).1

pub composite-loop-next-preserved : goal.composite-loop-next-preserved
composite-loop-next-preserved t c =
    (c.loop-next.invariant.0, (out_done c.loop-next.invariant.0 c.loop-next.invariant.1 c.next_step.ensures c.in-Out.is).0)

pub composite-returns-in-Done : goal.composite-returns-in-Done
composite-returns-in-Done t c =
    rw (left_alone _ _ c.in_default.is c.by_plan.ensures) at (all_put c.loop-next.invariant.0 c.loop-next.invariant.1 c.next_step.ensures c.in-Done.is)

-- ---- content: an envelope's content

pub content-unknown_content-requires : goal.content-unknown_content-requires
content-unknown_content-requires t c =
    (c.requires.1, c.requires.2)

pub content-overflow_sub-c : goal.content-overflow_sub-c
content-overflow_sub-c t c =
    omega (arith, c.requires.2)

pub content-returns-then-depth-eq0 : goal.content-returns-then-depth-eq0
content-returns-then-depth-eq0 t c = search (rules, small_too_deep)

pub content-overflow_sub-depth : goal.content-overflow_sub-depth
content-overflow_sub-depth t c =
    omega (arith, c.if-depth-eq0.false)

pub content-value-requires : goal.content-value-requires
content-value-requires t c =
    (omega (arith, c.if-depth-eq0.false, payload_few c.requires.0 c.in-Some.is), (payload_ready c.requires.0 c.in-Some.is, small_asks _ _ c.args.out.now _ _ _ _ _ c.requires.0 c.in-Some.is c.item_at-size.ensures c.requires.1 (omega (arith, c.if-size-le4.true)) (λ z. omega (arith, z, c.if-depth-eq0.false))))

pub content-overflow_sub-d : goal.content-overflow_sub-d
content-overflow_sub-d t c =
    omega (arith, put_rises c.value.ensures c.in_ok-d.was)

pub content-overflow_cast-d : goal.content-overflow_cast-d
content-overflow_cast-d t c =
    record { fits = omega (arith, put_rises c.value.ensures c.in_ok-d.was) }

pub content-sealed-requires : goal.content-sealed-requires
content-sealed-requires t c =
    (omega (arith, c.requires.1.inside, c.requires.1.free), omega (arith, c.if-size-le4.true))

pub content-returns-in_err-d : goal.content-returns-in_err-d
content-returns-in_err-d t c =
    rw (err_passed c.from_residual.ensures.1)
    (small_refused _ _ _ _ _ _ _ _ c.requires.0 c.in-Some.is c.item_at-size.ensures c.requires.1 (omega (arith, c.if-size-le4.true)) (λ z. omega (arith, z, c.if-depth-eq0.false)) c.value.ensures c.in_err-d.was)

pub content-returns-then-size-le4 : goal.content-returns-then-size-le4
content-returns-then-size-le4 t c =
    small_sealed _ _ _ _ _ _ _ _ c.requires.0 c.in-Some.is c.item_at-size.ensures c.requires.1 (omega (arith, c.if-size-le4.true)) (λ z. omega (arith, z, c.if-depth-eq0.false)) c.value.ensures c.in_ok-d.was refl c.sealed.ensures

pub content-deeper-requires : goal.content-deeper-requires
content-deeper-requires t c =
    (c.requires.1.free, c.requires.1.held, c.requires.2, omega (arith, payload_small c.requires.0 c.in-Some.is c.item_at-size.ensures))

pub content-overflow_sub-depth-2 : goal.content-overflow_sub-depth-2
content-overflow_sub-depth-2 t c =
    omega (arith, c.in_ok-x.ensures.2)

pub content-single-requires : goal.content-single-requires
content-single-requires t c =
    let l = c.in_ok-x.ensures.2 in (omega (arith, l, payload_few c.requires.0 c.in-Some.is), (payload_ready c.requires.0 c.in-Some.is, payload_claimed _ _ c.args.out.now _ _ _ _ _ c.requires.0 c.in-Some.is c.item_at-size.ensures c.requires.1 (omega (arith, c.if-size-le4.false)) _ c.deeper.ensures.0 c.in_ok-x.was))

pub content-overflow_sub-bytes : goal.content-overflow_sub-bytes
content-overflow_sub-bytes t c =
    omega (arith, large_rises _ _ _ _ _ _ _ _ c.requires.0 c.in-Some.is c.item_at-size.ensures c.requires.1 (omega (arith, c.if-size-le4.false)) _ c.deeper.ensures.0 c.in_ok-x.was c.single.ensures c.in_ok-d-2.was)

pub content-overflow_cast-bytes : goal.content-overflow_cast-bytes
content-overflow_cast-bytes t c =
    record { fits = omega (arith, large_rises _ _ _ _ _ _ _ _ c.requires.0 c.in-Some.is c.item_at-size.ensures c.requires.1 (omega (arith, c.if-size-le4.false)) _ c.deeper.ensures.0 c.in_ok-x.was c.single.ensures c.in_ok-d-2.was) }

pub content-overflow_sub-d-2 : goal.content-overflow_sub-d-2
content-overflow_sub-d-2 t c =
    omega (arith, large_rises _ _ _ _ _ _ _ _ c.requires.0 c.in-Some.is c.item_at-size.ensures c.requires.1 (omega (arith, c.if-size-le4.false)) _ c.deeper.ensures.0 c.in_ok-x.was c.single.ensures c.in_ok-d-2.was)

pub content-overflow_cast-d-2 : goal.content-overflow_cast-d-2
content-overflow_cast-d-2 t c =
    record { fits = omega (arith, large_rises _ _ _ _ _ _ _ _ c.requires.0 c.in-Some.is c.item_at-size.ensures c.requires.1 (omega (arith, c.if-size-le4.false)) _ c.deeper.ensures.0 c.in_ok-x.was c.single.ensures c.in_ok-d-2.was) }

pub content-sealed-requires-2 : goal.content-sealed-requires-2
content-sealed-requires-2 t c =
    (omega (arith, c.requires.1.inside, c.requires.1.free), payload_small c.requires.0 c.in-Some.is c.item_at-size.ensures)

pub content-returns-in_default : goal.content-returns-in_default
content-returns-in_default t c = search (rules, content_unknown)

pub content-returns-in_err-x : goal.content-returns-in_err-x
content-returns-in_err-x t c =
    rw (err_passed c.from_residual-in_err-x.ensures.1)
    (large_not_open _ _ _ _ _ _ _ _ c.requires.0 c.in-Some.is c.item_at-size.ensures c.requires.1 (omega (arith, c.if-size-le4.false)) _ c.deeper.ensures.0 c.in_err-x.was)

pub content-returns-in_err-d-2 : goal.content-returns-in_err-d-2
content-returns-in_err-d-2 t c =
    rw (err_passed c.from_residual-in_err-d-2.ensures.1)
    (large_refused _ _ _ _ _ _ _ _ c.requires.0 c.in-Some.is c.item_at-size.ensures c.requires.1 (omega (arith, c.if-size-le4.false)) _ c.deeper.ensures.0 c.in_ok-x.was c.single.ensures c.in_err-d-2.was)

pub content-returns : goal.content-returns
content-returns t c =
    large_sealed _ _ _ _ _ _ _ _ c.requires.0 c.in-Some.is c.item_at-size.ensures c.requires.1 (omega (arith, c.if-size-le4.false)) _ c.deeper.ensures.0 c.in_ok-x.was c.single.ensures c.in_ok-d-2.was refl refl c.sealed-2.ensures

-- ---- elements: a vector's elements, or what an object holds

pub elements-numbers-requires : goal.elements-numbers-requires
elements-numbers-requires t c =
    numbers_ask c.requires.0 c.kind_at-kind.ensures c.if-kind-eq2.true c.a_at-width.ensures _ c.requires.1

pub elements-returns-then-kind-eq2 : goal.elements-returns-then-kind-eq2
elements-returns-then-kind-eq2 t c = search (rules, numbers_done)

pub elements-strict_values-requires : goal.elements-strict_values-requires
elements-strict_values-requires t c =
    strict_run_ask c.requires.0 c.kind_at-kind.ensures c.if-kind.true _ c.requires.1

pub elements-returns-then-kind : goal.elements-returns-then-kind
elements-returns-then-kind t c =
    strict_run_done c.requires.0 c.kind_at-kind.ensures c.if-kind.true _ _ _ _ _ _ _ _ c.requires.1 c.strict_values.ensures

pub elements-by_plan-requires : goal.elements-by_plan-requires
elements-by_plan-requires t c = planned_ask c.args.laid.now c.requires.0 _ c.requires.1

pub elements-returns-in-Some : goal.elements-returns-in-Some
elements-returns-in-Some t c = planned_done c.args.laid.now c.requires.0 _ _ _ _ _ _ _ _ c.requires.1 (rw c.in-Some.is at c.by_plan.ensures)

pub elements-loop-init : goal.elements-loop-init
elements-loop-init t c = (turns_start _ _ refl c.requires.1, search rules)

pub elements-value-requires : goal.elements-value-requires
elements-value-requires t c = (omega arith, (search rules, run_asks c.loop.invariant.0 (omega arith)))

pub elements-returns-in_err-d : goal.elements-returns-in_err-d
elements-returns-in_err-d t c =
    rw (err_passed c.from_residual.ensures.1) (rw (left_alone _ _ c.in_default.is c.by_plan.ensures) at (run_stopped c.loop.invariant.0 (omega arith) c.value.ensures c.in_err-d.was))

pub elements-loop-preserved : goal.elements-loop-preserved
elements-loop-preserved t c =
    let r = c.requires.0 in
    (turns_next c.loop.invariant.0 (omega arith) c.value.ensures (row_size r _ r.in_use c.item_at-size.ensures) c.in_ok-d.was, search rules)

pub elements-returns : goal.elements-returns
elements-returns t c = rw (left_alone _ _ c.in_default.is c.by_plan.ensures) at (run_end c.loop.invariant.0 (omega arith))

-- ---- envelopes: a table's envelopes

pub envelopes-loop-i-init : goal.envelopes-loop-i-init
envelopes-loop-i-init t c =
    (envelopes_start _ _ _ _ _ _ _ _ c.requires.2, search rules, search rules)

pub envelopes-returns-then-values-d : goal.envelopes-returns-then-values-d
envelopes-returns-then-values-d t c =
    one_ended _ _ _ _ _ _ _ _ c.loop-i.invariant.0 c.loop-i-test.true c.if-values-d.true c.refused.ensures

pub envelopes-returns-then-v-ordinal : goal.envelopes-returns-then-v-ordinal
envelopes-returns-then-v-ordinal t c =
    one_wrong _ _ _ _ _ _ _ _ c.loop-i.invariant.0 c.loop-i-test.true (omega (arith, c.if-values-d.false)) c.item_at-v.ensures c.if-v-ordinal.true c.refused-then-v-ordinal.ensures

pub envelopes-content-requires : goal.envelopes-content-requires
envelopes-content-requires t c =
    let m = table_members c.requires.0 refl c.a_at-first.ensures c.b_at-known.ensures c.requires.1 in let a = content_asks _ _ _ _ _ _ _ _ c.loop-i.invariant.0 c.loop-i-test.true (omega (arith, c.if-values-d.false)) c.item_at-v.ensures c.if-v-ordinal.false c.took-d.ensures in (omega arith, (content_ready _ c.requires.0 (ordinal_fits m _ c.ordinal_of-what.result (ordinal_content m _ c.ordinal_of-what.result c.ordinal_of-what.ensures)), a.0, a.1))

pub envelopes-loop-i-preserved : goal.envelopes-loop-i-preserved
envelopes-loop-i-preserved t c = (left, omega arith, c.if-v-eq0.auto.out ∙ c.loop-i.invariant.2)
  where
    left : EnvelopesLeft (table_in c.args.laid.now) c.args.values.now c.args.base c.args.depth c.args.row c.args.count c.args.out.now c.if-v-eq0.out c.args.c c.if-v-eq0.d (c.loop-i.i + 1)
    left =
        let m = table_members c.requires.0 refl c.a_at-first.ensures c.b_at-known.ensures c.requires.1 in
        let h : c.loop-i.d.index < length c.args.values.now = omega arith in
        elim c.if-v-eq0.branch [
          | envelopes-then-v-eq0 w ↦
              rw (w.out-is, w.d-is)
              (one_absent _ _ _ _ _ _ _ _ c.loop-i.invariant.0 c.loop-i-test.true h c.item_at-v.ensures c.if-v-ordinal.false c.took-d.ensures w.if-v-eq0.true w.store.ensures)
          | envelopes-else-v-eq0+in_ok-d w ↦
              rw (w.out-is, w.d-is)
              (one_present _ _ _ _ _ _ _ _ c.loop-i.invariant.0 c.loop-i-test.true h c.item_at-v.ensures c.if-v-ordinal.false c.took-d.ensures w.ordinal_of-what.result w.if-v-eq0.false c.a_at-first.ensures c.b_at-known.ensures (ordinal_content m _ w.ordinal_of-what.result w.ordinal_of-what.ensures) w.content.ensures w.in_ok-d.was)
        ]

pub envelopes-returns-in_err-d : goal.envelopes-returns-in_err-d
envelopes-returns-in_err-d t c =
    let m = table_members c.requires.0 refl c.a_at-first.ensures c.b_at-known.ensures c.requires.1 in rw (err_passed c.from_residual.ensures.1) (one_refused _ _ _ _ _ _ _ _ c.loop-i.invariant.0 c.loop-i-test.true (omega (arith, c.if-values-d.false)) c.item_at-v.ensures c.if-v-ordinal.false c.took-d.ensures c.ordinal_of-what.result c.if-v-eq0.false c.a_at-first.ensures c.b_at-known.ensures (ordinal_content m _ c.ordinal_of-what.result c.ordinal_of-what.ensures) c.content.ensures c.in_err-d.was)

pub envelopes-returns : goal.envelopes-returns
envelopes-returns t c = search (rules, envelopes_end)

-- ---- object: a claimed object

pub object-rest_from-from-requires : goal.object-rest_from-from-requires
object-rest_from-from-requires t c =
    c.requires.1.within

pub object-elements-wrote-requires : goal.object-elements-wrote-requires
object-elements-wrote-requires t c =
    (omega arith, (c.requires.0, object_asks _ _ _ c.requires.1))

pub object-overflow_mul-x : goal.object-overflow_mul-x
object-overflow_mul-x t c =
    record { fits = omega (arith, object_counted _ _ c.requires.1 (ap (λ (size : ℕ). c.args.x.count * size) (row_size c.requires.0 _ c.requires.0.in_use c.item_at.ensures))) }

pub object-fill_up-requires : goal.object-fill_up-requires
object-fill_up-requires t c =
    object_counted _ _ c.requires.1 (ap (λ (size : ℕ). c.args.x.count * size) (row_size c.requires.0 _ c.requires.0.in_use c.item_at.ensures))

pub object-returns : goal.object-returns
object-returns t c =
    object_written _ c.args.out.now _ _ _ _ (write_elements (table_in c.args.laid.now) c.args.depth c.args.row c.args.x.count) c.requires.1 c.elements-wrote.ensures c.rest_from-from.ensures (ap (λ (size : ℕ). c.args.x.count * size) (row_size c.requires.0 _ c.requires.0.in_use c.item_at.ensures)) c.fill_up.ensures refl

-- ---- out_of_line: vector, box, table and union

pub out_of_line-vector_opened-requires : goal.out_of_line-vector_opened-requires
out_of_line-vector_opened-requires t c =
    let a = vector_record _ _ c.kind_at-kind.ensures c.requires.2 c.if-kind-eq5.true in (ask_stands a, omega (arith, a.inside, a.free), size_small c.requires.0 _ (vector_in_use c.requires.0 c.kind_at-kind.ensures c.a_at-a.ensures c.if-kind-eq5.true) c.item_at-size.ensures)

pub out_of_line-overflow_sub-depth : goal.out_of_line-overflow_sub-depth
out_of_line-overflow_sub-depth t c =
    omega (arith, level_left _ _ c.vector_opened.ensures.1 (c.in_ok-d.was ∙ ap Ok c.in-Open.is))

pub out_of_line-object-requires : goal.out_of_line-object-requires
out_of_line-object-requires t c =
    let l = level_left _ _ c.vector_opened.ensures.1 (c.in_ok-d.was ∙ ap Ok c.in-Open.is) in let used = vector_in_use c.requires.0 c.kind_at-kind.ensures c.a_at-a.ensures c.if-kind-eq5.true in let k = vector_claimed _ _ _ _ _ _ _ _ _ _ c.kind_at-kind.ensures c.requires.2 c.if-kind-eq5.true c.a_at-a.ensures c.b_at-b.ensures c.c_at-form.ensures c.requires.0 c.item_at-size.ensures c.vector_opened.ensures.0 (c.in_ok-d.was ∙ ap Ok c.in-Open.is) in let few = few_elements c.requires.0 _ used _ (object_few _ _ k) in (omega (arith, l, few, row_in_use c.requires.0 _ used), (ready_at c.requires.0 _ _ (omega arith) used, k))

pub out_of_line-returns-in-Closed : goal.out_of_line-returns-in-Closed
out_of_line-returns-in-Closed t c =
    vector_closed _ _ _ _ _ _ _ _ _ _ c.kind_at-kind.ensures c.requires.2 c.if-kind-eq5.true c.a_at-a.ensures c.b_at-b.ensures c.c_at-form.ensures c.requires.0 c.item_at-size.ensures c.vector_opened.ensures.0 (c.in_ok-d.was ∙ ap Ok c.in-Closed.is)

pub out_of_line-returns-in_err-d : goal.out_of_line-returns-in_err-d
out_of_line-returns-in_err-d t c =
    rw (err_passed c.from_residual.ensures.1)
    (vector_refused _ _ _ _ _ _ _ _ _ _ c.kind_at-kind.ensures c.requires.2 c.if-kind-eq5.true c.a_at-a.ensures c.b_at-b.ensures c.c_at-form.ensures c.requires.0 c.item_at-size.ensures c.vector_opened.ensures.0 c.in_err-d.was)

pub out_of_line-returns-in-Open : goal.out_of_line-returns-in-Open
out_of_line-returns-in-Open t c =
    rw c.passed_on.ensures (vector_done _ _ _ _ _ _ _ _ _ _ c.kind_at-kind.ensures c.requires.2 c.if-kind-eq5.true c.a_at-a.ensures c.b_at-b.ensures c.c_at-form.ensures c.requires.0 c.item_at-size.ensures c.vector_opened.ensures.0 (c.in_ok-d.was ∙ ap Ok c.in-Open.is) c.object.ensures)

pub out_of_line-box_opened-requires : goal.out_of_line-box_opened-requires
out_of_line-box_opened-requires t c =
    let a = box_record _ _ c.kind_at-kind.ensures c.requires.2 c.if-kind-eq8.true in (ask_stands a, omega (arith, a.inside, a.free), size_small c.requires.0 _ (box_in_use c.requires.0 c.kind_at-kind.ensures c.a_at-a.ensures c.if-kind-eq8.true) c.item_at-size-then-kind-eq8.ensures)

pub out_of_line-overflow_sub-depth-in-Open-2 : goal.out_of_line-overflow_sub-depth-in-Open-2
out_of_line-overflow_sub-depth-in-Open-2 t c =
    omega (arith, level_left _ _ c.box_opened.ensures.1 (c.in_ok-d-2.was ∙ ap Ok c.in-Open-2.is))

pub out_of_line-single-requires : goal.out_of_line-single-requires
out_of_line-single-requires t c =
    let l = level_left _ _ c.box_opened.ensures.1 (c.in_ok-d-2.was ∙ ap Ok c.in-Open-2.is) in let used = box_in_use c.requires.0 c.kind_at-kind.ensures c.a_at-a.ensures c.if-kind-eq8.true in let k = box_claimed _ _ _ _ _ _ _ _ _ _ c.kind_at-kind.ensures c.requires.2 c.if-kind-eq8.true c.a_at-a.ensures c.requires.0 c.item_at-size-then-kind-eq8.ensures c.box_opened.ensures.0 (c.in_ok-d-2.was ∙ ap Ok c.in-Open-2.is) in (omega (arith, l, row_in_use c.requires.0 _ used), (ready_at c.requires.0 _ _ (omega arith) used, k))

pub out_of_line-returns-in-Closed-2 : goal.out_of_line-returns-in-Closed-2
out_of_line-returns-in-Closed-2 t c =
    box_absent _ _ _ _ _ _ _ _ _ _ c.kind_at-kind.ensures c.requires.2 c.if-kind-eq8.true c.a_at-a.ensures c.requires.0 c.item_at-size-then-kind-eq8.ensures c.box_opened.ensures.0 (c.in_ok-d-2.was ∙ ap Ok c.in-Closed-2.is)

pub out_of_line-returns-in_err-d-2 : goal.out_of_line-returns-in_err-d-2
out_of_line-returns-in_err-d-2 t c =
    rw (err_passed c.from_residual-in_err-d-2.ensures.1)
    (box_refused _ _ _ _ _ _ _ _ _ _ c.kind_at-kind.ensures c.requires.2 c.if-kind-eq8.true c.a_at-a.ensures c.requires.0 c.item_at-size-then-kind-eq8.ensures c.box_opened.ensures.0 c.in_err-d-2.was)

pub out_of_line-returns-in-Open-2 : goal.out_of_line-returns-in-Open-2
out_of_line-returns-in-Open-2 t c =
    rw c.passed_on-in-Open-2.ensures (box_done _ _ _ _ _ _ _ _ _ _ c.kind_at-kind.ensures c.requires.2 c.if-kind-eq8.true c.a_at-a.ensures c.requires.0 c.item_at-size-then-kind-eq8.ensures c.box_opened.ensures.0 (c.in_ok-d-2.was ∙ ap Ok c.in-Open-2.is) c.single.ensures)

pub out_of_line-table_opened-requires : goal.out_of_line-table_opened-requires
out_of_line-table_opened-requires t c =
    let a = table_record_lem _ _ c.kind_at-kind.ensures c.requires.2 c.if-kind-eq9.true in (ask_stands a, omega (arith, a.inside, a.free))

pub out_of_line-rest_from-from-requires : goal.out_of_line-rest_from-from-requires
out_of_line-rest_from-from-requires t c =
    (table_claimed _ _ _ _ _ _ _ _ _ _ c.kind_at-kind.ensures c.requires.2 c.if-kind-eq9.true c.requires.0 c.table_opened.ensures.0 (c.in_ok-d-3.was ∙ ap Ok c.in-Open-3.is)).within

pub out_of_line-overflow_sub-depth-in-Open-3 : goal.out_of_line-overflow_sub-depth-in-Open-3
out_of_line-overflow_sub-depth-in-Open-3 t c =
    omega (arith, level_left _ _ c.table_opened.ensures.1 (c.in_ok-d-3.was ∙ ap Ok c.in-Open-3.is))

pub out_of_line-envelopes-requires : goal.out_of_line-envelopes-requires
out_of_line-envelopes-requires t c =
    let l = level_left _ _ c.table_opened.ensures.1 (c.in_ok-d-3.was ∙ ap Ok c.in-Open-3.is) in let k = table_claimed _ _ _ _ _ _ _ _ _ _ c.kind_at-kind.ensures c.requires.2 c.if-kind-eq9.true c.requires.0 c.table_opened.ensures.0 (c.in_ok-d-3.was ∙ ap Ok c.in-Open-3.is) in (omega (arith, l, object_few _ _ k), (ready_at c.requires.0 _ _ (omega arith) c.requires.0.in_use, sym c.kind_at-kind.ensures ∙ c.if-kind-eq9.true, object_asks _ _ _ k))

pub out_of_line-returns-in-Closed-3 : goal.out_of_line-returns-in-Closed-3
out_of_line-returns-in-Closed-3 t c =
    table_closed _ _ _ _ _ _ _ _ _ _ c.kind_at-kind.ensures c.requires.2 c.if-kind-eq9.true c.requires.0 c.table_opened.ensures.0 (c.in_ok-d-3.was ∙ ap Ok c.in-Closed-3.is)

pub out_of_line-returns-in_err-d-3 : goal.out_of_line-returns-in_err-d-3
out_of_line-returns-in_err-d-3 t c =
    rw (err_passed c.from_residual-in_err-d-3.ensures.1)
    (table_refused _ _ _ _ _ _ _ _ _ _ c.kind_at-kind.ensures c.requires.2 c.if-kind-eq9.true c.requires.0 c.table_opened.ensures.0 c.in_err-d-3.was)

pub out_of_line-returns-in-Open-3 : goal.out_of_line-returns-in-Open-3
out_of_line-returns-in-Open-3 t c =
    rw c.passed_on-in-Open-3.ensures (table_done _ _ _ _ _ _ _ _ _ _ c.kind_at-kind.ensures c.requires.2 c.if-kind-eq9.true c.requires.0 c.table_opened.ensures.0 (c.in_ok-d-3.was ∙ ap Ok c.in-Open-3.is) _ c.rest_from-from.ensures c.envelopes.ensures)

pub out_of_line-union_member-requires : goal.out_of_line-union_member-requires
out_of_line-union_member-requires t c =
    let q = union_else c.requires.0 c.kind_at-kind.ensures c.requires.1 c.if-kind-eq5.false c.if-kind-eq8.false c.if-kind-eq9.false in let a = union_record_lem _ _ c.kind_at-kind.ensures c.requires.2 c.requires.0.edition q in let m = union_members c.requires.0 c.kind_at-kind.ensures c.a_at-a.ensures c.b_at-b.ensures q in (ask_stands a, omega (arith, a.inside, a.free), omega (arith, c.c_at-form.ensures, m.1), m.0.exist, members_rise m.0)

pub out_of_line-overflow_add-at : goal.out_of_line-overflow_add-at
out_of_line-overflow_add-at t c =
    record { fits = omega (arith, c.requires.2.inside, c.requires.2.free) }

pub out_of_line-content-requires : goal.out_of_line-content-requires
out_of_line-content-requires t c =
    let q = union_else c.requires.0 c.kind_at-kind.ensures c.requires.1 c.if-kind-eq5.false c.if-kind-eq8.false c.if-kind-eq9.false in let m = union_members c.requires.0 c.kind_at-kind.ensures c.a_at-a.ensures c.b_at-b.ensures q in let a = union_asks _ _ _ _ _ c.args.depth _ _ _ _ c.kind_at-kind.ensures c.a_at-a.ensures c.b_at-b.ensures c.c_at-form.ensures q c.requires.0 c.requires.2 c.union_member.ensures.0 (c.in_ok-d-4.was ∙ ap Ok c.in-Present.is) in (omega arith, (content_ready _ c.requires.0 (union_fits _ _ _ _ c.args.base c.args.depth _ _ _ _ c.kind_at-kind.ensures c.a_at-a.ensures c.b_at-b.ensures c.c_at-form.ensures q c.requires.0 c.requires.2 c.union_member.ensures.0 (c.in_ok-d-4.was ∙ ap Ok c.in-Present.is) m.0 c.union_member.ensures.1), a.0, a.1))

pub out_of_line-returns-in-Absent : goal.out_of_line-returns-in-Absent
out_of_line-returns-in-Absent t c =
    let q = union_else c.requires.0 c.kind_at-kind.ensures c.requires.1 c.if-kind-eq5.false c.if-kind-eq8.false c.if-kind-eq9.false in union_none _ _ _ _ _ _ _ _ _ _ c.kind_at-kind.ensures c.a_at-a.ensures c.b_at-b.ensures c.c_at-form.ensures q c.requires.0 c.requires.2 c.union_member.ensures.0 (c.in_ok-d-4.was ∙ ap Ok c.in-Absent.is)

pub out_of_line-returns-in_err-d-4 : goal.out_of_line-returns-in_err-d-4
out_of_line-returns-in_err-d-4 t c =
    let q = union_else c.requires.0 c.kind_at-kind.ensures c.requires.1 c.if-kind-eq5.false c.if-kind-eq8.false c.if-kind-eq9.false in
    rw (err_passed c.from_residual-in_err-d-4.ensures.1)
    (union_bad _ _ _ _ _ _ _ _ _ _ c.kind_at-kind.ensures c.a_at-a.ensures c.b_at-b.ensures c.c_at-form.ensures q c.requires.0 c.requires.2 c.union_member.ensures.0 c.in_err-d-4.was)

pub out_of_line-returns-in-Present : goal.out_of_line-returns-in-Present
out_of_line-returns-in-Present t c =
    let q = union_else c.requires.0 c.kind_at-kind.ensures c.requires.1 c.if-kind-eq5.false c.if-kind-eq8.false c.if-kind-eq9.false in
    rw c.passed_on-in-Present.ensures (union_done _ _ _ _ _ _ _ _ _ _ c.kind_at-kind.ensures c.a_at-a.ensures c.b_at-b.ensures c.c_at-form.ensures q c.requires.0 c.requires.2 c.union_member.ensures.0 (c.in_ok-d-4.was ∙ ap Ok c.in-Present.is) c.content.ensures)

-- ---- single: a claimed object of one value

pub single-rest_from-from-requires : goal.single-rest_from-from-requires
single-rest_from-from-requires t c =
    c.requires.1.within

pub single-value-wrote-requires : goal.single-value-wrote-requires
single-value-wrote-requires t c =
    (omega arith, (c.requires.0, object_asks _ _ _ c.requires.1))

pub single-fill_up-requires : goal.single-fill_up-requires
single-fill_up-requires t c =
    object_counted _ _ c.requires.1 (row_size c.requires.0 _ c.requires.0.in_use c.item_at.ensures)

pub single-returns : goal.single-returns
single-returns t c =
    object_written _ c.args.out.now _ _ _ _ (write_row (table_in c.args.laid.now) c.args.depth c.args.row) c.requires.1 c.value-wrote.ensures c.rest_from-from.ensures (row_size c.requires.0 _ c.requires.0.in_use c.item_at.ensures) c.fill_up.ensures c.passed_on.ensures

-- ---- value: a value of any kind

pub value-boolean-requires : goal.value-boolean-requires
value-boolean-requires t c = search (rules, ask_stands)

pub value-returns-then-kind-eq1 : goal.value-returns-then-kind-eq1
value-returns-then-kind-eq1 t c = search (rules, value_bool)

pub value-number-requires : goal.value-number-requires
value-number-requires t c =
    number_ask c.requires.0 c.kind_at-kind.ensures c.if-kind-eq2.true c.a_at-a.ensures c.requires.1

pub value-returns-then-kind-eq2 : goal.value-returns-then-kind-eq2
value-returns-then-kind-eq2 t c = search (rules, value_number)

pub value-handle-requires : goal.value-handle-requires
value-handle-requires t c = search (rules, ask_stands)

pub value-returns-then-kind-eq3 : goal.value-returns-then-kind-eq3
value-returns-then-kind-eq3 t c = search (rules, value_handle)

pub value-composite-requires : goal.value-composite-requires
value-composite-requires t c =
    (omega arith, (c.requires.0, sym c.has_parts.ensures ∙ c.if-has_parts.true, c.requires.1))

pub value-put_zeros-requires : goal.value-put_zeros-requires
value-put_zeros-requires t c =
    omega (arith, c.requires.1.inside, c.requires.1.free)

pub value-returns-then-kind-eq7 : goal.value-returns-then-kind-eq7
value-returns-then-kind-eq7 t c = search (rules, value_empty)

pub value-numbers-requires : goal.value-numbers-requires
value-numbers-requires t c =
    array_ask c.requires.0 c.kind_at-kind.ensures c.has_parts.ensures c.if-has_parts.false c.if-kind.true c.if-kind-eq7.false c.a_at-a.ensures c.a_at-width.ensures c.b_at-count.ensures c.requires.1

pub value-returns-then-kind : goal.value-returns-then-kind
value-returns-then-kind t c = search (rules, array_done)

pub value-string-requires : goal.value-string-requires
value-string-requires t c = search (rules, string_ask)

pub value-returns-then-kind-eq6 : goal.value-returns-then-kind-eq6
value-returns-then-kind-eq6 t c = search (rules, value_string)

pub value-strict_values-requires : goal.value-strict_values-requires
value-strict_values-requires t c =
    strict_ask c.requires.0 c.kind_at-kind.ensures c.if-kind-2.true c.requires.1

pub value-returns-then-kind-2 : goal.value-returns-then-kind-2
value-returns-then-kind-2 t c =
    strict_done c.requires.0 c.kind_at-kind.ensures c.if-kind-2.true _ _ _ _ _ _ _ c.requires.1 c.strict_values.ensures

pub value-out_of_line-requires : goal.value-out_of_line-requires
value-out_of_line-requires t c =
    (omega arith, (c.requires.0, outside_left (table_in c.args.laid.now) c.args.row c.kind_at-kind.ensures c.if-kind-eq1.false c.if-kind-eq2.false c.if-kind-eq3.false c.if-kind.false c.if-kind-eq6.false c.if-kind-2.false, c.requires.1))

-- ---- all eight
