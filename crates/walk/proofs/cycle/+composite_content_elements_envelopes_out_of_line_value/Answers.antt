-- The six functions of cycle.rt that call each other meet their contracts. For each function: what its callees promise, its
-- loop's invariant and measure, and an answer to each need that `search rules` does not find; those that it finds stand at the
-- end, where all is put together, but for some that would take the last declaration past antt's limit of steps.
--
-- What falls at each call: 1,048,576 times the depth left, plus four times the row, plus the elements or envelopes left. What is
-- added last keeps functions apart that call each other on one row and one depth.
use mathlib.Core.Path.{refl, sym, ◌∙◌}
use Prim.Native.Nat.{◌+◌}
use native.Mathlib.Omega.{arith}
use borrow.Author.Rules.{rules}
use Rattle.rules.proofs.Passing.{err_passed, ok_is}
use Rattle.layout.specs.Ready.{table_in}
use Rattle.layout.proofs.Readiness.{row_few, row_in_use, row_size, size_small, ready_at}
use Rattle.ordinals.proofs.Members.{members_rise, ordinal_content, ordinal_fits, vector_in_use, box_in_use, table_members, union_members, union_else}
use Rattle.nesting.proofs.NoParts.{outside_left, array_left}
use Rattle.nesting.proofs.Runs.{run_asks, run_stopped, run_end}
use Rattle.nesting.proofs.Counted.{turns_start, turns_next}
use Rattle.walk_records.proofs.Levels.{level_left}
use Rattle.walk_records.proofs.Openings.{ask_bytes}
use Rattle.walk.proofs.Contents.{content_unknown, content_closed, content_not_open, payload_few, payload_small, payload_ready, payload_asks, payload_rises, content_sealed, content_refused}
use Rattle.walk_records.proofs.Unions.{member_fits}
use Rattle.walk.proofs.OutOfLine.{elements_few, vector_record, box_record, table_record_lem, union_record_lem, vector_closed, vector_refused, vector_asks, vector_done, box_absent, box_refused, box_asks, box_done, table_closed, table_refused, table_asks, table_done, union_none, union_bad, union_asks, union_done}
use Rattle.plans.proofs.Rows.{left_alone}
use Rattle.walk.proofs.Plans.{planned_ask, planned_done, alone_ask, alone_done}
use Rattle.walk.proofs.StrictRows.{strict_run_ask, strict_ask, strict_run_done, strict_done}
use Rattle.walk.proofs.TableEnvelopes.{EnvelopesLeft, envelopes_start, envelopes_end, content_asks, last_absent, one_absent, one_present, one_refused}
use Rattle.walk.proofs.Values.{value_bool, value_number, value_handle, value_string}
use Rattle.walk.proofs.NoParts.{value_empty, array_ask, array_done, number_ask, string_ask}
use Rattle.walk.proofs.Turns.{walking_start, state_known, turn_fill, turn_filled, turn_fill_refused, turn_into, turn_call, turn_called, turn_call_refused, turn_out, turn_done}
use Rattle.walk.proofs.OneMember.{one_member, member_asks, fill_asks, member_refused, member_filled}
use Rattle.walk.proofs.cycle.+composite_content_elements_envelopes_out_of_line_value.Goals as goal
use Rattle.walk.proofs.cycle.+composite_content_elements_envelopes_out_of_line_value.Goals.{envelopes-then-load-eq0+else-ordinal-count, envelopes-else-load-eq0+in_ok-d}

-- ---- composite: structs and arrays

pub composite-by_plan-requires : goal.composite-by_plan-requires
composite-by_plan-requires t c = alone_ask c.args.laid.now c.requires.0 c.requires.2

pub composite-returns-in-Some : goal.composite-returns-in-Some
composite-returns-in-Some t c = alone_done c.args.laid.now c.requires.0 _ _ _ _ _ _ _ _ c.requires.2 (rw c.in-Some.is at c.by_plan.ensures)

pub composite-value-requires : goal.composite-value-requires
composite-value-requires t c =
    let one = one_member c.requires.0 _ c.kind_at.ensures c.b_at.ensures c.if-kind_at-b_at.true in
    let k = member_asks c.requires.0 c.requires.1 one c.a_at-first.ensures c.row_of-part.ensures c.requires.2 in
    (omega (arith, k.2), (k.0, k.1))

pub composite-overflow_add-stop : goal.composite-overflow_add-stop
composite-overflow_add-stop t c =
    omega (arith, c.requires.2.inside, c.requires.2.short)

pub composite-overflow_add-fill : goal.composite-overflow_add-fill
composite-overflow_add-fill t c =
    omega (arith, c.requires.2.inside, c.requires.2.short)

pub composite-overflow_sub-fill : goal.composite-overflow_sub-fill
composite-overflow_sub-fill t c =
    let one = one_member c.requires.0 _ c.kind_at.ensures c.b_at.ensures c.if-kind_at-b_at.true in
    (fill_asks c.requires.0 c.requires.1 one c.a_at-first.ensures c.row_of-part.ensures c.requires.2 c.item_at.ensures c.item_at-then-kind_at-b_at.ensures).0

pub composite-fill_at-requires : goal.composite-fill_at-requires
composite-fill_at-requires t c =
    let one = one_member c.requires.0 _ c.kind_at.ensures c.b_at.ensures c.if-kind_at-b_at.true in
    omega (arith, fill_asks c.requires.0 c.requires.1 one c.a_at-first.ensures c.row_of-part.ensures c.requires.2 c.item_at.ensures c.item_at-then-kind_at-b_at.ensures)

pub composite-returns-then-kind_at-b_at : goal.composite-returns-then-kind_at-b_at
composite-returns-then-kind_at-b_at t c =
    let one = one_member c.requires.0 _ c.kind_at.ensures c.b_at.ensures c.if-kind_at-b_at.true in
    rw (left_alone _ _ c.in_default.is c.by_plan.ensures) at (member_filled c.requires.0 c.requires.1 one c.a_at-first.ensures c.row_of-part.ensures _ _ _ _ _ _ _ _ c.requires.2 c.value.ensures c.in_ok-d.was c.item_at.ensures c.item_at-then-kind_at-b_at.ensures _ c.fill_at.ensures)

pub composite-returns-in_err-d : goal.composite-returns-in_err-d
composite-returns-in_err-d t c =
    let one = one_member c.requires.0 _ c.kind_at.ensures c.b_at.ensures c.if-kind_at-b_at.true in
    rw (err_passed c.from_residual.ensures.1) (rw (left_alone _ _ c.in_default.is c.by_plan.ensures) at (member_refused c.requires.0 c.requires.1 one c.a_at-first.ensures c.row_of-part.ensures _ _ _ _ _ _ _ _ c.requires.2 c.value.ensures c.in_err-d.was))

pub composite-loop-next-init : goal.composite-loop-next-init
composite-loop-next-init t c = (c.requires.0, walking_start c.requires.0 _ _ refl c.requires.1 c.requires.2)

pub composite-overflow_sub-next : goal.composite-overflow_sub-next
composite-overflow_sub-next t c =
    let loop = c.loop-next in
    (turn_fill loop.invariant.0 loop.invariant.1 c.next_step.ensures c.in-Fill.is).0

pub composite-fill_at-requires-in-Fill : goal.composite-fill_at-requires-in-Fill
composite-fill_at-requires-in-Fill t c =
    let loop = c.loop-next in
    omega (arith, turn_fill loop.invariant.0 loop.invariant.1 c.next_step.ensures c.in-Fill.is)

pub composite-overflow_add-level : goal.composite-overflow_add-level
composite-overflow_add-level t c =
    let loop = c.loop-next in
    omega (arith, (state_known loop.invariant.0 loop.invariant.1).done)

pub composite-loop-next-smaller-in-Fill : goal.composite-loop-next-smaller-in-Fill
composite-loop-next-smaller-in-Fill t c =
    let loop = c.loop-next in
    (turn_filled loop.invariant.0 loop.invariant.1 c.next_step.ensures c.in-Fill.is c.fill_at-in-Fill.ensures c.in_ok-d-in-Fill.was).1

pub composite-loop-next-preserved-in-Fill : goal.composite-loop-next-preserved-in-Fill
composite-loop-next-preserved-in-Fill t c =
    let loop = c.loop-next in
    (loop.invariant.0, (turn_filled loop.invariant.0 loop.invariant.1 c.next_step.ensures c.in-Fill.is c.fill_at-in-Fill.ensures c.in_ok-d-in-Fill.was).0)

pub composite-returns-in_err-d-in-Fill : goal.composite-returns-in_err-d-in-Fill
composite-returns-in_err-d-in-Fill t c =
    let loop = c.loop-next in
    rw (err_passed c.from_residual-in_err-d-in-Fill.ensures.1) (rw (left_alone _ _ c.in_default.is c.by_plan.ensures) at (turn_fill_refused loop.invariant.0 loop.invariant.1 c.next_step.ensures c.in-Fill.is c.fill_at-in-Fill.ensures c.in_err-d-in-Fill.was))

pub composite-bounds-kept-around : goal.composite-bounds-kept-around
composite-bounds-kept-around t c =
    let loop = c.loop-next in
    (turn_into loop.invariant.0 loop.invariant.1 c.next_step.ensures c.in-Into.is).2

pub composite-loop-next-smaller-in-Into : goal.composite-loop-next-smaller-in-Into
composite-loop-next-smaller-in-Into t c =
    let loop = c.loop-next in
    (turn_into loop.invariant.0 loop.invariant.1 c.next_step.ensures c.in-Into.is).1

pub composite-loop-next-preserved-in-Into : goal.composite-loop-next-preserved-in-Into
composite-loop-next-preserved-in-Into t c =
    let loop = c.loop-next in
    (loop.invariant.0, (turn_into loop.invariant.0 loop.invariant.1 c.next_step.ensures c.in-Into.is).0)

pub composite-value-requires-in-Call : goal.composite-value-requires-in-Call
composite-value-requires-in-Call t c =
    let loop = c.loop-next in
    let k = turn_call loop.invariant.0 loop.invariant.1 c.next_step.ensures c.in-Call.is in (omega (arith, k.2), (k.0, k.1))

pub composite-overflow_add-place : goal.composite-overflow_add-place
composite-overflow_add-place t c =
    let loop = c.loop-next in
    omega (arith, (state_known loop.invariant.0 loop.invariant.1).short)

pub composite-loop-next-smaller-in-Call : goal.composite-loop-next-smaller-in-Call
composite-loop-next-smaller-in-Call t c =
    let loop = c.loop-next in
    (turn_called loop.invariant.0 loop.invariant.1 c.next_step.ensures c.in-Call.is c.value-in-Call.ensures c.in_ok-d-in-Call.was c.item_at-in-Call.ensures).1

pub composite-loop-next-preserved-in-Call : goal.composite-loop-next-preserved-in-Call
composite-loop-next-preserved-in-Call t c =
    let loop = c.loop-next in
    (loop.invariant.0, (turn_called loop.invariant.0 loop.invariant.1 c.next_step.ensures c.in-Call.is c.value-in-Call.ensures c.in_ok-d-in-Call.was c.item_at-in-Call.ensures).0)

pub composite-returns-in_err-d-in-Call : goal.composite-returns-in_err-d-in-Call
composite-returns-in_err-d-in-Call t c =
    let loop = c.loop-next in
    rw (err_passed c.from_residual-in_err-d-in-Call.ensures.1) (rw (left_alone _ _ c.in_default.is c.by_plan.ensures) at (turn_call_refused loop.invariant.0 loop.invariant.1 c.next_step.ensures c.in-Call.is c.value-in-Call.ensures c.in_err-d-in-Call.was))

pub composite-overflow_sub-around : goal.composite-overflow_sub-around
composite-overflow_sub-around t c =
    let loop = c.loop-next in
    (turn_out loop.invariant.0 loop.invariant.1 c.next_step.ensures c.in-Out.is).2

pub composite-loop-next-smaller : goal.composite-loop-next-smaller
composite-loop-next-smaller t c =
    let loop = c.loop-next in
    (turn_out loop.invariant.0 loop.invariant.1 c.next_step.ensures c.in-Out.is).1

pub composite-loop-next-preserved : goal.composite-loop-next-preserved
composite-loop-next-preserved t c =
    let loop = c.loop-next in
    (loop.invariant.0, (turn_out loop.invariant.0 loop.invariant.1 c.next_step.ensures c.in-Out.is).0)

pub composite-returns-in-Done : goal.composite-returns-in-Done
composite-returns-in-Done t c =
    let loop = c.loop-next in
    rw (left_alone _ _ c.in_default.is c.by_plan.ensures) at (turn_done loop.invariant.0 loop.invariant.1 c.next_step.ensures c.in-Done.is)

-- ---- content: an envelope's content

pub content-unknown_content-requires : goal.content-unknown_content-requires
content-unknown_content-requires t c =
    (c.requires.2, omega (arith, row_few c.requires.0))

pub content-known_opened-requires : goal.content-known_opened-requires
content-known_opened-requires t c =
    (ask_bytes c.requires.2, omega (arith, payload_few _ c.requires.0 c.requires.1 c.in-Some.is), payload_small _ c.requires.0 c.requires.1 c.in-Some.is c.item_at-size.ensures)

pub content-overflow_sub-depth : goal.content-overflow_sub-depth
content-overflow_sub-depth t c = search (rules, level_left, ok_is c.in_ok-d-in-Some.was c.in-Open.is)

pub content-value-requires : goal.content-value-requires
content-value-requires t c =
    let l = level_left _ _ c.known_opened.ensures.1 (ok_is c.in_ok-d-in-Some.was c.in-Open.is) in
    (omega (arith, l, payload_few _ c.requires.0 c.requires.1 c.in-Some.is), (payload_ready _ c.requires.0 c.requires.1 c.in-Some.is, payload_asks _ c.args.bytes.now _ _ _ _ c.args.values.now _ _ _ _ c.requires.0 c.requires.1 c.in-Some.is c.item_at-size.ensures c.requires.2 _ c.known_opened.ensures.0 (ok_is c.in_ok-d-in-Some.was c.in-Open.is)))

pub content-sealed-requires : goal.content-sealed-requires
content-sealed-requires t c =
    let a = c.requires.2 in
    let p = payload_rises _ _ _ _ _ _ _ _ _ _ _ c.requires.0 c.requires.1 c.in-Some.is c.item_at-size.ensures c.requires.2 _ c.known_opened.ensures.0 (ok_is c.in_ok-d-in-Some.was c.in-Open.is) c.value.ensures c.in_ok-d-in-Open.was in
    (omega (arith, a.inside, a.short), payload_small _ c.requires.0 c.requires.1 c.in-Some.is c.item_at-size.ensures, p.0, p.1)

pub content-returns-in-None : goal.content-returns-in-None
content-returns-in-None t c = search (rules, content_unknown)

pub content-returns-in-Closed : goal.content-returns-in-Closed
content-returns-in-Closed t c = search (rules, content_closed, ok_is c.in_ok-d-in-Some.was c.in-Closed.is)

pub content-returns-in_err-d-in-Some : goal.content-returns-in_err-d-in-Some
content-returns-in_err-d-in-Some t c =
    rw (err_passed c.from_residual.ensures.1) (content_not_open _ _ _ _ _ _ _ _ _ _ _ c.requires.0 c.requires.1 c.in-Some.is c.item_at-size.ensures c.requires.2 _ c.known_opened.ensures.0 c.in_err-d-in-Some.was)

pub content-returns-in_ok-d-in-Open : goal.content-returns-in_ok-d-in-Open
content-returns-in_ok-d-in-Open t c =
    content_sealed _ _ _ _ _ _ _ _ _ _ _ c.requires.0 c.requires.1 c.in-Some.is c.item_at-size.ensures c.requires.2 _ c.known_opened.ensures.0 (ok_is c.in_ok-d-in-Some.was c.in-Open.is) c.value.ensures c.in_ok-d-in-Open.was c.sealed.ensures

pub content-returns-in_err-d-in-Open : goal.content-returns-in_err-d-in-Open
content-returns-in_err-d-in-Open t c =
    rw (err_passed c.from_residual-in_err-d-in-Open.ensures.1) (content_refused _ _ _ _ _ _ _ _ _ _ _ c.requires.0 c.requires.1 c.in-Some.is c.item_at-size.ensures c.requires.2 _ c.known_opened.ensures.0 (ok_is c.in_ok-d-in-Some.was c.in-Open.is) c.value.ensures c.in_err-d-in-Open.was)

-- ---- elements: a vector's elements

pub elements-run_of_numbers-requires : goal.elements-run_of_numbers-requires
elements-run_of_numbers-requires t c = (c.requires.0, sym c.kind_at-kind.ensures ∙ c.if-kind-eq2.true, c.requires.1)

pub elements-returns-then-kind-eq2 : goal.elements-returns-then-kind-eq2
elements-returns-then-kind-eq2 t c = c.run_of_numbers.ensures c.args.objects.now

pub elements-strict_values-requires : goal.elements-strict_values-requires
elements-strict_values-requires t c =
    strict_run_ask c.requires.0 c.kind_at-kind.ensures c.if-kind.true _ c.requires.1

pub elements-returns-then-kind : goal.elements-returns-then-kind
elements-returns-then-kind t c =
    strict_run_done c.requires.0 c.kind_at-kind.ensures c.if-kind.true _ _ _ _ _ _ _ _ _ c.requires.1 c.strict_values.ensures

pub elements-by_plan-requires : goal.elements-by_plan-requires
elements-by_plan-requires t c = planned_ask c.args.laid.now c.requires.0 _ c.requires.1

pub elements-returns-in-Some : goal.elements-returns-in-Some
elements-returns-in-Some t c = planned_done c.args.laid.now c.requires.0 _ _ _ _ _ _ _ _ _ c.requires.1 (rw c.in-Some.is at c.by_plan.ensures)

pub elements-loop-init : goal.elements-loop-init
elements-loop-init t c = (turns_start _ _ refl c.requires.1, search rules, search rules)

pub elements-value-requires : goal.elements-value-requires
elements-value-requires t c = (omega arith, (search rules, run_asks c.loop.invariant.0 (omega arith)))

pub elements-returns-in_err-d : goal.elements-returns-in_err-d
elements-returns-in_err-d t c =
    rw (err_passed c.from_residual.ensures.1) (rw (left_alone _ _ c.in_default.is c.by_plan.ensures) at (run_stopped c.loop.invariant.0 (omega arith) c.value.ensures c.in_err-d.was))

pub elements-loop-preserved : goal.elements-loop-preserved
elements-loop-preserved t c =
    let r = c.requires.0 in
    (turns_next c.loop.invariant.0 (omega arith) c.value.ensures (row_size r _ r.in_use c.item_at-size.ensures) c.in_ok-d.was, search rules, search rules)

pub elements-returns : goal.elements-returns
elements-returns t c = rw (left_alone _ _ c.in_default.is c.by_plan.ensures) at (run_end c.loop.invariant.0 (omega arith))

-- ---- envelopes: a table's envelopes

pub envelopes-loop-i-init : goal.envelopes-loop-i-init
envelopes-loop-i-init t c = (search (rules, envelopes_start), search rules, search rules, search rules)

pub envelopes-returns-then-ordinal-count : goal.envelopes-returns-then-ordinal-count
envelopes-returns-then-ordinal-count t c = search (rules, last_absent)

pub envelopes-content-requires : goal.envelopes-content-requires
envelopes-content-requires t c =
    let m = table_members c.requires.0 refl c.a_at-first.ensures c.b_at-known.ensures c.requires.1 in
    (omega arith, (c.requires.0, ordinal_fits m _ c.ordinal_of-what.result (ordinal_content m _ c.ordinal_of-what.result c.ordinal_of-what.ensures), content_asks _ _ _ _ _ _ _ _ _ _ c.loop-i.invariant.0 c.loop-i-test.true c.gave-e.ensures.1))

pub envelopes-loop-i-preserved : goal.envelopes-loop-i-preserved
envelopes-loop-i-preserved t c = (left, omega arith, c.if-load-eq0.auto.values ∙ c.loop-i.invariant.2, c.if-load-eq0.auto.objects ∙ c.loop-i.invariant.3)
  where
    left : EnvelopesLeft (table_in c.args.laid.now) c.args.bytes.now c.args.held c.args.depth c.args.row c.args.count c.args.at c.args.values.now c.if-load-eq0.values c.args.objects.now c.if-load-eq0.objects c.args.c c.if-load-eq0.d (c.loop-i.i + 1)
    left =
        let m = table_members c.requires.0 refl c.a_at-first.ensures c.b_at-known.ensures c.requires.1 in
        elim c.if-load-eq0.branch [
          | envelopes-then-load-eq0+else-ordinal-count w ↦
              rw (w.values-is, w.objects-is, w.d-is)
              (one_absent _ _ _ _ _ _ _ _ _ _ c.loop-i.invariant.0 c.loop-i-test.true c.load.ensures w.if-load-eq0.true w.if-ordinal-count.false w.gave-d.ensures)
          | envelopes-else-load-eq0+in_ok-d w ↦
              rw (w.values-is, w.objects-is, w.d-is)
              (one_present _ _ _ _ _ _ _ _ _ _ c.loop-i.invariant.0 c.loop-i-test.true c.load.ensures w.ordinal_of-what.result w.if-load-eq0.false c.a_at-first.ensures c.b_at-known.ensures m w.ordinal_of-what.ensures w.gave-e.ensures w.content.ensures w.in_ok-d.was)
        ]

pub envelopes-returns-in_err-d : goal.envelopes-returns-in_err-d
envelopes-returns-in_err-d t c =
    let m = table_members c.requires.0 refl c.a_at-first.ensures c.b_at-known.ensures c.requires.1 in
    rw (err_passed c.from_residual.ensures.1) (one_refused _ _ _ _ _ _ _ _ _ _ c.loop-i.invariant.0 c.loop-i-test.true c.load.ensures c.ordinal_of-what.result c.if-load-eq0.false c.a_at-first.ensures c.b_at-known.ensures m c.ordinal_of-what.ensures c.gave-e.ensures c.content.ensures c.in_err-d.was)

pub envelopes-returns : goal.envelopes-returns
envelopes-returns t c = search (rules, envelopes_end)

-- ---- out_of_line: vector, box, table and union

pub out_of_line-vector_opened-requires : goal.out_of_line-vector_opened-requires
out_of_line-vector_opened-requires t c =
    let r = c.requires.0 in
    let h = vector_in_use r c.kind_at-kind.ensures c.a_at-a.ensures c.if-kind-eq5.true in
    (ask_bytes (vector_record _ _ c.kind_at-kind.ensures c.requires.2 c.if-kind-eq5.true), omega (arith, row_few r), size_small r _ h c.item_at-size.ensures)

pub out_of_line-overflow_sub-depth : goal.out_of_line-overflow_sub-depth
out_of_line-overflow_sub-depth t c = search (rules, level_left, ok_is c.in_ok-d.was c.in-Open.is)

pub out_of_line-elements-requires : goal.out_of_line-elements-requires
out_of_line-elements-requires t c =
    let r = c.requires.0 in
    let h = vector_in_use r c.kind_at-kind.ensures c.a_at-a.ensures c.if-kind-eq5.true in
    let l = level_left _ _ c.vector_opened.ensures.1 (ok_is c.in_ok-d.was c.in-Open.is) in
    let asks = vector_asks (table_in c.args.laid.now) c.args.bytes.now _ _ _ _ _ _ _ _ _ _ c.kind_at-kind.ensures c.requires.2 c.if-kind-eq5.true c.a_at-a.ensures c.b_at-b.ensures c.c_at-form.ensures c.requires.0 c.item_at-size.ensures c.vector_opened.ensures.0 (ok_is c.in_ok-d.was c.in-Open.is) in
    (omega (arith, row_in_use r _ h, elements_few r _ h _ asks, l), (ready_at r _ _ (omega arith) h, asks))

pub out_of_line-returns-in-Closed : goal.out_of_line-returns-in-Closed
out_of_line-returns-in-Closed t c =
    vector_closed _ _ _ _ _ _ _ _ _ _ _ _ c.kind_at-kind.ensures c.requires.2 c.if-kind-eq5.true c.a_at-a.ensures c.b_at-b.ensures c.c_at-form.ensures c.requires.0 c.item_at-size.ensures c.vector_opened.ensures.0 (ok_is c.in_ok-d.was c.in-Closed.is)

pub out_of_line-returns-in_err-d : goal.out_of_line-returns-in_err-d
out_of_line-returns-in_err-d t c =
    rw (err_passed c.from_residual.ensures.1) (vector_refused _ _ _ _ _ _ _ _ _ _ _ _ c.kind_at-kind.ensures c.requires.2 c.if-kind-eq5.true c.a_at-a.ensures c.b_at-b.ensures c.c_at-form.ensures c.requires.0 c.item_at-size.ensures c.vector_opened.ensures.0 c.in_err-d.was)

pub out_of_line-returns-in-Open : goal.out_of_line-returns-in-Open
out_of_line-returns-in-Open t c =
    rw c.passed_on.ensures (vector_done _ _ _ _ _ _ _ _ _ _ _ _ c.kind_at-kind.ensures c.requires.2 c.if-kind-eq5.true c.a_at-a.ensures c.b_at-b.ensures c.c_at-form.ensures c.requires.0 c.item_at-size.ensures c.vector_opened.ensures.0 (ok_is c.in_ok-d.was c.in-Open.is) c.elements.ensures)

pub out_of_line-box_opened-requires : goal.out_of_line-box_opened-requires
out_of_line-box_opened-requires t c =
    let r = c.requires.0 in
    let h = box_in_use r c.kind_at-kind.ensures c.a_at-a.ensures c.if-kind-eq8.true in
    (ask_bytes (box_record _ _ c.kind_at-kind.ensures c.requires.2 c.if-kind-eq8.true), omega (arith, row_in_use r _ h), size_small r _ h c.item_at-size-then-kind-eq8.ensures)

pub out_of_line-overflow_sub-depth-in-Open-2 : goal.out_of_line-overflow_sub-depth-in-Open-2
out_of_line-overflow_sub-depth-in-Open-2 t c = search (rules, level_left, ok_is c.in_ok-d-2.was c.in-Open-2.is)

pub out_of_line-value-requires : goal.out_of_line-value-requires
out_of_line-value-requires t c =
    let r = c.requires.0 in
    let h = box_in_use r c.kind_at-kind.ensures c.a_at-a.ensures c.if-kind-eq8.true in
    let l = level_left _ _ c.box_opened.ensures.1 (ok_is c.in_ok-d-2.was c.in-Open-2.is) in
    (omega (arith, row_in_use r _ h, l), (ready_at r _ _ (omega arith) h, box_asks (table_in c.args.laid.now) c.args.bytes.now _ _ _ _ _ _ _ _ _ _ c.kind_at-kind.ensures c.requires.2 c.if-kind-eq8.true c.a_at-a.ensures c.requires.0 c.item_at-size-then-kind-eq8.ensures c.box_opened.ensures.0 (ok_is c.in_ok-d-2.was c.in-Open-2.is)))

pub out_of_line-returns-in-Closed-2 : goal.out_of_line-returns-in-Closed-2
out_of_line-returns-in-Closed-2 t c =
    box_absent _ _ _ _ _ _ _ _ _ _ _ _ c.kind_at-kind.ensures c.requires.2 c.if-kind-eq8.true c.a_at-a.ensures c.requires.0 c.item_at-size-then-kind-eq8.ensures c.box_opened.ensures.0 (ok_is c.in_ok-d-2.was c.in-Closed-2.is)

pub out_of_line-returns-in_err-d-2 : goal.out_of_line-returns-in_err-d-2
out_of_line-returns-in_err-d-2 t c =
    rw (err_passed c.from_residual-in_err-d-2.ensures.1) (box_refused _ _ _ _ _ _ _ _ _ _ _ _ c.kind_at-kind.ensures c.requires.2 c.if-kind-eq8.true c.a_at-a.ensures c.requires.0 c.item_at-size-then-kind-eq8.ensures c.box_opened.ensures.0 c.in_err-d-2.was)

pub out_of_line-returns-in-Open-2 : goal.out_of_line-returns-in-Open-2
out_of_line-returns-in-Open-2 t c =
    rw c.passed_on-in-Open-2.ensures (box_done _ _ _ _ _ _ _ _ _ _ _ _ c.kind_at-kind.ensures c.requires.2 c.if-kind-eq8.true c.a_at-a.ensures c.requires.0 c.item_at-size-then-kind-eq8.ensures c.box_opened.ensures.0 (ok_is c.in_ok-d-2.was c.in-Open-2.is) c.value.ensures)

pub out_of_line-table_opened-requires : goal.out_of_line-table_opened-requires
out_of_line-table_opened-requires t c =
    (ask_bytes (table_record_lem _ _ c.kind_at-kind.ensures c.requires.2 c.if-kind-eq9.true), omega (arith, row_few c.requires.0))

pub out_of_line-overflow_sub-depth-in-Open-3 : goal.out_of_line-overflow_sub-depth-in-Open-3
out_of_line-overflow_sub-depth-in-Open-3 t c = search (rules, level_left, ok_is c.in_ok-d-3.was c.in-Open-3.is)

pub out_of_line-envelopes-requires : goal.out_of_line-envelopes-requires
out_of_line-envelopes-requires t c =
    let r = c.requires.0 in
    let l = level_left _ _ c.table_opened.ensures.1 (ok_is c.in_ok-d-3.was c.in-Open-3.is) in
    let asks = table_asks (table_in c.args.laid.now) c.args.bytes.now _ _ _ _ _ _ _ _ _ _ c.kind_at-kind.ensures c.requires.2 c.if-kind-eq9.true c.requires.0 c.table_opened.ensures.0 (ok_is c.in_ok-d-3.was c.in-Open-3.is) in
    (omega (arith, asks.inside, asks.short, l), (ready_at r _ _ (omega arith) r.in_use, sym c.kind_at-kind.ensures ∙ c.if-kind-eq9.true, asks))

pub out_of_line-returns-in-Closed-3 : goal.out_of_line-returns-in-Closed-3
out_of_line-returns-in-Closed-3 t c =
    table_closed _ _ _ _ _ _ _ _ _ _ _ _ c.kind_at-kind.ensures c.requires.2 c.if-kind-eq9.true c.requires.0 c.table_opened.ensures.0 (ok_is c.in_ok-d-3.was c.in-Closed-3.is)

pub out_of_line-returns-in_err-d-3 : goal.out_of_line-returns-in_err-d-3
out_of_line-returns-in_err-d-3 t c =
    rw (err_passed c.from_residual-in_err-d-3.ensures.1) (table_refused _ _ _ _ _ _ _ _ _ _ _ _ c.kind_at-kind.ensures c.requires.2 c.if-kind-eq9.true c.requires.0 c.table_opened.ensures.0 c.in_err-d-3.was)

pub out_of_line-returns-in-Open-3 : goal.out_of_line-returns-in-Open-3
out_of_line-returns-in-Open-3 t c =
    rw c.passed_on-in-Open-3.ensures (table_done _ _ _ _ _ _ _ _ _ _ _ _ c.kind_at-kind.ensures c.requires.2 c.if-kind-eq9.true c.requires.0 c.table_opened.ensures.0 (ok_is c.in_ok-d-3.was c.in-Open-3.is) c.envelopes.ensures)

pub out_of_line-union_member-requires : goal.out_of_line-union_member-requires
out_of_line-union_member-requires t c =
    let r = c.requires.0 in
    let q = union_else r c.kind_at-kind.ensures c.requires.1 c.if-kind-eq5.false c.if-kind-eq8.false c.if-kind-eq9.false in
    let m = union_members r c.kind_at-kind.ensures c.a_at-a.ensures c.b_at-b.ensures q in
    (ask_bytes (union_record_lem _ _ c.kind_at-kind.ensures c.requires.2 c.requires.0.edition q), omega (arith, m.1, c.c_at-form.ensures), m.0.exist, members_rise m.0)

pub out_of_line-overflow_add-at : goal.out_of_line-overflow_add-at
out_of_line-overflow_add-at t c =
    let r = c.requires.0 in
    let q = union_else r c.kind_at-kind.ensures c.requires.1 c.if-kind-eq5.false c.if-kind-eq8.false c.if-kind-eq9.false in
    let a = union_record_lem _ _ c.kind_at-kind.ensures c.requires.2 c.requires.0.edition q in
    omega (arith, a.inside, a.short)

pub out_of_line-content-requires : goal.out_of_line-content-requires
out_of_line-content-requires t c =
    let r = c.requires.0 in
    let q = union_else r c.kind_at-kind.ensures c.requires.1 c.if-kind-eq5.false c.if-kind-eq8.false c.if-kind-eq9.false in
    let m = union_members r c.kind_at-kind.ensures c.a_at-a.ensures c.b_at-b.ensures q in
    let a = union_asks (table_in c.args.laid.now) c.args.bytes.now _ _ _ _ _ _ c.args.objects.now _ _ c.kind_at-kind.ensures c.a_at-a.ensures c.b_at-b.ensures c.c_at-form.ensures q c.requires.0 c.requires.2 c.union_member.ensures.0 (ok_is c.in_ok-d-4.was c.in-Present.is) in
    (omega arith, (r, member_fits m.0 _ _ _ c.union_member.ensures.1 (ok_is c.in_ok-d-4.was c.in-Present.is), a))

pub out_of_line-returns-in-Absent : goal.out_of_line-returns-in-Absent
out_of_line-returns-in-Absent t c = search (rules, union_none, union_else, ok_is c.in_ok-d-4.was c.in-Absent.is)

pub out_of_line-returns-in_err-d-4 : goal.out_of_line-returns-in_err-d-4
out_of_line-returns-in_err-d-4 t c =
    let q = union_else c.requires.0 c.kind_at-kind.ensures c.requires.1 c.if-kind-eq5.false c.if-kind-eq8.false c.if-kind-eq9.false in
    rw (err_passed c.from_residual-in_err-d-4.ensures.1) (union_bad _ _ _ _ _ _ _ _ _ _ _ c.kind_at-kind.ensures c.a_at-a.ensures c.b_at-b.ensures c.c_at-form.ensures q c.requires.0 c.requires.2 c.union_member.ensures.0 c.in_err-d-4.was)

pub out_of_line-returns-in-Present : goal.out_of_line-returns-in-Present
out_of_line-returns-in-Present t c =
    let q = union_else c.requires.0 c.kind_at-kind.ensures c.requires.1 c.if-kind-eq5.false c.if-kind-eq8.false c.if-kind-eq9.false in
    rw c.passed_on-in-Present.ensures (union_done _ _ _ _ _ _ _ _ _ _ _ c.kind_at-kind.ensures c.a_at-a.ensures c.b_at-b.ensures c.c_at-form.ensures q c.requires.0 c.requires.2 c.union_member.ensures.0 (ok_is c.in_ok-d-4.was c.in-Present.is) c.content.ensures)

-- ---- value: a value of any kind

pub value-returns-then-kind-eq1 : goal.value-returns-then-kind-eq1
value-returns-then-kind-eq1 t c = search (rules, value_bool)

pub value-number-requires : goal.value-number-requires
value-number-requires t c =
    ((number_ask c.requires.0 c.kind_at-kind.ensures c.if-kind-eq2.true c.a_at-a.ensures).0, omega (arith, c.requires.1.small))

pub value-returns-then-kind-eq2 : goal.value-returns-then-kind-eq2
value-returns-then-kind-eq2 t c =
    value_number _ _ _ _ _ _ _ _ _ _ _ c.kind_at-kind.ensures c.if-kind-eq2.true c.a_at-a.ensures (number_ask c.requires.0 c.kind_at-kind.ensures c.if-kind-eq2.true c.a_at-a.ensures).1 c.requires.1.free c.requires.1.held c.number.ensures

pub value-returns-then-kind-eq3 : goal.value-returns-then-kind-eq3
value-returns-then-kind-eq3 t c = search (rules, value_handle)

pub value-composite-requires : goal.value-composite-requires
value-composite-requires t c =
    (omega arith, (c.requires.0, sym c.has_parts.ensures ∙ c.if-has_parts.true, c.requires.1))

pub value-returns-then-kind-eq7 : goal.value-returns-then-kind-eq7
value-returns-then-kind-eq7 t c = search (rules, value_empty)

pub value-run_of_numbers-requires : goal.value-run_of_numbers-requires
value-run_of_numbers-requires t c =
    array_ask c.requires.0 (sym c.kind_at-kind.ensures ∙ array_left _ c.if-kind.true c.if-kind-eq7.false) (sym c.has_parts.ensures ∙ c.if-has_parts.false) c.a_at-a.ensures c.b_at-count.ensures c.requires.1

pub value-returns-then-kind : goal.value-returns-then-kind
value-returns-then-kind t c =
    array_done c.requires.0 (sym c.kind_at-kind.ensures ∙ array_left _ c.if-kind.true c.if-kind-eq7.false) (sym c.has_parts.ensures ∙ c.if-has_parts.false) c.a_at-a.ensures c.b_at-count.ensures
    _ _ _ _ _ _ _ _ (c.run_of_numbers.ensures c.args.objects.now)

pub value-string-requires : goal.value-string-requires
value-string-requires t c =
    (ask_bytes (string_ask _ _ c.kind_at-kind.ensures c.if-kind-eq6.true c.requires.1), omega (arith, row_few c.requires.0))

pub value-returns-then-kind-eq6 : goal.value-returns-then-kind-eq6
value-returns-then-kind-eq6 t c = search (rules, value_string)

pub value-strict_values-requires : goal.value-strict_values-requires
value-strict_values-requires t c =
    strict_ask c.requires.0 c.kind_at-kind.ensures c.if-kind-2.true c.requires.1

pub value-returns-then-kind-2 : goal.value-returns-then-kind-2
value-returns-then-kind-2 t c =
    strict_done c.requires.0 c.kind_at-kind.ensures c.if-kind-2.true _ _ _ _ _ _ _ _ c.requires.1 c.strict_values.ensures

pub value-out_of_line-requires : goal.value-out_of_line-requires
value-out_of_line-requires t c =
    (omega arith, (c.requires.0, outside_left (table_in c.args.laid.now) c.args.row c.kind_at-kind.ensures c.if-kind-eq1.false c.if-kind-eq2.false c.if-kind-eq3.false c.if-kind.false c.if-kind-eq6.false c.if-kind-2.false, c.requires.1))

-- ---- all six
