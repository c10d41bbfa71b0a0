-- `stream::read_line` meets its contract. The loop's invariant: reading on comes to the same as reading the line whole.
use Rattle.std.proofs.Common.{◌≡◌, ◌+◌, ◌-◌, arith, sym, ◌∙◌, length, take_all, length-drop}
use Rattle.stream.proofs.Laws.{digit_read, number_read, line_read, text_read, end_start}
use Rattle.stream.proofs.read_line.Goals as goal

pub loop-at-preserved-then-is_ascii_digit : goal.loop-at-preserved-then-is_ascii_digit
loop-at-preserved-then-is_ascii_digit c =
    digit_read c.loop-at-test.true c.loop-at.invariant (sym c.is_ascii_digit.ensures.value ∙ c.if-is_ascii_digit.true) c.with_digit-value.ensures

pub returns-then-byte-eq10-clause-read : goal.returns-then-byte-eq10-clause-read
returns-then-byte-eq10-clause-read c =
    line_read c.loop-at-test.true c.loop-at.invariant (sym c.is_ascii_digit.ensures.value ∙ c.if-is_ascii_digit.false) c.put_item.ensures
    c.if-byte-eq10.true (take_all _ _ (omega (arith, length-drop (c.loop-at.at + 1) c.args.text.now)))

pub loop-at-preserved : goal.loop-at-preserved
loop-at-preserved c =
    number_read c.loop-at-test.true c.loop-at.invariant (sym c.is_ascii_digit.ensures.value ∙ c.if-is_ascii_digit.false) c.put_item.ensures
    c.if-byte-eq10.false

pub returns-clause-read : goal.returns-clause-read
returns-clause-read c =
    let none : length c.args.text.now - length c.args.text.now ≡ 0 = omega arith in
    rw none (text_read c.loop-at-test.false c.loop-at.invariant)

pub returns-clause-start : goal.returns-clause-start
returns-clause-start c = end_start c.args.text.now (length c.args.text.now) c.args.text.ref_ptr (omega arith)

pub returns-then-byte-eq10-clause-start : goal.returns-then-byte-eq10-clause-start
returns-then-byte-eq10-clause-start c = end_start c.args.text.now (c.loop-at.at + 1) c.args.text.ref_ptr (omega (arith, c.loop-at-test.true))
