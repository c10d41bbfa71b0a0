-- `layout::kinds::rising_members` meets its contract: a turn is one step of `rising_members`.
use Rattle.std.proofs.Common.{◌≡◌, ◌-◌, ◌/◌, ◌<◌, ◌&&◌, true, false, ltb, length, get_or, [], sym, ◌∙◌, arith}
use borrow.Author.Tests.{lt-ltb, le-ltb}
use Rattle.layout.proofs.MemberLists.{members_there, rising_turn}
use Rattle.layout.proofs.Rows.{rising_none}
use Rattle.layout.proofs.kinds.rising_members.Goals as goal
use Rattle.layout.proofs.kinds.rising_members.Goals.{then-ordinal-before-via-then-ordinal-before, then-ordinal-before-via-else-ordinal-before+then-row_count-inner}

pub returns-then-ordinal-before : goal.returns-then-ordinal-before
returns-then-ordinal-before c = λ t same_rows same.
    let a = c.args in
    let l = c.loop-ordinal in
    let some = c.in-Some.ensures in
    let left : l.ordinal-index < a.count = omega (arith, some.whole) in
    let member = get_or c.in-Some.own.now l.ordinal-index [] in
    let unfit : (ltb l.before (get_or member 0 0) && ltb (get_or member 1 0) (length t.rows / 4)) ≡ false =
    elim c.then-ordinal-before.branch [
      | then-ordinal-before-via-then-ordinal-before w ↦ rw (le-ltb l.before (get_or member 0 0) w.if-ordinal-before.true)
      | then-ordinal-before-via-else-ordinal-before+then-row_count-inner w ↦
          rw (lt-ltb l.before (get_or member 0 0) w.if-ordinal-before.false, same_rows, le-ltb (get_or member 1 0) (length a.rows.now / 4) w.if-row_count-inner.true)
    ] in
    rw (members_there t a.first a.count same some) (sym (l.invariant t same_rows same ∙ rising_turn t a.first a.count l.ordinal-index same some left l.before ∙ rw unfit))

pub loop-ordinal-preserved : goal.loop-ordinal-preserved
loop-ordinal-preserved c = λ t same_rows same.
    let a = c.args in
    let l = c.loop-ordinal in
    let some = c.in-Some.ensures in
    let left : l.ordinal-index < a.count = omega (arith, some.whole) in
    let member = get_or c.in-Some.own.now l.ordinal-index [] in
    let named : ltb (get_or member 1 0) (length t.rows / 4) ≡ true = rw same_rows (lt-ltb (get_or member 1 0) (length a.rows.now / 4) c.if-row_count-inner.false) in
    l.invariant t same_rows same
    ∙ rising_turn t a.first a.count l.ordinal-index same some left l.before
    ∙ rw (lt-ltb l.before (get_or member 0 0) c.if-ordinal-before.false, named)

pub returns : goal.returns
returns c = λ t same_rows same.
    let a = c.args in
    let l = c.loop-ordinal in
    let some = c.in-Some.ensures in
    let none : a.count - l.ordinal-index ≡ 0 = omega (arith, some.whole) in
    rw (members_there t a.first a.count same some) (sym (l.invariant t same_rows same ∙ rw none (rising_none t _ _)))
