-- `layout::kinds::struct_members` meets its contract: a turn is one step of `struct_members`.
use Rattle.std.proofs.Common.{◌≡◌, ◌+◌, ◌-◌, ◌<◌, ◌&&◌, false, eqb, ltb, get_or, [], sym, ◌∙◌, arith}
use borrow.Author.Tests.{lt-ltb, le-ltb, eq-eqb, ne_eqb}
use Rattle.layout.proofs.MemberLists.{members_there, struct_turn}
use Rattle.layout.proofs.Rows.{struct_none}
use Rattle.layout.proofs.kinds.struct_members.Goals as goal
use Rattle.layout.proofs.kinds.struct_members.Goals.{then-ordinal-i-via-then-ordinal-i, then-ordinal-i-via-else-ordinal-i+then-row-inner}

pub returns-then-ordinal-i : goal.returns-then-ordinal-i
returns-then-ordinal-i c = λ t same.
    let a = c.args in
    let i = c.loop-i.i in
    let some = c.in-Some.ensures in
    let left : i < a.count = omega (arith, some.whole) in
    let member = get_or c.in-Some.own.now i [] in
    let unfit : (eqb (get_or member 0 0) (i + 1) && ltb (get_or member 1 0) a.row) ≡ false =
    elim c.then-ordinal-i.branch [
      | then-ordinal-i-via-then-ordinal-i w ↦ rw (ne_eqb (get_or member 0 0) (i + 1) w.if-ordinal-i.true)
      | then-ordinal-i-via-else-ordinal-i+then-row-inner w ↦ rw (eq-eqb (get_or member 0 0) (i + 1) w.if-ordinal-i.false, le-ltb (get_or member 1 0) a.row w.if-row-inner.true)
    ] in
    rw (members_there t a.first a.count same some) (sym (c.loop-i.invariant t same ∙ struct_turn t a.first a.count i same some left a.row ∙ rw unfit))

pub loop-i-preserved : goal.loop-i-preserved
loop-i-preserved c = λ t same.
    let a = c.args in
    let i = c.loop-i.i in
    let some = c.in-Some.ensures in
    let left : i < a.count = omega (arith, some.whole) in
    let member = get_or c.in-Some.own.now i [] in
    c.loop-i.invariant t same
    ∙ struct_turn t a.first a.count i same some left a.row
    ∙ rw (eq-eqb (get_or member 0 0) (i + 1) c.if-ordinal-i.false, lt-ltb (get_or member 1 0) a.row c.if-row-inner.false)

pub returns : goal.returns
returns c = λ t same.
    let a = c.args in
    let some = c.in-Some.ensures in
    let none : a.count - c.loop-i.i ≡ 0 = omega (arith, some.whole) in
    rw (members_there t a.first a.count same some) (sym (c.loop-i.invariant t same ∙ rw none (struct_none t a.row _ _)))
