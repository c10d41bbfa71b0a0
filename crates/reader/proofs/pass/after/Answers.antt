-- `reader::pass::after` meets its contract: the same tests in the same order.
use native.Mathlib.Omega.{arith}
use borrow.Author.Tests.{eq-eqb, ne_eqb}
use Rattle.reader.proofs.pass.after.Goals as goal

pub returns-then-end-length : goal.returns-then-end-length
returns-then-end-length c =
    let a = c.args in
    simp (c.at.ensures, ne_eqb a.end.next a.length (λ e. omega (arith, c.if-end-length.true)))

pub returns-then-end-held : goal.returns-then-end-held
returns-then-end-held c =
    let a = c.args in
    simp (
      c.at-then-end-held.ensures,
      eq-eqb a.end.next a.length (omega (arith, c.if-end-length.false)),
      ne_eqb a.end.handles a.held (λ e. omega (arith, c.if-end-held.true)),
    )

pub returns : goal.returns
returns c =
    let a = c.args in
    simp (
      eq-eqb a.end.next a.length (omega (arith, c.if-end-length.false)),
      eq-eqb a.end.handles a.held (omega (arith, c.if-end-held.false)),
    )
