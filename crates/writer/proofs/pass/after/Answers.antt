-- `writer::pass::after` meets its contract: the same test.
use native.Mathlib.Omega.{arith}
use borrow.Author.Tests.{eq-eqb, ne_eqb}
use Rattle.writer.proofs.pass.after.Goals as goal

pub returns-then-end-total : goal.returns-then-end-total
returns-then-end-total c =
    let a = c.args in
    simp (c.at.ensures, ne_eqb a.end.index a.total (λ e. omega (arith, c.if-end-total.true)))

pub returns : goal.returns
returns c =
    let a = c.args in
    simp (eq-eqb a.end.index a.total (omega (arith, c.if-end-total.false)))
