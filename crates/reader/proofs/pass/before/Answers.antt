-- `reader::pass::before` meets its contract: the tests are those of the rules, in their order.
use native.Mathlib.Omega.{arith}
use borrow.Author.Rules.{rules}
use Rattle.rules.proofs.Passing.{err_passed}
use Rattle.reader.proofs.Roots.{table_refused, root_refused, length_refused, handles_refused, walk_allowed}
use Rattle.reader.proofs.pass.before.Goals as goal

pub returns-in_err-verdict : goal.returns-in_err-verdict
returns-in_err-verdict c = rw (err_passed c.from_residual.ensures.1) (table_refused _ _ _ c.args.length c.args.handles c.in_err-verdict.was)

pub returns-then-not-root_allowed : goal.returns-then-not-root_allowed
returns-then-not-root_allowed c =
    let a = c.args in
    rw c.at.ensures (root_refused _ _ _ a.length a.handles c.in_ok-verdict.was c.root_allowed.ensures c.if-not-root_allowed.true)

pub returns-then-length-gt65536 : goal.returns-then-length-gt65536
returns-then-length-gt65536 c =
    let a = c.args in
    length_refused _ _ _ a.length a.handles c.in_ok-verdict.was c.root_allowed.ensures c.if-not-root_allowed.false
    (omega (arith, c.if-length-gt65536.true)) c.at-then-length-gt65536.ensures

pub returns-then-handles-gt64 : goal.returns-then-handles-gt64
returns-then-handles-gt64 c =
    let a = c.args in
    rw c.at-then-handles-gt64.ensures
    (handles_refused _ _ _ a.length a.handles c.in_ok-verdict.was c.root_allowed.ensures c.if-not-root_allowed.false
    (omega (arith, c.if-length-gt65536.false)) (omega (arith, c.if-handles-gt64.true)))

pub returns : goal.returns
returns c =
    let a = c.args in
    walk_allowed _ _ _ a.length a.handles c.in_ok-verdict.was c.root_allowed.ensures c.if-not-root_allowed.false
    (omega (arith, c.if-length-gt65536.false)) (omega (arith, c.if-handles-gt64.false))
