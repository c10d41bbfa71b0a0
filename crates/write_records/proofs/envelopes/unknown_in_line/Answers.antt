-- `unknown_in_line` meets its contract: a law for each way that it ends.
use native.Mathlib.Omega.{arith}
use borrow.Author.Rules.{rules}
use Rattle.rules.specs.Envelope.{payload_in_line}
use Rattle.rules.proofs.Passing.{err_passed}
use Rattle.write_leaves.proofs.InLine.{took_held, took_some}
use Rattle.write_records.proofs.UnknownContent.{room, in_line_ended, in_line_many, in_line_handles_over, in_line_wordless, in_line_large, in_line_put}
use Rattle.write_records.proofs.envelopes.unknown_in_line.Goals as goal

pub returns-then-values-c : goal.returns-then-values-c
returns-then-values-c c = search (rules, in_line_ended)

pub returns-then-not-can_claim : goal.returns-then-not-can_claim
returns-then-not-can_claim c = search (rules, in_line_many)

pub with_handles-requires : goal.with_handles-requires
with_handles-requires c =
    (omega (arith, room payload_in_line c.item_at-handles.result c.can_claim.ensures c.if-not-can_claim.false), search (rules, took_held), search (rules, took_some))

pub returns-then-values-d : goal.returns-then-values-d
returns-then-values-d c = search (rules, in_line_wordless, c.in_ok-d.was)

pub returns-then-word-gt4294967295 : goal.returns-then-word-gt4294967295
returns-then-word-gt4294967295 c = search (rules, in_line_large, c.in_ok-d.was)

pub overflow_cast-handles : goal.overflow_cast-handles
overflow_cast-handles c =
    omega (arith, room payload_in_line c.item_at-handles.result c.can_claim.ensures c.if-not-can_claim.false)

pub returns-in_err-d : goal.returns-in_err-d
returns-in_err-d c = rw (err_passed c.from_residual.ensures.1) (search (rules, in_line_handles_over, c.in_err-d.was))

pub returns : goal.returns
returns c = search (rules, in_line_put, c.in_ok-d.was, c.can_claim.ensures, c.if-not-can_claim.false)
