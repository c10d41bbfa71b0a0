-- `unknown_out_of_line` meets its contract: a law for each way that it ends.
use mathlib.Core.Path.{refl}
use native.Mathlib.Omega.{arith}
use borrow.Author.Rules.{rules}
use Rattle.rules.proofs.Passing.{err_passed}
use Rattle.write_leaves.proofs.InLine.{took_held, took_some}
use Rattle.write_records.proofs.UnknownContent.{room, words_claimed, out_over, out_ended, out_many, out_handles_over, out_put}
use Rattle.write_records.proofs.envelopes.unknown_out_of_line.Goals as goal

pub returns-then-start-whole : goal.returns-then-start-whole
returns-then-start-whole c = search (rules, out_over)

pub returns-then-values-c : goal.returns-then-values-c
returns-then-values-c c = search (rules, out_ended)

pub returns-then-not-can_claim : goal.returns-then-not-can_claim
returns-then-not-can_claim c = search (rules, out_many)

pub with_handles-requires : goal.with_handles-requires
with_handles-requires c =
    (omega (arith, room c.args.bytes c.item_at-handles.result c.can_claim.ensures c.if-not-can_claim.false), search (rules, took_held), search (rules, took_some))

pub returns-in_err-d : goal.returns-in_err-d
returns-in_err-d c = rw (err_passed c.from_residual.ensures.1) (search (rules, out_handles_over, c.in_err-d.was))

pub object_of_numbers-requires : goal.object_of_numbers-requires
object_of_numbers-requires c = (refl, search (rules, words_claimed, c.in_ok-d.was))

pub returns : goal.returns
returns c = search (rules, out_put, c.in_ok-d.was)
