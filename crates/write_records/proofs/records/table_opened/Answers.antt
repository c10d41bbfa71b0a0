-- `write_records::records::table_opened` meets its contract: a law for each answer; over 8,192 envelopes fit in no message.
use native.Mathlib.Omega.{arith}
use Rattle.std.specs.Prelude.{Err, Ok}
use borrow.Author.Rules.{rules}
use Rattle.rules.proofs.Passing.{err_passed}
use Rattle.write_leaves.proofs.InLine.{took_held, took_some}
use Rattle.write_records.proofs.Openings.{took_free}
use Rattle.write_records.proofs.Tables.{table_ended, table_spent, table_over, table_opened}
use Rattle.write_records.proofs.records.table_opened.Goals as goal

pub returns-then-values-c : goal.returns-then-values-c
returns-then-values-c c = search (rules, table_ended)

pub returns-then-depth-eq0 : goal.returns-then-depth-eq0
returns-then-depth-eq0 c = search (rules, table_spent)

pub returns-then-v-gt8192 : goal.returns-then-v-gt8192
returns-then-v-gt8192 c = search (rules, table_over)

pub claim-requires : goal.claim-requires
claim-requires c = (search (rules, took_free), search (rules, took_held), search (rules, took_some), omega arith)

pub returns : goal.returns
returns c =
    let p = c.in_ok-x.ensures in
    (table_opened _ _ _ _ _ c.requires.0 (omega arith) c.item_at-v.ensures (search rules) c.store.ensures c.store-2.ensures c.if-depth-eq0.false (Ok c.in_ok-x.x) c.took.ensures p.0 p.1, omega arith)

pub returns-in_err-x : goal.returns-in_err-x
returns-in_err-x c =
    let p = c.in_err-x.ensures in
    rw (err_passed c.from_residual.ensures.1)
    (table_opened _ _ _ _ _ c.requires.0 (omega arith) c.item_at-v.ensures (search rules) c.store.ensures c.store-2.ensures c.if-depth-eq0.false (Err _) c.took.ensures p.0 p.1, tt)
