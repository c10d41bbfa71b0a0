-- `write_records::records::box_opened` meets its contract: a law for each answer.
use native.Mathlib.Omega.{arith}
use Rattle.std.specs.Prelude.{Err, Ok}
use borrow.Author.Rules.{rules}
use Rattle.rules.proofs.Passing.{err_passed}
use Rattle.write_leaves.proofs.InLine.{took_held, took_some}
use Rattle.write_records.proofs.Openings.{took_free}
use Rattle.write_records.proofs.Boxes.{box_ended, box_large, box_absent, box_opened}
use Rattle.write_records.proofs.records.box_opened.Goals as goal

pub returns-then-values-c : goal.returns-then-values-c
returns-then-values-c c = search (rules, box_ended)

pub returns-then-v-gt1 : goal.returns-then-v-gt1
returns-then-v-gt1 c = search (rules, box_large)

pub returns-then-v-eq0 : goal.returns-then-v-eq0
returns-then-v-eq0 c = search (rules, box_absent)

pub deeper-requires : goal.deeper-requires
deeper-requires c = (search (rules, took_free), search (rules, took_held), search (rules, took_some), omega arith)

pub returns : goal.returns
returns c =
    let p = c.in_ok-x.ensures in
    (box_opened _ _ _ _ _ _ c.requires.0 (omega arith) c.item_at-v.ensures (Ok c.in_ok-x.x) (omega arith) c.if-v-eq0.false c.store-2.ensures c.took-2.ensures p.0, p.2)

pub returns-in_err-x : goal.returns-in_err-x
returns-in_err-x c =
    let p = c.in_err-x.ensures in
    rw (err_passed c.from_residual.ensures.1)
    (box_opened _ _ _ _ _ _ c.requires.0 (omega arith) c.item_at-v.ensures (Err _) (omega arith) c.if-v-eq0.false c.store-2.ensures c.took-2.ensures p.0, tt)
