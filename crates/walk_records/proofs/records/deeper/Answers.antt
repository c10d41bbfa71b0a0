-- `walk_records::records::deeper` meets its contract: spent, claimed, or refused by the claim.
use borrow.Author.Rules.{rules}
use Rattle.rules.proofs.Passing.{err_passed}
use Rattle.walk_records.proofs.Openings.{deeper_spent, deeper_opened, deeper_refused}
use Rattle.walk_records.proofs.records.deeper.Goals as goal

pub returns-then-depth-eq0 : goal.returns-then-depth-eq0
returns-then-depth-eq0 c = search (rules, deeper_spent)

pub returns : goal.returns
returns c = search (rules, deeper_opened, c.in_ok-cursor.was)

pub returns-in_err-cursor : goal.returns-in_err-cursor
returns-in_err-cursor c =
    rw (err_passed c.from_residual.ensures.1) (deeper_refused _ _ _ _ _ _ _ _ c.if-depth-eq0.false c.claim.ensures c.in_err-cursor.was, tt, tt)
