-- `walk_records::records::judged_text` meets its contract: where the text breaks is a place of the message.
use native.Mathlib.Omega.{arith}
use borrow.Author.Rules.{rules}
use Rattle.walk_records.proofs.Strings.{valid_judged, broken_judged, broken_place}
use Rattle.walk_records.proofs.records.judged_text.Goals as goal

pub overflow_add-start : goal.overflow_add-start
overflow_add-start c = omega (arith, broken_place _ _ _ c.judge_part.ensures.answer c.in-Err.is)

pub returns-in-Ok : goal.returns-in-Ok
returns-in-Ok c = search (rules, valid_judged)

pub returns-in-Err : goal.returns-in-Err
returns-in-Err c = search (rules, broken_judged)
