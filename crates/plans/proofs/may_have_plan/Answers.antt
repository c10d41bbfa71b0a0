-- `plans::may_have_plan` meets its contract.
use mathlib.Core.Path.{sym, ◌∙◌}
use borrow.Author.Tests.{leb-false}
use Rattle.plans.proofs.FirstMember.{no_plan}
use Rattle.plans.proofs.may_have_plan.Goals as goal

pub returns-in-7 : goal.returns-in-7
returns-in-7 c test alignments =
    no_plan c.args.rows.now c.args.members.now alignments c.args.row (sym c.kind_at.ensures ∙ c.in-7.is)
    (rw (← c.a_at-first.ensures, ← c.row_of-part.ensures, ← c.kind_at-in-7.ensures) (leb-false _ _ test))
