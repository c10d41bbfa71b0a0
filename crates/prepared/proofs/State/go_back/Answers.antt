-- `prepared::State::go_back` meets its contract: counts, then the lists cut to them, then the state.
use Rattle.std.specs.Prelude.{Ok, Err}
use mathlib.Core.Path.{sym, ◌∙◌}
use Rattle.rules.proofs.Passing.{err_passed}
use Rattle.rules.specs.TypeTable.{type_table}
use Rattle.prepared.proofs.Operations.{told_state, back_goes}
use Rattle.prepared.proofs.State.go_back.Goals as goal

pub returns-in_err-require_same : goal.returns-in_err-require_same
returns-in_err-require_same c =
    let a = c.args in
    rw (err_passed c.from_residual-in_err-require_same.ensures.1)
    (told_state a.self (Err _)
    (back_goes a.self (type_table a.rows.now a.members.now a.entries.now) a.to (sym c.within.ensures ∙ c.if-not-within.false)
    (rw c.of.ensures at (sym c.within-else-not-within.ensures ∙ c.if-not-within-2.false)) c.in_ok-back.ensures c.cut.ensures c.in_err-require_same.ensures))

pub returns : goal.returns
returns c =
    let a = c.args in
    told_state a.self (Ok _)
    (back_goes a.self (type_table a.rows.now a.members.now a.entries.now) a.to (sym c.within.ensures ∙ c.if-not-within.false)
    (rw c.of.ensures at (sym c.within-else-not-within.ensures ∙ c.if-not-within-2.false)) c.in_ok-back.ensures c.cut.ensures c.in_ok-require_same.ensures)
