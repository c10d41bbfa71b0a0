-- `prepared::State::agreement` meets its contract: the lists are prepared, and the two states compared.
use Rattle.rules.specs.TypeTable.{type_table}
use Rattle.rules.specs.Answers.{nothing}
use Rattle.prepared.proofs.Operations.{told, agreement_goes}
use Rattle.prepared.proofs.State.agreement.Goals as goal

pub returns : goal.returns
returns c =
    let a = c.args in
    told nothing c.require_same.result (agreement_goes a.self (type_table a.rows.now a.members.now a.entries.now) c.in_ok-prepare.ensures.answer c.require_same.ensures)
