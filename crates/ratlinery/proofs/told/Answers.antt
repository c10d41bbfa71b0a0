-- `ratlinery::told` meets its contract: on a refusal the results are zeros.
use Rattle.ratlinery.proofs.Telling.{refusal_told}
use Rattle.ratlinery.proofs.told.Goals as goal

pub returns-in-Err-clause-answer : goal.returns-in-Err-clause-answer
returns-in-Err-clause-answer g c = refusal_told c.args.answer.now g.row.N c.in-Err.is c.place_number.ensures c.store-in-Err.ensures
