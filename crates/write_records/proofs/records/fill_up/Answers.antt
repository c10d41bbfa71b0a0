-- `fill_up` meets its contract: the fill as the code counts it is the rules'.
use borrow.Author.Rules.{rules}
use Rattle.write_records.proofs.Objects.{filled_up}
use Rattle.write_records.proofs.records.fill_up.Goals as goal

pub returns : goal.returns
returns c = search (rules, filled_up)
