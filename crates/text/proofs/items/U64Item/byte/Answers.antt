-- `u64::byte` meets its contract.
use Rattle.text.proofs.Classes.{as_byte}
use Rattle.text.proofs.items.U64Item.byte.Goals as goal

pub returns : goal.returns
returns c = as_byte c.args.self c.unwrap_or.result c.try_from.result c.try_from.ensures c.unwrap_or.ensures
