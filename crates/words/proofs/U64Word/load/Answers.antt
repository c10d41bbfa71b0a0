-- `words::U64Word::load` meets its contract.
use Rattle.words.proofs.Loads.{loaded}
use Rattle.words.proofs.U64Word.load.Goals as goal

pub returns : goal.returns
returns c = loaded _ _ _ 7 c.chunk_at.ensures c.from_le_bytes.ensures
