-- `words::U32Word::load` meets its contract.
use Rattle.words.proofs.Loads.{loaded}
use Rattle.words.proofs.U32Word.load.Goals as goal

pub returns : goal.returns
returns c = loaded _ _ _ 3 c.chunk_at.ensures c.from_le_bytes.ensures
