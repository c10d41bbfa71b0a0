-- `u8::are_ascii` meets its contract: no byte has its highest bit.
use borrow.Author.Rules.{rules}
use borrow.Author.Tests.{eqb-true}
use Rattle.std.proofs.lemmas.List.{map-id}
use Rattle.text.proofs.Runs.{low_eight}
use Rattle.text.proofs.items.U8Item.are_ascii.Goals as goal

pub returns : goal.returns
returns c test = rw map-id (low_eight c.args.eight.now (search rules) c.requires (rw (← c.load.ensures) (eqb-true _ _ test)))
