-- `text::ascii::past_more` meets its contract: blocks are passed, or nothing more.
use native.Mathlib.Omega.{arith}
use Rattle.std.proofs.lemmas.List.{length-map}
use Rattle.text.proofs.Laws.{nothing_passed}
use Rattle.text.proofs.ascii.past_more.Goals as goal

pub returns-else-by_blocks : goal.returns-else-by_blocks
returns-else-by_blocks g c = nothing_passed _ _ (omega (arith, c.requires, length-map c.args.text.now g.T.Item.number))
