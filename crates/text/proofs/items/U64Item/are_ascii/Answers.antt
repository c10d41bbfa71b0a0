-- `u64::are_ascii` meets its contract: none of the numbers is above all their bits.
use native.Mathlib.Omega.{arith}
use borrow.Author.Tests.{ltb-true}
use Rattle.std.proofs.lemmas.List.{map-id}
use Rattle.words.proofs.Bits.{none_above}
use Rattle.text.proofs.Runs.{all_ascii}
use Rattle.text.proofs.items.U64Item.are_ascii.Goals as goal

pub returns : goal.returns
returns c test = rw map-id (all_ascii c.args.eight.now (λ k h. omega (arith, none_above 0 c.args.eight.now k, c.bits_of.ensures, ltb-true _ _ test)))
