-- `walk_leaves::claims::put_object` meets its contract: four stores in turn are a run of stores.
use borrow.Author.Rules.{rules}
use Rattle.walk_leaves.proofs.Objects.{four_stores}
use Rattle.walk_leaves.proofs.claims.put_object.Goals as goal

pub returns : goal.returns
returns c = search (rules, four_stores)
