-- `walk_leaves::scalars::store_bytes` meets its contract. The loop's invariant: the bytes before `i` are stored.
use borrow.Author.Rules.{rules}
use Rattle.walk_leaves.proofs.InLine.{copied_more, copied_all}
use Rattle.walk_leaves.proofs.scalars.store_bytes.Goals as goal

pub loop-i-preserved : goal.loop-i-preserved
loop-i-preserved c = search (rules, copied_more)

pub returns : goal.returns
returns c = search (rules, copied_all)
