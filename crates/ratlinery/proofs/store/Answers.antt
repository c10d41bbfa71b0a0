-- `ratlinery::store` meets its contract: one result more is stored.
use Rattle.std.proofs.Common.{◌≡◌, ◌+◌, ◌∙◌, arith}
use Rattle.words.proofs.Stores.{sets_more}
use Rattle.ratlinery.proofs.store.Goals as goal

pub loop-i-preserved : goal.loop-i-preserved
loop-i-preserved c =
    let place : c.loop-i.i + 1 ≡ 1 + c.loop-i.i = omega arith in
    c.put_item-in-loop-i.ensures ∙ rw place (rw place at (sets_more c.put_item.new.items 1 c.args.results.now c.loop-i.i 0 c.loop-i.invariant (omega arith)))
