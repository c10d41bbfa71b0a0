-- `text::states::State::after_all` meets its contract.
use Rattle.text.proofs.Machine.{over_more}
use Rattle.text.proofs.states.State.after_all.Goals as goal

pub loop-item-preserved : goal.loop-item-preserved
loop-item-preserved g c =
    over_more g.T.Item.number c.args.items.now c.loop-item.item-index c.item-item.result c.loop-item-test.true c.item-item.is c.loop-item.invariant c.after-state.ensures
