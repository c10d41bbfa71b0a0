-- `text::states::State::after_all` meets its contract. The loop's invariant: the machine has come so far.
use Rattle.std.proofs.Common.{map, take}
use Rattle.text.specs.Machine.{StepsOver}
use Rattle.text.proofs.states.State.after_all.Given as goal

abbrev pub invariant-loop-item : goal.invariant-loop-item
invariant-loop-item g l = StepsOver l.fn.self.word (map g.T.Item.number (take l.item-index l.items)) l.state.word
