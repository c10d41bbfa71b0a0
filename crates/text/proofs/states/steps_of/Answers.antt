-- `text::states::steps_of` meets its contract: the code's table is the rule's.
use mathlib.Core.Path.{refl}
use Rattle.text.specs.Machine.{steps}
use Rattle.text.proofs.states.steps_of.Goals as goal

pub returns : goal.returns
unfolding steps
returns c = refl
