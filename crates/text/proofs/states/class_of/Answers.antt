-- `text::states::class_of` meets its contract: the code's table is the rule's.
use mathlib.Core.Path.{refl}
use Rattle.text.specs.Classes.{classes}
use Rattle.text.proofs.states.class_of.Goals as goal

pub returns : goal.returns
unfolding classes
returns c = refl
