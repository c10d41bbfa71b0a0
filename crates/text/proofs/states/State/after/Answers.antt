-- `text::states::State::after` meets its contract: the class of a byte has steps.
use native.Mathlib.Omega.{arith}
use Rattle.text.proofs.Classes.{classes_right}
use Rattle.text.proofs.Machine.{steps_to, alike_steps}
use Rattle.text.proofs.states.State.after.Goals as goal

pub steps_of-requires : goal.steps_of-requires
steps_of-requires g c = rw c.class_of-class.ensures (classes_right.known c.byte.result (omega arith))

pub returns : goal.returns
returns g c = rw (c.steps_of.ensures, c.class_of-class.ensures) (alike_steps c.byte.ensures (steps_to c.args.self.word c.byte.result (omega arith)))
