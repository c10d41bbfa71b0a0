-- `plans::flat_members` meets its contract: what is planned so far, and then what is left, is the whole.
use Rattle.plans.proofs.Planning.{Planning}
use Rattle.plans.proofs.flat_members.Given as goal

abbrev pub invariant-loop-i : goal.invariant-loop-i
invariant-loop-i l = Planning l.rows l.members l.alignments l.row l.count l.initial.parts l.parts l.place l.i
