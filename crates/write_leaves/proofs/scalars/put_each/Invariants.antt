-- `write_leaves::scalars::put_each` meets its contract. The loop's invariant: the numbers before `i` are stored, and the rules' run goes
-- on with those that are left. Assumes nothing.
use Rattle.write_leaves.proofs.InLine.{Run}
use Rattle.write_leaves.proofs.scalars.put_each.Given as goal

abbrev pub invariant-loop-i : goal.invariant-loop-i
invariant-loop-i l = Run l.values l.initial.out l.width l.count l.at l.c l.out l.i l.p
