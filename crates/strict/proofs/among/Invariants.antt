-- `strict::among` meets its contract: the value can only be one of the entries that are left, and they get fewer.
use Rattle.strict.proofs.Searching.{Narrowed}
use Rattle.strict.proofs.among.Given as goal

abbrev pub invariant-loop-left : goal.invariant-loop-left
invariant-loop-left l = Narrowed l.entries l.value l.low l.left

abbrev pub decreases-loop-left : goal.decreases-loop-left
decreases-loop-left l = l.left
