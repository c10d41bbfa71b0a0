-- `ratlinery::store` meets its contract. The loop's invariant: the results passed are stored, after the place.
use Rattle.std.proofs.Common.{◌≡◌, take}
use Rattle.std.proofs.lemmas.List.Edits.{sets}
use Rattle.ratlinery.proofs.store.Given as goal

abbrev pub invariant-loop-i : goal.invariant-loop-i
invariant-loop-i l = l.answer ≡ sets l.initial.answer 1 (take l.i l.results)
