-- `stream::put_narrow` meets its contract. The loop's invariant: storing on comes to the same as storing all.
use Rattle.std.proofs.Common.{◌≡◌, drop, map}
use Rattle.std.proofs.lemmas.List.Edits.{sets}
use Rattle.stream.proofs.put_narrow.Given as goal

abbrev pub invariant-loop-at : goal.invariant-loop-at
invariant-loop-at g l =
    let narrowed = g.T.Narrow.narrowed in
    sets l.lent l.at (map narrowed (drop l.at l.numbers)) ≡ sets l.initial.lent 0 (map narrowed l.numbers)
