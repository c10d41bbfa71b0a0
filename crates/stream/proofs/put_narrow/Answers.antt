-- `stream::put_narrow` meets its contract: what was stored where the loop ends is all that there is room for.
use Rattle.std.proofs.Common.{◌≡◌, arith, length-take}
use Rattle.stream.proofs.Laws.{all_stored}
use Rattle.stream.proofs.put_narrow.Goals as goal

pub returns : goal.returns
returns g c =
    let l = c.loop-at in
    let ended : l.at ≡ c.min-count.result = omega (arith, length-take c.min-count.result c.args.numbers.now) in
    all_stored g.T.Narrow.narrowed c.args.numbers.now l.lent c.min-count.result (omega arith) l.auto.lent (rw ended at l.invariant)
