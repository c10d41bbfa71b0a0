-- `text::ascii::past_ascii` meets its contract.
use native.Mathlib.Omega.{arith}
use Rattle.std.proofs.lemmas.List.{length-map, get_or-map}
use Rattle.text.proofs.Classes.{ascii_as_byte}
use Rattle.text.proofs.Laws.{byte_passed}
use Rattle.text.proofs.ascii.past_ascii.Goals as goal

pub loop-at-preserved : goal.loop-at-preserved
loop-at-preserved g c =
    let here = get_or-map g.T.Item.number c.args.text.now c.loop-at.at c.index-text-at.result 0 c.loop-at-test.true in
    byte_passed c.loop-at.invariant (omega (arith, length-map c.args.text.now g.T.Item.number)) (rw (here, ← c.index-text-at.is) (ascii_as_byte c.byte.ensures c.if-byte-ge128.false))
