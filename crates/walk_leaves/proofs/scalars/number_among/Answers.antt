-- `walk_leaves::scalars::number_among` meets its contract: the number is the low part of the eight bytes from its place on.
use mathlib.Core.Path.{◌∙◌}
use Rattle.walk_leaves.proofs.LowBytes.{lent_word, low_part}
use Rattle.walk_leaves.proofs.scalars.number_among.Goals as goal

pub returns : goal.returns
returns c =
    low_part c.args.bytes.now c.type_inv.bytes c.args.at c.args.width c.if-bytes-at.false c.requires.0 (c.load.ensures ∙ lent_word c.args.bytes.now c.args.at) c.mask_of.ensures
