-- `stream::same` meets its contract.
use Rattle.std.proofs.Common.{◌∙◌}
use Rattle.stream.proofs.Laws.{same_numbers_is}
use Rattle.stream.proofs.same.Goals as goal

pub returns : goal.returns
returns c = c.eq.ensures ∙ same_numbers_is c.args.left.now c.args.right.now
