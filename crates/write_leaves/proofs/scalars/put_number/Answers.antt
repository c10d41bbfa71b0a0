-- `write_leaves::scalars::put_number` meets its contract.
use mathlib.Core.Path.{sym}
use Rattle.rules.specs.Bytes.{bytes_of}
use Rattle.words.proofs.Stores.{sets_past}
use Rattle.write_leaves.proofs.scalars.put_number.Goals as goal

pub returns-else-at-out : goal.returns-else-at-out
returns-else-at-out c = sym (sets_past _ _ (bytes_of c.args.width c.args.v) c.if-at-out.false)
