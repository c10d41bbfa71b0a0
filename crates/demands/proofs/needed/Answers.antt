-- `demands::needed` meets its contract: the reader's 22 tells how many value numbers there are.
use native.Mathlib.Omega.{arith}
use Rattle.demands.proofs.Trips.{needs_values, needs_bytes, no_values}
use Rattle.demands.proofs.needed.Goals as goal

pub returns-then-room-count : goal.returns-then-room-count
returns-then-room-count c =
    needs_values _ _ c.requires c.read_values.result c.read_values.ensures.answer c.args.room c.in-Err.is c.place_number-count.ensures (omega arith)

pub returns-else-room-count : goal.returns-else-room-count
returns-else-room-count c =
    needs_bytes _ _ c.requires c.read_values.result c.read_values.ensures.answer c.args.room c.in-Err.is c.place_number-count.ensures (omega arith)

pub returns-in_default : goal.returns-in_default
returns-in_default c =
    no_values _ _ c.requires c.read_values.result c.read_values.ensures.answer c.args.room c.in_default.is
