-- What a writer leaves in the output.
-- Assumes nothing.
use mathlib.Core.Path.{◌≡◌}
use mathlib.Core.List.{List}
use Prim.Native.Nat.{ℕ, ◌≤◌}
use native.Mathlib.Nat.{zero-add}
use native.Mathlib.Omega.{arith}
use lib.ListN.{length}
use lib.Seq.{sets, sets-eq}
use Rattle.rules.specs.Refusals.{Answer, accepted, lent_after}

-- What stands past the bytes stored is left.
pub stored_lent : (bytes out : List ℕ) {after : List ℕ} {rule : Answer (List ℕ)} → rule ≡ accepted bytes → length bytes ≤ length out → after ≡ sets out 0 bytes
    → after ≡ lent_after rule out
stored_lent bytes out e room stored = rw (stored, e) (rw zero-add at (sets-eq bytes out 0 (omega arith)))
