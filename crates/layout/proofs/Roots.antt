-- Which rows may be a root, by the numbers that the code reads.
-- Assumes nothing.
use mathlib.Core.Path.{◌≡◌}
use mathlib.Core.Bool.{true}
use Prim.Native.Nat.{ℕ, ◌<◌}
use borrow.Author.Tests.{ltb-true}
use lib.Dec.{ltb}
use Rattle.rules.specs.TypeTable.{TypeTable, row_count, type_of}
use Rattle.rules.specs.Sound.{root_kind, root_allowed}
use Rattle.rules.proofs.Tests.{both}

-- A root is a row in use.
pub root_in_use : (t : TypeTable) (root : ℕ) → root_allowed t root ≡ true → root < row_count t
unfolding root_allowed
root_in_use t root e = ltb-true root (row_count t) (both (ltb root (row_count t)) (root_kind (type_of t root)) e).0
