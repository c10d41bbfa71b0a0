-- The structs and arrays around the one that is gone through, as the code keeps them, and what is left of them.
-- Assumes nothing.
use mathlib.Core.List.{List, [], ◌∷◌, ◌++◌}
use mathlib.Core.Path.{◌≡◌, refl}
use Prim.Native.Nat.{ℕ, zero, suc, ◌+◌, ◌-◌, ◌≤◌, ◌<◌}
use native.Mathlib.Omega.{arith}
use lib.ListN.{length, get_or, set}
use lib.Seq.{get_or-set_same, get_or-set_other}
use Rattle.rules.specs.TypeTable.{TypeTable}
use Rattle.rules.specs.Sizes.{size_of}
use Rattle.nesting.specs.declared.Level.{Level}
use Rattle.nesting.specs.Nesting.{next_place}
use Rattle.nesting.proofs.Items.{Item, gap, items_of}
use Rattle.nesting.proofs.Left.{advanced, fields_left}

-- ---- the first `count` that are kept, the last of them first

module _ (none : Level) where
  unfoldable pub levels_of : List Level → (count : ℕ) → List Level
  levels_of kept zero = []
  levels_of kept (suc count) = get_or kept count none ∷ levels_of kept count

  pub levels_under : (kept : List Level) (i count : ℕ) (l : Level) → count ≤ i → levels_of (set kept i l) count ≡ levels_of kept count
  unfolding levels_of
  levels_under kept i zero l h = refl
  levels_under kept i (suc count) l h = rw (get_or-set_other kept i count l none (λ e. omega arith), levels_under kept i count l (omega arith))

  pub levels_pushed : (kept : List Level) (count : ℕ) (l : Level) → count < length kept → levels_of (set kept count l) (suc count) ≡ l ∷ levels_of kept count
  unfolding levels_of
  levels_pushed kept count l h = rw (get_or-set_same kept count l none h, levels_under kept count count l (omega arith))

-- ---- what is left of them once the one within the first of them stops at a place

module _ (t : TypeTable) (alignments : List ℕ) where
  unfoldable pub left_around : List Level → (stop : ℕ) → List Item
  left_around [] stop = []
  left_around (l ∷ around) stop =
      gap (next_place t.rows t.members l alignments stop - stop)
      ∷ (items_of (fields_left t (advanced l) (next_place t.rows t.members l alignments stop)) ++ left_around around (l.at + size_of t l.row))
