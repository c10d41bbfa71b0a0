-- The layout of an array that fits: its element is below it.
-- Assumes nothing.
use mathlib.Core.Bool.{true}
use mathlib.Core.Path.{◌≡◌, ap, ◌∙◌}
use Prim.Native.Nat.{ℕ, ◌*◌, ◌≤◌, ◌<◌}
use Rattle.rules.specs.TypeTable.{TypeTable, kind_at, a_at, b_at, array, type_of}
use Rattle.rules.specs.Sizes.{layout, layout_as, layout_below, layout_of}
use Rattle.rules.specs.Sound.{row_fits}
use Rattle.layout.specs.Kept.{Fits, SoundBelow}
use Rattle.layout.proofs.Rows.{layout_below_lem, layout_step_lem, array_fits}
use Rattle.layout.proofs.Bounds.{bounded}

-- A row of kind 4 is an array.
array_row : (t : TypeTable) (row : ℕ) → kind_at t row ≡ 4 → type_of t row ≡ array (a_at t row) (b_at t row)
unfolding type_of
array_row t row e = rw e

module _ (t : TypeTable) (row : ℕ) (kind : kind_at t row ≡ 4) (fits : Fits t row) where
  pub element_below : a_at t row < row
  element_below =
      let line : row_fits t row (array (a_at t row) (b_at t row)) ≡ true = rw (array_row t row kind) at fits in
      (array_fits t row (a_at t row) (b_at t row) line).below

  pub element_size : SoundBelow t row → (layout_of t (a_at t row)).size ≤ 65528
  element_size sound = (bounded t row sound (a_at t row) element_below).most

  pub array_layout : layout_of t row ≡ layout (b_at t row * (layout_of t (a_at t row)).size) (layout_of t (a_at t row)).alignment
  unfolding layout_as
  array_layout =
      layout_step_lem t row
      ∙ ap (layout_as t (layout_below t row)) (array_row t row kind)
      ∙ ap (λ l. layout (b_at t row * l.size) l.alignment) (layout_below_lem t row (a_at t row) element_below)
