-- The rows of a type table, kind by kind: the size of each kind, and what soundness says of it.
-- Assumes nothing.
use mathlib.Core.Bool.{true}
use mathlib.Core.Path.{◌≡◌, ap, ◌∙◌}
use Prim.Native.Nat.{ℕ, zero, suc, ◌*◌, ◌<◌}
use native.Mathlib.Omega.{arith}
use Rattle.rules.specs.declared.Layout.{Layout}
use Rattle.rules.specs.Refusals.{accepted}
use Rattle.rules.specs.TypeTable.{TypeTable, eight_byte_envelopes, envelope_size, row_count, kind_at, a_at, b_at, c_at, type_as, type_of}
use Rattle.rules.specs.Sizes.{layout_as, layout_below, size_of}
use Rattle.rules.specs.Sound.{soundness, row_fits, width_allowed}
use Rattle.rules.proofs.Tests.{both}
use Rattle.layout.proofs.Rows.{layout_step_lem, layout_below_lem, sound_rows, sound_fits, array_fits}

-- ---- sizes by kind

module _ (t : TypeTable) (row : ℕ) where
  pub type_kind : {k : ℕ} → kind_at t row ≡ k → type_of t row ≡ type_as k (a_at t row) (b_at t row) (c_at t row)
  unfolding type_of
  type_kind e = ap (λ (k : ℕ). type_as k (a_at t row) (b_at t row) (c_at t row)) e

  pub size_kind : {k : ℕ} → kind_at t row ≡ k → size_of t row ≡ (layout_as t (layout_below t row) (type_as k (a_at t row) (b_at t row) (c_at t row))).size
  size_kind e = ap (λ (l : Layout). l.size) (layout_step_lem t row ∙ ap (layout_as t (layout_below t row)) (type_kind e))

  pub size_bool : kind_at t row ≡ 1 → size_of t row ≡ 1
  unfolding layout_as
  size_bool e = size_kind e

  pub size_number : kind_at t row ≡ 2 → size_of t row ≡ a_at t row
  unfolding layout_as
  size_number e = size_kind e

  pub size_handle : kind_at t row ≡ 3 → size_of t row ≡ 4
  unfolding layout_as
  size_handle e = size_kind e

  pub size_array : kind_at t row ≡ 4 → a_at t row < row → size_of t row ≡ b_at t row * size_of t (a_at t row)
  unfolding layout_as
  size_array e h = size_kind e ∙ ap (λ (l : Layout). b_at t row * l.size) (layout_below_lem t row (a_at t row) h)

  pub size_vector : kind_at t row ≡ 5 → size_of t row ≡ 16
  unfolding layout_as
  size_vector e = size_kind e

  pub size_string : kind_at t row ≡ 6 → size_of t row ≡ 16
  unfolding layout_as
  size_string e = size_kind e

  pub size_box : kind_at t row ≡ 8 → size_of t row ≡ 8
  unfolding layout_as
  size_box e = size_kind e

  pub size_table : kind_at t row ≡ 9 → size_of t row ≡ 16
  unfolding layout_as
  size_table e = size_kind e

  pub size_enum : kind_at t row ≡ 11 → size_of t row ≡ a_at t row
  unfolding layout_as
  size_enum e = size_kind e

  pub size_bits : kind_at t row ≡ 12 → size_of t row ≡ a_at t row
  unfolding layout_as
  size_bits e = size_kind e

  -- In the edition with 8-byte envelopes.
  pub size_union : t.edition ≡ eight_byte_envelopes → kind_at t row ≡ 10 → size_of t row ≡ 16
  unfolding layout_as envelope_size
  size_union edition e = size_kind e ∙ rw edition

-- ---- what the soundness of the table says of the row

module _ (t : TypeTable) (row : ℕ) (sound : soundness t ≡ accepted tt) (in_use : row < row_count t) where
  pub fits_kind : {k : ℕ} → kind_at t row ≡ k → row_fits t row (type_as k (a_at t row) (b_at t row) (c_at t row)) ≡ true
  fits_kind e = rw (type_kind t row e) at (sound_fits t row (sound_rows t sound row in_use))

  pub number_width : kind_at t row ≡ 2 → width_allowed (a_at t row) ≡ true
  unfolding row_fits
  number_width e = (both _ _ (both _ _ (fits_kind e)).0).0

  pub array_below : kind_at t row ≡ 4 → a_at t row < row
  array_below e = (array_fits t row (a_at t row) (b_at t row) (fits_kind e)).below

pub width_positive : (width : ℕ) → width_allowed width ≡ true → 0 < width
width_positive zero allowed = absurd (let z : ◌≡◌ {A = ℕ} 0 1 = cc in omega arith)
width_positive (suc width) allowed = omega arith
