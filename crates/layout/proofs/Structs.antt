-- A struct laid out member by member has the size and the alignment that the rules give it.
-- Assumes nothing.
use mathlib.Core.List.{List, [], ◌∷◌}
use mathlib.Core.Path.{◌≡◌, refl, ap, sym, ◌∙◌}
use Prim.Native.Nat.{ℕ, zero, suc, ◌+◌, ◌-◌, ◌≤◌, ◌<◌, max}
use native.Mathlib.Nat.{not-suc-le-zero, div-eq_of_lt, div-add-mod', mod-lt}
use native.Mathlib.Numerals.{sub-one, add-one}
use native.Mathlib.Omega.{arith}
use Rattle.rules.specs.declared.Layout.{Layout}
use Rattle.rules.specs.Bytes.{round_up}
use Rattle.rules.specs.TypeTable.{TypeTable, row_of, struct, member_rows}
use Rattle.rules.specs.Sizes.{layout, largest_alignment, fields_from, fields_of, fields_size, struct_size, layout_as}
use Rattle.layout.specs.Running.{placed, placed_all, closed}

-- ---- rounding up

pub round_least : (n : ℕ) {a : ℕ} → 0 < a → n ≤ round_up n a
unfolding round_up
round_least n {a} h = omega (arith, div-add-mod' (n + (a - 1)) a, mod-lt (n + (a - 1)) h)

pub round_most : (n : ℕ) {a : ℕ} → 0 < a → round_up n a < n + a
unfolding round_up
round_most n {a} h = omega (arith, div-add-mod' (n + (a - 1)) a)

round_zero : {a : ℕ} → 0 < a → round_up 0 a ≡ 0
unfolding round_up
round_zero {a} h = let e : 0 + (a - 1) < a = omega arith in rw (div-eq_of_lt e) (omega arith)

-- ---- members

module _ (inner : ℕ → Layout) (aligned : (row : ℕ) → 0 < (inner row).alignment) where
  -- The largest alignment, taken from the first member on.
  placed_alignment : (before : Layout) (rows : List ℕ) → 0 < before.alignment
      → (placed_all inner before rows).alignment ≡ max before.alignment (largest_alignment inner rows)
  unfolding placed_all largest_alignment
  placed_alignment before [] h = omega arith
  placed_alignment before (row ∷ rows) h = omega (arith, placed_alignment (placed before (inner row)) rows (omega arith))

  -- Sizes and fills from an offset on add up to the end of the last member, rounded up.
  placed_size : (whole offset alignment row : ℕ) (rows : List ℕ) → 0 < whole
      → offset + fields_size inner (fields_from inner whole offset (row ∷ rows))
      ≡ round_up (placed_all inner (layout (offset + (inner row).size) alignment) rows).size whole
  unfolding placed_all fields_from fields_size
  placed_size whole offset alignment row [] h = omega (arith, round_least (offset + (inner row).size) h)
  placed_size whole offset alignment row (next ∷ rows) h =
      let end = offset + (inner row).size in
      omega (
        arith,
        round_least end (aligned next),
        placed_size whole (round_up end (inner next).alignment) (max alignment (inner next).alignment) next rows h,
      )

  -- A struct with members is what its members make, one placed after the other.
  rows_closed : (row : ℕ) (rows : List ℕ)
      → layout (struct_size inner (fields_of inner (row ∷ rows))) (largest_alignment inner (row ∷ rows))
      ≡ closed (placed_all inner (layout 0 1) (row ∷ rows))
  unfolding struct_size fields_of largest_alignment placed_all
  rows_closed row rows =
      let whole = largest_alignment inner (row ∷ rows) in
      let last = placed_all inner (layout 0 1) (row ∷ rows) in
      let alignment : last.alignment ≡ whole = omega (arith, placed_alignment (layout 0 1) (row ∷ rows) (omega arith), aligned row) in
      let start : ℕ → ℕ = λ n. (placed_all inner (layout (n + (inner row).size) (max 1 (inner row).alignment)) rows).size in
      let size : fields_size inner (fields_from inner whole 0 (row ∷ rows)) ≡ round_up last.size whole =
      omega (
        arith,
        placed_size whole 0 (max 1 (inner row).alignment) row rows (omega (arith, aligned row)),
        ap (λ n. round_up (start n) whole) (round_zero (aligned row)),
      ) in
      ap (λ s. layout s whole) size ∙ ap (λ a. layout (round_up last.size a) a) (sym alignment)

  pub struct_closed : (t : TypeTable) (first count : ℕ) → 0 < count
      → layout_as t inner (struct first count) ≡ closed (placed_all inner (layout 0 1) (member_rows t first count))
  unfolding layout_as member_rows
  struct_closed t first zero h = absurd (not-suc-le-zero h)
  struct_closed t first (suc count) h = rows_closed (row_of t first) (member_rows t (suc first) count)

-- The next of the members that are left.
pub members_step : (t : TypeTable) (first count : ℕ) → 0 < count
    → member_rows t first count ≡ row_of t first ∷ member_rows t (first + 1) (count - 1)
unfolding member_rows
members_step t first zero h = absurd (not-suc-le-zero h)
members_step t first (suc count) h = rw (add-one first, sub-one (suc count))

pub placed_step : (inner : ℕ → Layout) (t : TypeTable) (before : Layout) (first count : ℕ) → 0 < count
    → placed_all inner before (member_rows t first count)
    ≡ placed_all inner (placed before (inner (row_of t first))) (member_rows t (first + 1) (count - 1))
unfolding placed_all
placed_step inner t before first count h = rw (members_step t first count h)

pub placed_none : (inner : ℕ → Layout) (t : TypeTable) (before : Layout) (first : ℕ)
    → placed_all inner before (member_rows t first 0) ≡ before
unfolding placed_all member_rows
placed_none inner t before first = refl
