-- Structs and arrays at their start: which rows have parts, and that all fields are left, which take the row's size.
-- Assumes nothing.
use mathlib.Core.Bool.{Bool, true, false, not, ◌&&◌, ◌||◌}
use mathlib.Core.List.{List}
use mathlib.Core.Path.{◌≡◌, refl, ap, ◌∙◌}
use Prim.Native.Nat.{ℕ, zero, suc, ◌+◌, ◌-◌, ◌*◌, ◌<◌}
use native.Mathlib.Nat.{add-zero, suc-mul}
use native.Mathlib.Omega.{arith}
use borrow.Author.Tests.{eqb-true, ltb-true}
use lib.Dec.{eqb, ltb}
use lib.ListN.{get_or}
use Rattle.rules.specs.declared.Layout.{Layout}
use Rattle.rules.specs.Refusals.{accepted}
use Rattle.rules.specs.TypeTable.{TypeTable, row_count, kind_at, a_at, b_at, row_of, member_rows, struct}
use Rattle.rules.specs.Sizes.{Field, layout_of, layout_below, layout_as, size_of, largest_alignment, fields_from, fields_of, fields_size, struct_size}
use Rattle.rules.specs.Sound.{soundness, struct_members}
use Rattle.rules.proofs.Tests.{both}
use Rattle.layout.proofs.Rows.{layout_step_lem, layout_below_lem, member_fits, struct_fits}
use Rattle.nesting.specs.declared.Level.{Level}
use Rattle.nesting.specs.Nesting.{has_parts}
use Rattle.layout.proofs.Below.{AllBelow, none, more, FieldsBelow, largest_same, fields_same, fields_below}
use Rattle.layout.proofs.ByKind.{type_kind, size_array, fits_kind, array_below}
use Rattle.nesting.proofs.Items.{copies}
use Rattle.nesting.proofs.Left.{fields_left, members_left, elements_left}

-- ---- what has parts

pub data Parts (rows : List ℕ) (row : ℕ) : Type 0 where
  members : get_or rows (row * 4) 0 ≡ 7 → 0 < get_or rows (row * 4 + 2) 0 → Parts rows row
  elements : get_or rows (row * 4) 0 ≡ 4 → Parts rows row

pub parts_of_lem : (rows : List ℕ) (row : ℕ) → has_parts rows row ≡ true → Parts rows row
parts_of_lem rows row e =
    go (eqb (get_or rows (row * 4) 0) 7) (ltb 0 (get_or rows (row * 4 + 2) 0)) (eqb (get_or rows (row * 4) 0) 4) (not (eqb (get_or rows (get_or rows (row * 4 + 1) 0 * 4) 0) 2)) refl refl refl
    (both (ltb row 256) _ e).1
  where
    go : (struct some array other : Bool) → eqb (get_or rows (row * 4) 0) 7 ≡ struct → ltb 0 (get_or rows (row * 4 + 2) 0) ≡ some → eqb (get_or rows (row * 4) 0) 4 ≡ array
        → (struct && some) || (array && other) ≡ true → Parts rows row
    go true true array other k b a h = members (eqb-true _ 7 k) (ltb-true 0 _ b)
    go true false true other k b a h = elements (eqb-true _ 4 a)
    go false some true other k b a h = elements (eqb-true _ 4 a)
    go true false false other k b a h = absurd (let z : ◌≡◌ {A = ℕ} 0 1 = cc in omega arith)
    go false some false other k b a h = absurd (let z : ◌≡◌ {A = ℕ} 0 1 = cc in omega arith)

-- ---- the members of a sound struct

pub member_below : (t : TypeTable) (row first count ordinal i : ℕ) → struct_members t row first count ordinal ≡ true → i < count → row_of t (first + i) < row
member_below t row first count ordinal zero e h = rw (add-zero first) (member_fits t row first count ordinal h e).below
member_below t row first count ordinal (suc i) e h =
    let fits = member_fits t row first count ordinal (omega arith) e in
    let next : first + suc i ≡ (first + 1) + i = omega arith in
    rw next (member_below t row (first + 1) (count - 1) (ordinal + 1) i fits.rest (omega arith))

pub all_below_lem : (t : TypeTable) (row first count ordinal : ℕ) → struct_members t row first count ordinal ≡ true → AllBelow row (member_rows t first count)
unfolding member_rows
all_below_lem t row first zero ordinal e = none
all_below_lem t row first (suc count) ordinal e =
    let fits = member_fits t row first (suc count) ordinal (omega arith) e in
    let next : first + 1 ≡ suc first = omega arith in
    let rest : suc count - 1 ≡ count = omega arith in
    more fits.below (all_below_lem t row (suc first) count (ordinal + 1) (rw (next, rest) at fits.rest))

-- Where one starts, nothing of it is done.
abbrev pub start_of : (row at : ℕ) → Level
start_of row at = record { row = row; done = 0; at = at }

-- ---- a struct

size_below : (t : TypeTable) (bound : ℕ) {fs : List Field} → FieldsBelow bound fs → fields_size (layout_below t bound) fs ≡ fields_size (layout_of t) fs
unfolding fields_size
size_below t bound FieldsBelow.none = refl
size_below t bound (FieldsBelow.more {row} h a) = rw (layout_below_lem t bound row h, size_below t bound a)

module _ (t : TypeTable) (row : ℕ) (kind : kind_at t row ≡ 7) (all : AllBelow row (member_rows t (a_at t row) (b_at t row))) where
  as_struct : layout_of t row ≡ layout_as t (layout_below t row) (struct (a_at t row) (b_at t row))
  as_struct = layout_step_lem t row ∙ ap (layout_as t (layout_below t row)) (type_kind t row kind)

  struct_alignment : (layout_of t row).alignment ≡ largest_alignment (layout_of t) (member_rows t (a_at t row) (b_at t row))
  unfolding layout_as
  struct_alignment = ap (λ (l : Layout). l.alignment) as_struct ∙ largest_same t row all

  pub struct_fields_lem : (at : ℕ) → fields_left t (start_of row at) at ≡ fields_of (layout_of t) (member_rows t (a_at t row) (b_at t row))
  unfolding fields_of
  struct_fields_lem at =
      let start : at - at ≡ 0 = omega arith in
      let first : a_at t row + 0 ≡ a_at t row = omega arith in
      let count : a_at t row + b_at t row - a_at t row ≡ b_at t row = omega arith in
      members_left t (start_of row at) at kind ∙ rw (start, first, count, struct_alignment)

  some_fields : (inner : ℕ → Layout) (first count : ℕ) → 0 < count → struct_size inner (fields_of inner (member_rows t first count)) ≡ fields_size inner (fields_of inner (member_rows t first count))
  unfolding fields_of fields_from struct_size member_rows
  some_fields inner first zero h = absurd (omega arith)
  some_fields inner first (suc count) h = refl

  pub struct_size_lem : 0 < b_at t row → size_of t row ≡ fields_size (layout_of t) (fields_of (layout_of t) (member_rows t (a_at t row) (b_at t row)))
  unfolding layout_as
  struct_size_lem h =
      ap (λ (l : Layout). l.size) as_struct ∙ some_fields (layout_below t row) (a_at t row) (b_at t row) h
      ∙ size_below t row (fields_below (layout_below t row) row all)
      ∙ ap (fields_size (layout_of t)) (fields_same t row all)

-- ---- an array

pub copies_fields : (t : TypeTable) (count element : ℕ) → fields_size (layout_of t) (copies count element) ≡ count * size_of t element
unfolding fields_size copies
copies_fields t zero element = omega arith
copies_fields t (suc count) element = rw (copies_fields t count element, suc-mul) (omega arith)

pub array_fields : (t : TypeTable) (row : ℕ) → kind_at t row ≡ 4 → (at : ℕ) → fields_left t (start_of row at) at ≡ copies (b_at t row) (a_at t row)
array_fields t row kind at =
    let other : kind_at t row ≡ 7 → ⊥ = λ e. omega (arith, kind, e) in
    let count : b_at t row - 0 ≡ b_at t row = omega arith in
    rw count at (elements_left t (start_of row at) at other)

-- ---- either of them, in a sound type table

module _ (t : TypeTable) (row : ℕ) (sound : soundness t ≡ accepted tt) (in_use : row < row_count t) where
  pub members_below : kind_at t row ≡ 7 → AllBelow row (member_rows t (a_at t row) (b_at t row))
  members_below kind = all_below_lem t row (a_at t row) (b_at t row) 1 (struct_fits t row (a_at t row) (b_at t row) (fits_kind t row sound in_use kind)).members

  pub start_size : has_parts t.rows row ≡ true → (at : ℕ) → size_of t row ≡ fields_size (layout_of t) (fields_left t (start_of row at) at)
  start_size h at = go (parts_of_lem t.rows row h)
    where
      go : Parts t.rows row → size_of t row ≡ fields_size (layout_of t) (fields_left t (start_of row at) at)
      go (members kind some) = let all = members_below kind in rw (struct_fields_lem t row kind all at) (struct_size_lem t row kind all some)
      go (elements kind) = rw (array_fields t row kind at, copies_fields t (b_at t row) (a_at t row)) (size_array t row kind (array_below t row sound in_use kind))
