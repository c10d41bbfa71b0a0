-- The layout of a sound row: its size is 1 to 65,528, and its alignment 1, 2, 4 or 8.
-- Assumes nothing.
use mathlib.Core.Bool.{Bool, true, false, ◌&&◌, ◌||◌}
use mathlib.Core.List.{List, [], ◌∷◌}
use mathlib.Core.Path.{◌≡◌, refl, sym, subst}
use Prim.Native.Nat.{ℕ, zero, suc, ◌+◌, ◌-◌, ◌≤◌, ◌<◌, max}
use native.Mathlib.Nat.{max-eq_left, max-eq_right, mul-le-mul, le_of_lt}
use native.Mathlib.Omega.{arith}
use lib.Bits.{bit_and}
use lib.Dec.{eqb, leb, ltb}
use borrow.Author.Count.{below_none, below_more}
use borrow.Author.Tests.{eqb-true, leb-true, leb-false, ltb-true, ltb-false}
use Rattle.std.proofs.lemmas.Nat.Bits.{and_high_mask}
use Rattle.rules.specs.Bytes.{round_up}
use Rattle.rules.specs.declared.Layout.{Layout}
use Rattle.rules.specs.TypeTable.{TypeTable, b_at, c_at, row_of, FidlType, bool, number, handle, array, vector, string, struct, box, table, union, strict_enum, strict_bits, none, type_of, member_rows}
use Rattle.rules.specs.Sizes.{largest_alignment, fields_from, fields_of, fields_size, struct_size, layout_as, layout_below, layout_of}
use Rattle.rules.specs.Sound.{struct_members, width_allowed, row_fits, row_sound}
use Rattle.layout.specs.Running.{Alignment, one, two, four, eight}
use Rattle.layout.specs.Kept.{SoundBelow}
use Rattle.rules.proofs.Tests.{both}
use Rattle.layout.proofs.Rows.{sound_fits, sound_size, layout_below_lem, layout_outside, layout_step_lem, array_fits, struct_fits, member_fits, enum_fits, bits_fits}

-- ---- alignments

pub alignment_bounds : {a : ℕ} → Alignment a → (1 ≤ a) × (a ≤ 8)
alignment_bounds one = omega arith
alignment_bounds two = omega arith
alignment_bounds four = omega arith
alignment_bounds eight = omega arith

-- A mask clears what a division by such an alignment would leave.
pub masked : {a : ℕ} → Alignment a → (n : ℕ) → n ≤ 4294967296 → bit_and (n + (a - 1)) (18446744073709551615 - (a - 1)) ≡ round_up n a
unfolding round_up
masked one n h = and_high_mask 64 0 (omega arith) (n + 0) (omega arith)
masked two n h = and_high_mask 64 1 (omega arith) (n + 1) (omega arith)
masked four n h = and_high_mask 64 2 (omega arith) (n + 3) (omega arith)
masked eight n h = and_high_mask 64 3 (omega arith) (n + 7) (omega arith)

width_cases : (w : ℕ) (w1 w2 w4 w8 : Bool) → eqb w 1 ≡ w1 → eqb w 2 ≡ w2 → eqb w 4 ≡ w4 → eqb w 8 ≡ w8
    → (w1 || w2 || w4 || w8) ≡ true → Alignment w
width_cases w true w2 w4 w8 e1 e2 e4 e8 e = subst Alignment (sym (eqb-true w 1 e1)) one
width_cases w false true w4 w8 e1 e2 e4 e8 e = subst Alignment (sym (eqb-true w 2 e2)) two
width_cases w false false true w8 e1 e2 e4 e8 e = subst Alignment (sym (eqb-true w 4 e4)) four
width_cases w false false false true e1 e2 e4 e8 e = subst Alignment (sym (eqb-true w 8 e8)) eight
width_cases w false false false false e1 e2 e4 e8 e = let z : ◌≡◌ {A = ℕ} 0 1 = cc in absurd (omega arith)

pub width_alignment : (w : ℕ) → width_allowed w ≡ true → Alignment w
width_alignment w e = width_cases w (eqb w 1) (eqb w 2) (eqb w 4) (eqb w 8) refl refl refl refl e

larger_case : (a b : ℕ) (le : Bool) → leb a b ≡ le → Alignment a → Alignment b → Alignment (max a b)
larger_case a b true e p q = rw (max-eq_right (leb-true a b e)) q
larger_case a b false e p q = rw (max-eq_left (le_of_lt (leb-false a b e))) p

pub larger_alignment : {a b : ℕ} → Alignment a → Alignment b → Alignment (max a b)
larger_alignment {a} {b} p q = larger_case a b (leb a b) refl p q

number_alignment : (t : TypeTable) (row width : ℕ) → row_fits t row (number width) ≡ true → Alignment width
unfolding row_fits
number_alignment t row width e =
    width_alignment width (both (width_allowed width) (eqb (b_at t row) 0) (both (width_allowed width && eqb (b_at t row) 0) (eqb (c_at t row) 0) e).0).0

enum_alignment : (t : TypeTable) (row width first count : ℕ) → row_fits t row (strict_enum width first count) ≡ true → Alignment width
enum_alignment t row width first count e = width_alignment width (enum_fits t row width first count e).allowed

bits_alignment : (t : TypeTable) (row width mask : ℕ) → row_fits t row (strict_bits width mask) ≡ true → Alignment width
bits_alignment t row width mask e = width_alignment width (bits_fits t row width mask e).allowed

-- ---- one row, whose inner rows are laid out by `inner`

module _
    (t : TypeTable)
    (row : ℕ)
    (inner : ℕ → Layout)
    (aligned : (r : ℕ) → Alignment (inner r).alignment)
    (some : (r : ℕ) → r < row → 1 ≤ (inner r).size)
  where
    largest_alignment_lem : (rows : List ℕ) → Alignment (largest_alignment inner rows)
    unfolding largest_alignment
    largest_alignment_lem [] = one
    largest_alignment_lem (r ∷ rows) = larger_alignment (aligned r) (largest_alignment_lem rows)

    row_alignment : (type : FidlType) → row_fits t row type ≡ true → Alignment (layout_as t inner type).alignment
    unfolding row_fits layout_as
    row_alignment bool e = one
    row_alignment (number width) e = number_alignment t row width e
    row_alignment (handle optional) e = four
    row_alignment (array element count) e = aligned element
    row_alignment (vector element largest optional) e = eight
    row_alignment (string largest optional) e = eight
    row_alignment (struct first count) e = largest_alignment_lem (member_rows t first count)
    row_alignment (box element) e = eight
    row_alignment (table first count) e = eight
    row_alignment (union first count optional flexible) e = eight
    row_alignment (strict_enum width first count) e = enum_alignment t row width first count e
    row_alignment (strict_bits width mask) e = bits_alignment t row width mask e
    row_alignment none e = one

    struct_some : (first count : ℕ) → struct_members t row first count 1 ≡ true → 1 ≤ struct_size inner (fields_of inner (member_rows t first count))
    unfolding struct_size fields_of fields_from fields_size member_rows
    struct_some first zero e = omega arith
    struct_some first (suc count) e =
        omega (arith, some (row_of t first) (member_fits t row first (suc count) 1 (omega arith) e).below)

    row_some : (type : FidlType) → row_fits t row type ≡ true → 1 ≤ (layout_as t inner type).size
    unfolding row_fits layout_as
    row_some bool e = omega arith
    row_some (number width) e = (alignment_bounds (number_alignment t row width e)).0
    row_some (handle optional) e = omega arith
    row_some (array element count) e =
        let fits = array_fits t row element count e in
        mul-le-mul fits.some (some element fits.below)
    row_some (vector element largest optional) e = omega arith
    row_some (string largest optional) e = omega arith
    row_some (struct first count) e = struct_some first count (struct_fits t row first count e).members
    row_some (box element) e = omega arith
    row_some (table first count) e = omega arith
    row_some (union first count optional flexible) e = omega arith
    row_some (strict_enum width first count) e = (alignment_bounds (enum_alignment t row width first count e)).0
    row_some (strict_bits width mask) e = (alignment_bounds (bits_alignment t row width mask e)).0
    row_some none e = let z : false ≡ true = e in let z' : ◌≡◌ {A = ℕ} 0 1 = cc in absurd (omega arith)

-- ---- all rows

pub record Bounded (l : Layout) : Type 0 where
  pub some : 1 ≤ l.size
  pub most : l.size ≤ 65528
  pub alignment : Alignment l.alignment

module _ (t : TypeTable) where
  inner_case : (bound : ℕ) → ((row : ℕ) → row < bound → Bounded (layout_of t row))
      → (row : ℕ) (inside : Bool) → ltb row bound ≡ inside → Alignment (layout_below t bound row).alignment
  inner_case bound earlier row true e = rw (layout_below_lem t bound row (ltb-true row bound e)) (earlier row (ltb-true row bound e)).alignment
  inner_case bound earlier row false e = rw (layout_outside t bound row (ltb-false row bound e)) one

  inner_alignment : (bound : ℕ) → ((row : ℕ) → row < bound → Bounded (layout_of t row))
      → (row : ℕ) → Alignment (layout_below t bound row).alignment
  inner_alignment bound earlier row = inner_case bound earlier row (ltb row bound) refl

  pub row_bounded : (row : ℕ) → row_sound t row ≡ true → ((r : ℕ) → r < row → Bounded (layout_of t r)) → Bounded (layout_of t row)
  row_bounded row sound earlier =
      let aligned = inner_alignment row earlier in
      let some : (r : ℕ) → r < row → 1 ≤ (layout_below t row r).size = λ r h. rw (layout_below_lem t row r h) (earlier r h).some in
      let fits = sound_fits t row sound in
      record {
        some = rw (layout_step_lem t row) (row_some t row (layout_below t row) aligned some (type_of t row) fits);
        most = sound_size t row sound;
        alignment = rw (layout_step_lem t row) (row_alignment t row (layout_below t row) aligned some (type_of t row) fits);
      }

  -- Where every row below a bound is sound, their layouts are bounded,
  pub bounded : (bound : ℕ) → SoundBelow t bound → (row : ℕ) → row < bound → Bounded (layout_of t row)
  bounded zero sound = below_none (λ r. Bounded (layout_of t r))
  bounded (suc bound) sound = λ row h.
      let earlier : (r : ℕ) → r < bound → Bounded (layout_of t r) = bounded bound (λ r l. sound r (omega arith)) in
      below_more (λ r. Bounded (layout_of t r)) bound earlier (row_bounded bound (sound bound (omega arith)) earlier) row (omega arith)

  -- and no inner row of theirs is misaligned.
  pub aligned_below : (bound : ℕ) → SoundBelow t bound → (row : ℕ) → 0 < (layout_below t bound row).alignment
  aligned_below bound sound row = (alignment_bounds (inner_alignment bound (bounded bound sound) row)).0
