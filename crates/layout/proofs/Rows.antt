-- Laws of the rules' definitions: recursion over rows, and what the soundness of a type table says of each row.
-- Assumes nothing.
use Rattle.std.specs.Prelude.{if◌then◌else◌}
use mathlib.Core.Bool.{Bool, true, false, ◌&&◌}
use mathlib.Core.Path.{◌≡◌, refl, ap, sym, ◌∙◌}
use Prim.Native.Nat.{ℕ, zero, suc, ◌+◌, ◌-◌, ◌%◌, ◌≤◌, ◌<◌}
use native.Mathlib.Nat.{not-suc-le-zero}
use native.Mathlib.Numerals.{sub-one, add-one}
use native.Mathlib.Omega.{arith}
use lib.Dec.{eqb, leb, ltb}
use lib.ListN.{length}
use borrow.Author.Tests.{eqb-true, eqb-false, leb-true, ltb-true, ne_eqb}
use Rattle.rules.proofs.Tests.{both}
use Rattle.rules.specs.declared.Fault.{Fault}
use Rattle.rules.specs.declared.Layout.{Layout}
use Rattle.rules.specs.Refusals.{Answer, accepted, refused, require}
use Rattle.rules.specs.TypeTable.{TypeTable, row_count, member_count, kind_at, a_at, b_at, c_at, row_of, ordinal_at, array, struct, strict_enum, strict_bits, none, type_as, type_of, below}
use Rattle.rules.specs.Sizes.{layout, layout_step, layout_as, layout_below, layout_of, size_of}
use Rattle.rules.specs.Sound.{lists_whole, struct_members, rising_members, rising_entries, members_exist, entries_exist, width_allowed, row_fits, row_sound, rows_sound, soundness}
use Rattle.layout.specs.Kept.{Fits, SoundBelow}

-- ---- recursion over rows

module _ {A : Type 0} (outside : A) (step : (ℕ → A) → ℕ → A) where
  below_case : (bound row : ℕ) (same : Bool) → eqb row bound ≡ same → row < suc bound
      → (row < bound → below outside step bound row ≡ step (below outside step row) row)
      → (if same then step (below outside step bound) bound else below outside step bound row) ≡ step (below outside step row) row
  below_case bound row true e h earlier = ap (λ n. step (below outside step n) n) (sym (eqb-true row bound e))
  below_case bound row false e h earlier = earlier (let n = eqb-false row bound e in omega arith)

  pub below_step : (bound row : ℕ) → row < bound → below outside step bound row ≡ step (below outside step row) row
  unfolding below
  below_step zero row h = absurd (not-suc-le-zero h)
  below_step (suc bound) row h = below_case bound row (eqb row bound) refl h (below_step bound row)

  outside_case : (bound row : ℕ) (same : Bool) → eqb row bound ≡ same → suc bound ≤ row → below outside step bound row ≡ outside
      → (if same then step (below outside step bound) bound else below outside step bound row) ≡ outside
  outside_case bound row true e h earlier = absurd (let n = eqb-true row bound e in omega arith)
  outside_case bound row false e h earlier = earlier

  pub below_outside : (bound row : ℕ) → bound ≤ row → below outside step bound row ≡ outside
  unfolding below
  below_outside zero row h = refl
  below_outside (suc bound) row h = outside_case bound row (eqb row bound) refl h (below_outside bound row (omega arith))

-- The layouts of the rows below a bound are the rows' layouts; a row that is not below has size 0 and alignment 1 there.
pub layout_below_lem : (t : TypeTable) (bound row : ℕ) → row < bound → layout_below t bound row ≡ layout_of t row
unfolding layout_below layout_of
layout_below_lem t bound row h = below_step (layout 0 1) (layout_step t) bound row h

pub layout_outside : (t : TypeTable) (bound row : ℕ) → bound ≤ row → layout_below t bound row ≡ layout 0 1
unfolding layout_below
layout_outside t bound row h = below_outside (layout 0 1) (layout_step t) bound row h

-- The layout of a row follows from those of the rows below it.
pub layout_step_lem : (t : TypeTable) (row : ℕ) → layout_of t row ≡ layout_as t (layout_below t row) (type_of t row)
unfolding layout_of
layout_step_lem t row = refl

-- ---- tests that passed

pub required : {A : Type 0} (test : Bool) (f : Fault) (a : Answer A) (x : A) → require test f a ≡ accepted x
    → (test ≡ true) × (a ≡ accepted x)
required true f a x e = (refl, e)
required false f a x e = let z : ◌≡◌ {A = Answer _} (refused f) (accepted x) = e in (cc, cc)

-- "lists whole" bounds the three lists, and rows are of four numbers, members of two.
pub record Whole (t : TypeTable) : Type 0 where
  pub fours : length t.rows % 4 ≡ 0
  pub some : 4 ≤ length t.rows
  pub rows : length t.rows ≤ 1024
  pub twos : length t.members % 2 ≡ 0
  pub members : length t.members ≤ 2048
  pub entries : length t.entries ≤ 1024

pub lists_whole_lem : (t : TypeTable) → lists_whole t ≡ true → Whole t
lists_whole_lem t e =
    let n = length t.rows in let m = length t.members in let k = length t.entries in
    let all = both (eqb (n % 4) 0 && leb 4 n && leb n 1024 && eqb (m % 2) 0 && leb m 2048) (leb k 1024) e in
    let up = both (eqb (n % 4) 0 && leb 4 n && leb n 1024 && eqb (m % 2) 0) (leb m 2048) all.0 in
    let even = both (eqb (n % 4) 0 && leb 4 n && leb n 1024) (eqb (m % 2) 0) up.0 in
    let rows = both (eqb (n % 4) 0 && leb 4 n) (leb n 1024) even.0 in
    let some = both (eqb (n % 4) 0) (leb 4 n) rows.0 in
    record {
      fours = eqb-true (n % 4) 0 some.0;
      some = leb-true 4 n some.1;
      rows = leb-true n 1024 rows.1;
      twos = eqb-true (m % 2) 0 even.1;
      members = leb-true m 2048 up.1;
      entries = leb-true k 1024 all.1;
    }

-- ---- sound rows

rows_case : (t : TypeTable) (row r : ℕ) (first : Bool) → eqb r row ≡ first → row ≤ r
    → row_sound t row ≡ true → (suc row ≤ r → row_sound t r ≡ true) → row_sound t r ≡ true
rows_case t row r true e low here later = ap (row_sound t) (eqb-true r row e) ∙ here
rows_case t row r false e low here later = later (let n = eqb-false r row e in omega arith)

pub rows_sound_lem : (t : TypeTable) (row count : ℕ) → rows_sound t row count ≡ accepted tt
    → (r : ℕ) → row ≤ r → r < row + count → row_sound t r ≡ true
unfolding rows_sound
rows_sound_lem t row zero e r low high = absurd (omega arith)
rows_sound_lem t row (suc count) e r low high =
    let passed = required (row_sound t row) _ (rows_sound t (suc row) count) tt e in
    rows_case t row r (eqb r row) refl low passed.0 (λ l. rows_sound_lem t (suc row) count passed.1 r l (omega arith))

pub sound_lists : (t : TypeTable) → soundness t ≡ accepted tt → lists_whole t ≡ true
unfolding soundness
sound_lists t e = (required (lists_whole t) _ (rows_sound t 0 (row_count t)) tt e).0

pub sound_rows : (t : TypeTable) → soundness t ≡ accepted tt → SoundBelow t (row_count t)
unfolding soundness
sound_rows t e row h =
    let rows = (required (lists_whole t) _ (rows_sound t 0 (row_count t)) tt e).1 in
    rows_sound_lem t 0 (row_count t) rows row (omega arith) (omega arith)

-- A sound row has its line of the table of kinds, and its size is at most 65,528.
pub sound_fits : (t : TypeTable) (row : ℕ) → row_sound t row ≡ true → row_fits t row (type_of t row) ≡ true
unfolding row_sound
sound_fits t row e = (both (row_fits t row (type_of t row)) (leb (size_of t row) 65528) e).0

pub sound_size : (t : TypeTable) (row : ℕ) → row_sound t row ≡ true → size_of t row ≤ 65528
unfolding row_sound
sound_size t row e = leb-true (size_of t row) 65528 (both (row_fits t row (type_of t row)) (leb (size_of t row) 65528) e).1

-- What an array's line says, and a struct's.
pub record ArrayFits (row element count : ℕ) : Type 0 where
  pub below : element < row
  pub some : 1 ≤ count
  pub most : count ≤ 65528

pub array_fits : (t : TypeTable) (row element count : ℕ) → row_fits t row (array element count) ≡ true → ArrayFits row element count
unfolding row_fits
array_fits t row element count e =
    let counts = (both (ltb element row && leb 1 count && leb count 65528) (eqb (c_at t row) 0) e).0 in
    let parts = both (ltb element row && leb 1 count) (leb count 65528) counts in
    let first = both (ltb element row) (leb 1 count) parts.0 in
    record { below = ltb-true element row first.0; some = leb-true 1 count first.1; most = leb-true count 65528 parts.1 }

pub record StructFits (t : TypeTable) (row first count : ℕ) : Type 0 where
  pub exist : first + count ≤ member_count t
  pub members : struct_members t row first count 1 ≡ true

pub struct_fits : (t : TypeTable) (row first count : ℕ) → row_fits t row (struct first count) ≡ true → StructFits t row first count
unfolding row_fits
struct_fits t row first count e =
    let parts = both (members_exist t first count && eqb (c_at t row) 0) (struct_members t row first count 1) e in
    let exist = (both (members_exist t first count) (eqb (c_at t row) 0) parts.0).0 in
    record { exist = leb-true (first + count) (member_count t) exist; members = parts.1 }

-- The entries that the line of a strict enum or of strict bits names.
pub record EntriesFit (t : TypeTable) (width first count : ℕ) : Type 0 where
  pub allowed : width_allowed width ≡ true
  pub exist : first + count ≤ length t.entries
  pub rise : rising_entries t width first count 0 ≡ true

entries_fit : (t : TypeTable) (width first count : ℕ) (cells : Bool)
    → ((width_allowed width && cells && entries_exist t first count) && rising_entries t width first count 0) ≡ true → EntriesFit t width first count
entries_fit t width first count cells e =
    let parts = both (width_allowed width && cells && entries_exist t first count) (rising_entries t width first count 0) e in
    let exist = both (width_allowed width && cells) (entries_exist t first count) parts.0 in
    record { allowed = (both (width_allowed width) cells exist.0).0; exist = leb-true (first + count) (length t.entries) exist.1; rise = parts.1 }

pub enum_fits : (t : TypeTable) (row width first count : ℕ) → row_fits t row (strict_enum width first count) ≡ true → EntriesFit t width first count
unfolding row_fits
enum_fits t row width first count e = entries_fit t width first count (leb 1 count) e

pub bits_fits : (t : TypeTable) (row width mask : ℕ) → row_fits t row (strict_bits width mask) ≡ true → EntriesFit t width mask 1
unfolding row_fits
bits_fits t row width mask e = entries_fit t width mask 1 (eqb (c_at t row) 1) e

-- One member of a struct, and of a table or union.
pub struct_step : (t : TypeTable) (row first count ordinal : ℕ) → 0 < count
    → struct_members t row first count ordinal
    ≡ ((eqb (ordinal_at t first) ordinal && ltb (row_of t first) row) && struct_members t row (first + 1) (count - 1) (ordinal + 1))
unfolding struct_members
struct_step t row first zero ordinal h = absurd (not-suc-le-zero h)
struct_step t row first (suc count) ordinal h = rw (add-one first, add-one ordinal, sub-one (suc count))

pub struct_none : (t : TypeTable) (row first ordinal : ℕ) → struct_members t row first 0 ordinal ≡ true
unfolding struct_members
struct_none t row first ordinal = refl

pub rising_step : (t : TypeTable) (first count before : ℕ) → 0 < count
    → rising_members t first count before
    ≡ ((ltb before (ordinal_at t first) && ltb (row_of t first) (row_count t)) && rising_members t (first + 1) (count - 1) (ordinal_at t first))
unfolding rising_members
rising_step t first zero before h = absurd (not-suc-le-zero h)
rising_step t first (suc count) before h = rw (add-one first, sub-one (suc count))

pub rising_none : (t : TypeTable) (first before : ℕ) → rising_members t first 0 before ≡ true
unfolding rising_members
rising_none t first before = refl

-- No entry of a strict enum.
pub entries_none : (t : TypeTable) (width first least : ℕ) → rising_entries t width first 0 least ≡ true
unfolding rising_entries
entries_none t width first least = refl

-- A member of a struct that fits: its row is below the struct's, and the members after it are as they must be.
pub record MemberFits (t : TypeTable) (row first count ordinal : ℕ) : Type 0 where
  pub below : row_of t first < row
  pub rest : struct_members t row (first + 1) (count - 1) (ordinal + 1) ≡ true

pub member_fits : (t : TypeTable) (row first count ordinal : ℕ) → 0 < count → struct_members t row first count ordinal ≡ true
    → MemberFits t row first count ordinal
member_fits t row first count ordinal h e =
    let rest = struct_members t row (first + 1) (count - 1) (ordinal + 1) in
    let parts = both (eqb (ordinal_at t first) ordinal && ltb (row_of t first) row) rest (sym (struct_step t row first count ordinal h) ∙ e) in
    let below = (both (eqb (ordinal_at t first) ordinal) (ltb (row_of t first) row) parts.0).1 in
    record { below = ltb-true (row_of t first) row below; rest = parts.1 }

-- ---- kinds

-- A kind that is none of 1 to 12.
pub record OtherKind (kind : ℕ) : Type 0 where
  pub not_bool : kind ≡ 1 → ⊥
  pub not_number : kind ≡ 2 → ⊥
  pub not_handle : kind ≡ 3 → ⊥
  pub not_array : kind ≡ 4 → ⊥
  pub not_vector : kind ≡ 5 → ⊥
  pub not_string : kind ≡ 6 → ⊥
  pub not_struct : kind ≡ 7 → ⊥
  pub not_box : kind ≡ 8 → ⊥
  pub not_table : kind ≡ 9 → ⊥
  pub not_union : kind ≡ 10 → ⊥
  pub not_enum : kind ≡ 11 → ⊥
  pub not_bits : kind ≡ 12 → ⊥

pub other_kind : (kind a b c : ℕ) → OtherKind kind → type_as kind a b c ≡ none
other_kind kind a b c o =
    simp (
      ne_eqb kind 1 o.not_bool,
      ne_eqb kind 2 o.not_number,
      ne_eqb kind 3 o.not_handle,
      ne_eqb kind 4 o.not_array,
      ne_eqb kind 5 o.not_vector,
      ne_eqb kind 6 o.not_string,
      ne_eqb kind 7 o.not_struct,
      ne_eqb kind 8 o.not_box,
      ne_eqb kind 9 o.not_table,
      ne_eqb kind 10 o.not_union,
      ne_eqb kind 11 o.not_enum,
      ne_eqb kind 12 o.not_bits,
    )

-- A layout that goes by a row's kind and `a` alone is the row's layout.
pub layout_by_kind : (t : TypeTable) (row kind a : ℕ) (l : Layout) → kind ≡ kind_at t row → a ≡ a_at t row
    → ((b c : ℕ) → l ≡ layout_as t (layout_below t row) (type_as kind a b c)) → l ≡ layout_of t row
unfolding layout_of type_of
layout_by_kind t row kind a l k e same = same (b_at t row) (c_at t row) ∙ rw (k, e)

-- What the soundness of a type table says of a row in use.
pub record SoundRow (t : TypeTable) (row : ℕ) : Type 0 where
  pub below : SoundBelow t row
  pub fits : Fits t row
  pub members : member_count t ≤ 1024

pub sound_row : (t : TypeTable) → soundness t ≡ accepted tt → (row : ℕ) → row < row_count t → SoundRow t row
sound_row t sound row h =
    record {
      below = λ r l. sound_rows t sound r (omega arith);
      fits = sound_fits t row (sound_rows t sound row h);
      members = omega (arith, (lists_whole_lem t (sound_lists t sound)).members);
    }
