-- When a type table is sound (1), and which rows may be a root (2): document 01's section "The type table".
-- Assumes nothing.
use Rattle.std.specs.Prelude.{Bool, true, false, ◌&&◌, ◌||◌, ℕ, zero, suc, ◌+◌, ◌%◌, ◌^◌, eqb, leb, ltb, length}
use Rattle.rules.specs.declared.Place.TheVariants.{Row}
use Rattle.rules.specs.Refusals.{table_not_sound, root_not_allowed, fault, Answer, accepted, require}
use Rattle.rules.specs.TypeTable.{TypeTable, row_count, member_count, kind_at, a_at, b_at, c_at, ordinal_at, row_of, entry_at, FidlType, bool, number, handle, array, vector, string, struct, box, table, union, strict_enum, strict_bits, none, type_of}
use Rattle.rules.specs.Sizes.{size_of}

-- "lists whole": 1 to 256 rows of four numbers, 0 to 1,024 members of two, and of entries "at most 1,024" (W-206).
abbrev pub lists_whole : TypeTable → Bool
lists_whole t =
    eqb (length t.rows % 4) 0 && leb 4 (length t.rows) && leb (length t.rows) 1024
    && eqb (length t.members % 2) 0 && leb (length t.members) 2048
    && leb (length t.entries) 1024

-- "struct ordinals are 1, 2, 3 and on", and its members' rows have smaller numbers than its own.
unfoldable pub struct_members : TypeTable → (row first count ordinal : ℕ) → Bool
struct_members t row first zero ordinal = true
struct_members t row first (suc count) ordinal =
    (eqb (ordinal_at t first) ordinal && ltb (row_of t first) row) && struct_members t row (suc first) count (suc ordinal)

-- "table and union ordinals start at 1 or more and rise strictly", and their members' rows exist.
unfoldable pub rising_members : TypeTable → (first count before : ℕ) → Bool
rising_members t first zero before = true
rising_members t first (suc count) before =
    (ltb before (ordinal_at t first) && ltb (row_of t first) (row_count t)) && rising_members t (suc first) count (ordinal_at t first)

-- "first member plus members is at most the member count, also for none"
abbrev pub members_exist : TypeTable → (first count : ℕ) → Bool
members_exist t first count = leb (first + count) (member_count t)

-- W-206: "those that a row names exist and lie within its width, and an enum's rise strictly": each is at least `least`.
abbrev pub entries_exist : TypeTable → (first count : ℕ) → Bool
entries_exist t first count = leb (first + count) (length t.entries)

unfoldable pub rising_entries : TypeTable → (width first count least : ℕ) → Bool
rising_entries t width first zero least = true
rising_entries t width first (suc count) least =
    (leb least (entry_at t first) && ltb (entry_at t first) (256 ^ width)) && rising_entries t width (suc first) count (suc (entry_at t first))

-- "bytes: 1, 2, 4, 8"
abbrev pub width_allowed : (width : ℕ) → Bool
width_allowed width = eqb width 1 || eqb width 2 || eqb width 4 || eqb width 8

-- "every row as above": the line of the table of kinds that a row has, with the cells that must be 0.
unfoldable pub row_fits : TypeTable → ℕ → FidlType → Bool
row_fits t row bool = eqb (a_at t row) 0 && eqb (b_at t row) 0 && eqb (c_at t row) 0
row_fits t row (number width) = width_allowed width && eqb (b_at t row) 0 && eqb (c_at t row) 0
row_fits t row (handle optional) = leb (a_at t row) 1 && eqb (b_at t row) 0 && eqb (c_at t row) 0
row_fits t row (array element count) = ltb element row && leb 1 count && leb count 65528 && eqb (c_at t row) 0
row_fits t row (vector element largest optional) = ltb element (row_count t) && leb (c_at t row) 1
row_fits t row (string largest optional) = eqb (a_at t row) 0 && leb (c_at t row) 1
row_fits t row (struct first count) = (members_exist t first count && eqb (c_at t row) 0) && struct_members t row first count 1
row_fits t row (box element) =
    ltb element (row_count t) && eqb (kind_at t element) 7 && eqb (b_at t row) 0 && eqb (c_at t row) 0
row_fits t row (table first count) = (members_exist t first count && eqb (c_at t row) 0) && rising_members t first count 0
row_fits t row (union first count optional flexible) =
    (members_exist t first count && leb 1 count && leb (c_at t row) 3) && rising_members t first count 0
row_fits t row (strict_enum width first count) =
    (width_allowed width && leb 1 count && entries_exist t first count) && rising_entries t width first count 0
row_fits t row (strict_bits width mask) =
    (width_allowed width && eqb (c_at t row) 1 && entries_exist t mask 1) && rising_entries t width mask 1 0
row_fits t row none = false

-- A row is sound: its line, and "no in-line size exceeds 65,528".
unfoldable pub row_sound : TypeTable → ℕ → Bool
row_sound t row = row_fits t row (type_of t row) && leb (size_of t row) 65528

-- The lowest bad row of the `count` rows from `row` on.
unfoldable pub rows_sound : TypeTable → (row count : ℕ) → Answer (Unit {0})
rows_sound t row zero = accepted tt
rows_sound t row (suc count) =
    let later = rows_sound t (suc row) count in
    require (row_sound t row) (fault table_not_sound (Row row)) later

-- 1: at the lowest bad row; at 256 if a list's length is wrong.
unfoldable pub soundness : TypeTable → Answer (Unit {0})
soundness t =
    let rows = rows_sound t 0 (row_count t) in
    require (lists_whole t) (fault table_not_sound (Row 256)) rows

-- "A root is a row of kind 7, 9 or 10."
abbrev pub root_kind : FidlType → Bool
root_kind bool = false
root_kind (number width) = false
root_kind (handle optional) = false
root_kind (array element count) = false
root_kind (vector element largest optional) = false
root_kind (string largest optional) = false
root_kind (struct first count) = true
root_kind (box element) = false
root_kind (table first count) = true
root_kind (union first count optional flexible) = true
root_kind (strict_enum width first count) = false
root_kind (strict_bits width mask) = false
root_kind none = false

unfoldable pub root_allowed : TypeTable → ℕ → Bool
root_allowed t root = ltb root (row_count t) && root_kind (type_of t root)

-- 2: at the row asked for.
abbrev pub require_row : {A : Type 0} → Bool → ℕ → Answer A → Answer A
require_row allowed row answer = require allowed (fault root_not_allowed (Row row)) answer
