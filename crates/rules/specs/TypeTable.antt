-- The type table: rows, the twelve kinds, members and ordinals, entries, and recursion over rows.
-- Assumes nothing.
use Rattle.std.specs.Prelude.{Bool, List, [], ◌∷◌, ℕ, zero, suc, ◌+◌, ◌*◌, ◌/◌, ◌%◌, eqb, length, get_or, if◌then◌else◌}

-- An edition of the wire format says what an envelope is. There is one so far: 8 bytes, with payloads of up to 4 bytes in
-- line. What depends on the edition: `envelope_size` here, and Envelope.antt.
pub data Edition : Type 0 where
  eight_byte_envelopes : Edition

unfoldable pub envelope_size : Edition → ℕ
envelope_size eight_byte_envelopes = 8

-- "Two lent lists of 32-bit numbers. A row is four: kind, a, b, c. A member is two: ordinal, row." W-206: "Entries stand in a
-- third list of the type table, 64-bit patterns, at most 1,024".
pub record TypeTable : Type 0 where
  pub rows : List ℕ
  pub members : List ℕ
  pub entries : List ℕ
  pub edition : Edition

abbrev pub type_table : (rows members entries : List ℕ) → TypeTable
type_table rows members entries = record { rows = rows; members = members; entries = entries; edition = eight_byte_envelopes }

-- Rows, members and entries count from 0.
abbrev pub row_count : TypeTable → ℕ
row_count t = length t.rows / 4

abbrev pub member_count : TypeTable → ℕ
member_count t = length t.members / 2

-- The four numbers of a row, the two of a member and an entry, by the list that they stand in; past its end stands 0.
abbrev pub kind_in : (rows : List ℕ) (row : ℕ) → ℕ
kind_in rows row = get_or rows (row * 4) 0

abbrev pub a_in : (rows : List ℕ) (row : ℕ) → ℕ
a_in rows row = get_or rows (row * 4 + 1) 0

abbrev pub b_in : (rows : List ℕ) (row : ℕ) → ℕ
b_in rows row = get_or rows (row * 4 + 2) 0

abbrev pub c_in : (rows : List ℕ) (row : ℕ) → ℕ
c_in rows row = get_or rows (row * 4 + 3) 0

abbrev pub ordinal_in : (members : List ℕ) (member : ℕ) → ℕ
ordinal_in members member = get_or members (member * 2) 0

abbrev pub row_in : (members : List ℕ) (member : ℕ) → ℕ
row_in members member = get_or members (member * 2 + 1) 0

abbrev pub entry_in : (entries : List ℕ) (entry : ℕ) → ℕ
entry_in entries entry = get_or entries entry 0

abbrev pub kind_at : TypeTable → ℕ → ℕ
kind_at t row = kind_in t.rows row

abbrev pub a_at : TypeTable → ℕ → ℕ
a_at t row = a_in t.rows row

abbrev pub b_at : TypeTable → ℕ → ℕ
b_at t row = b_in t.rows row

abbrev pub c_at : TypeTable → ℕ → ℕ
c_at t row = c_in t.rows row

abbrev pub ordinal_at : TypeTable → ℕ → ℕ
ordinal_at t member = ordinal_in t.members member

abbrev pub row_of : TypeTable → ℕ → ℕ
row_of t member = row_in t.members member

abbrev pub entry_at : TypeTable → ℕ → ℕ
entry_at t entry = entry_in t.entries entry

-- What a row says, kind by kind; `first` and `count` name members, or the entries of a strict enum.
pub data FidlType : Type 0 where
  bool : FidlType
  number : (width : ℕ) → FidlType
  handle : (optional : Bool) → FidlType
  array : (element count : ℕ) → FidlType
  vector : (element largest : ℕ) (optional : Bool) → FidlType
  string : (largest : ℕ) (optional : Bool) → FidlType
  struct : (first count : ℕ) → FidlType
  box : (element : ℕ) → FidlType
  table : (first count : ℕ) → FidlType
  union : (first count : ℕ) (optional flexible : Bool) → FidlType
  strict_enum : (width first count : ℕ) → FidlType
  strict_bits : (width mask : ℕ) → FidlType
  none : FidlType

-- Document 01's table of kinds, a line each. A union's c is 1 for optional, 2 for flexible, 3 for both. W-206: "11, a strict
-- enum (a is the width, b and c name a first entry and a number of entries, at least one), and 12, strict bits (a is the
-- width, b the entry that is the mask, c is 1)".
abbrev pub type_as : (kind a b c : ℕ) → FidlType
type_as kind a b c =
    if eqb kind 1 then bool else
    (if eqb kind 2 then number a else
    (if eqb kind 3 then handle (eqb a 1) else
    (if eqb kind 4 then array a b else
    (if eqb kind 5 then vector a b (eqb c 1) else
    (if eqb kind 6 then string b (eqb c 1) else
    (if eqb kind 7 then struct a b else
    (if eqb kind 8 then box a else
    (if eqb kind 9 then table a b else
    (if eqb kind 10 then union a b (eqb (c % 2) 1) (eqb (c / 2) 1) else
    (if eqb kind 11 then strict_enum a b c else
    (if eqb kind 12 then strict_bits a b else none)))))))))))

unfoldable pub type_of : TypeTable → ℕ → FidlType
type_of t row = type_as (kind_at t row) (a_at t row) (b_at t row) (c_at t row)

-- The rows of the `count` members from `first` on.
unfoldable pub member_rows : TypeTable → (first count : ℕ) → List ℕ
member_rows t first zero = []
member_rows t first (suc count) = row_of t first ∷ member_rows t (suc first) count

-- What an ordinal stands for in a table or union: the row of the member that has it, or unknown content.
pub data Content : Type 0 where
  known : (row : ℕ) → Content
  unknown : Content

unfoldable pub content_of : TypeTable → (first count ordinal : ℕ) → Content
content_of t first zero ordinal = unknown
content_of t first (suc count) ordinal =
    let later = content_of t (suc first) count ordinal in
    if eqb (ordinal_at t first) ordinal then known (row_of t first) else later

-- Recursion over rows: `step` makes the value of a row from those of the rows with smaller numbers; a row that is not
-- below has the value `outside`.
unfoldable pub below : {A : Type 0} → (outside : A) → (step : (ℕ → A) → ℕ → A) → (bound row : ℕ) → A
below outside step zero row = outside
below outside step (suc bound) row =
    let here = step (below outside step bound) bound in
    let earlier = below outside step bound row in
    if eqb row bound then here else earlier
