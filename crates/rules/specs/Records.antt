-- Records that stand in line and hold one value number: numbers, presences, counts. Each is read and written.
-- Assumes nothing.
use Rattle.std.specs.Prelude.{Bool, true, false, ◌||◌, List, ◌++◌, ℕ, zero, suc, ◌+◌, ◌^◌, leb, ltb, eqb, if◌then◌else◌}
use Rattle.std.specs.Int.Bits.{bit_and}
use Rattle.rules.specs.declared.Place.TheVariants.{Byte}
use Rattle.rules.specs.Refusals.{fault, bool_not_zero_or_one, presence_wrong, required_absent, absent_not_zero, count_over_largest, ordinal_unknown, strict_value_unknown}
use Rattle.rules.specs.Bytes.{word, bytes_of, ones64}
use Rattle.rules.specs.TypeTable.{TypeTable, entry_in, entry_at, Content, known, unknown}
use Rattle.rules.specs.Decode.{Message, ReadRecord, got, wrong}
use Rattle.rules.specs.Encode.{WriteRecord, put, unfit}

-- A test that a value passes or fails with a refusal's number.
pub data Judged : Type 0 where
  passes : Judged
  fails : (number : ℕ) → Judged

abbrev pub read_if : Judged → (at : ℕ) → ReadRecord → ReadRecord
read_if passes at result = result
read_if (fails number) at result = wrong (fault number (Byte at))

abbrev pub write_if : Judged → WriteRecord → WriteRecord
write_if passes result = result
write_if (fails number) result = unfit

abbrev pub unless : (number : ℕ) → Bool → Judged
unless number test = if test then passes else fails number

-- ---- numbers of so many bytes

-- "Number: any pattern."
abbrev pub any_pattern : ℕ → Judged
any_pattern v = passes

-- 8
abbrev pub bool_pattern : ℕ → Judged
bool_pattern v = unless bool_not_zero_or_one (leb v 1)

-- W-206, 29: "value not among the entries" of a strict enum,
unfoldable pub among_entries : (entries : List ℕ) (first count value : ℕ) → Bool
among_entries entries first zero v = false
among_entries entries first (suc count) v = eqb (entry_in entries first) v || among_entries entries (suc first) count v

abbrev pub enum_pattern : TypeTable → (first count : ℕ) → ℕ → Judged
enum_pattern t first count v = unless strict_value_unknown (among_entries t.entries first count v)

-- "or with a bit outside the mask" of strict bits.
abbrev pub within_mask : (mask value : ℕ) → Bool
within_mask mask v = eqb (bit_and v mask) v

abbrev pub bits_pattern : TypeTable → (mask : ℕ) → ℕ → Judged
bits_pattern t mask v = unless strict_value_unknown (within_mask (entry_at t mask) v)

-- A union's ordinal: 0 is absent (10), another is known, or the union is flexible (17).
abbrev pub is_known : Content → Bool
is_known (known row) = true
is_known unknown = false

abbrev pub ordinal_pattern : (ℕ → Content) → (optional flexible : Bool) → ℕ → Judged
ordinal_pattern content optional flexible zero = unless required_absent optional
ordinal_pattern content optional flexible (suc v) = unless ordinal_unknown (if flexible then true else is_known (content (suc v)))

unfoldable pub read_number : Message → (width : ℕ) → (ℕ → Judged) → ℕ → ReadRecord
read_number m width judge at = read_if (judge (word m.bytes at width)) at (got (word m.bytes at width))

unfoldable pub write_number : (width : ℕ) → (ℕ → Judged) → ℕ → WriteRecord
write_number width judge v = if ltb v (256 ^ width) then write_if (judge v) (put (bytes_of width v)) else unfit

-- ---- presences

pub data Presence : Type 0 where
  absent present neither : Presence

-- 0 or all ones
unfoldable pub presence : (ones word : ℕ) → Presence
presence ones word = if eqb word 0 then absent else (if eqb word ones then present else neither)

-- 9, and 10 for one that is required. "Handle: word all ones is present, 0 absent." "Box: 8-byte presence."
abbrev pub presence_record : (optional : Bool) (at : ℕ) → Presence → ReadRecord
presence_record optional at absent = read_if (unless required_absent optional) at (got 0)
presence_record optional at present = got 1
presence_record optional at neither = wrong (fault presence_wrong (Byte at))

unfoldable pub read_presence : Message → (width ones : ℕ) (optional : Bool) → ℕ → ReadRecord
read_presence m width ones optional at = presence_record optional at (presence ones (word m.bytes at width))

unfoldable pub write_presence : (width ones : ℕ) (optional : Bool) → ℕ → WriteRecord
write_presence width ones optional zero = if optional then put (bytes_of width 0) else unfit
write_presence width ones optional (suc zero) = put (bytes_of width ones)
write_presence width ones optional (suc (suc v)) = unfit

-- ---- counts with presences

-- "Vector and string: 8-byte count, 8-byte presence (0 or all ones). Tests 9; absent: 10, 11; present: 12". The value is 0, or count
-- plus 1.
abbrev pub count_record : (optional : Bool) (largest at count : ℕ) → Presence → ReadRecord
count_record optional largest at count absent =
    read_if (unless required_absent optional) at (read_if (unless absent_not_zero (eqb count 0)) at (got 0))
count_record optional largest at count present = read_if (unless count_over_largest (leb count largest)) at (got (suc count))
count_record optional largest at count neither = wrong (fault presence_wrong (Byte at))

unfoldable pub read_count : Message → (optional : Bool) (largest : ℕ) → ℕ → ReadRecord
read_count m optional largest at =
    count_record optional largest at (word m.bytes at 8) (presence ones64 (word m.bytes (at + 8) 8))

abbrev pub count_bytes : (count presence : ℕ) → List ℕ
count_bytes count presence = bytes_of 8 count ++ bytes_of 8 presence

unfoldable pub write_count : (optional : Bool) (largest : ℕ) → ℕ → WriteRecord
write_count optional largest zero = if optional then put (count_bytes 0 0) else unfit
write_count optional largest (suc count) =
    if ltb count (256 ^ 8) then (if leb count largest then put (count_bytes count ones64) else unfit) else unfit

-- "Table: 8-byte count, 8-byte presence, always present. Tests 9, 10". The value is the count.
abbrev pub table_record : (at count : ℕ) → Presence → ReadRecord
table_record at count absent = wrong (fault required_absent (Byte at))
table_record at count present = got count
table_record at count neither = wrong (fault presence_wrong (Byte at))

unfoldable pub read_table : Message → ℕ → ReadRecord
read_table m at = table_record at (word m.bytes at 8) (presence ones64 (word m.bytes (at + 8) 8))

unfoldable pub write_table : ℕ → WriteRecord
write_table count = if ltb count (256 ^ 8) then put (count_bytes count ones64) else unfit
