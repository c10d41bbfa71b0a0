-- The walk: document 01's section "The walk", a line for each kind. Writer.antt has its twin.
-- Assumes nothing.
use Rattle.std.specs.Prelude.{true, ℕ, zero, suc, ◌+◌, ◌*◌, eqb}
use mathlib.Core.List.{List, [], ◌∷◌}
use Rattle.rules.specs.declared.Place.TheVariants.{Row, Byte}
use Rattle.rules.specs.declared.Fault.{Fault}
use Rattle.rules.specs.declared.Layout.{Layout}
use Rattle.rules.specs.Refusals.{fault, table_not_sound, text_not_utf8}
use Rattle.rules.specs.Bytes.{ones32, ones64}
use Rattle.rules.specs.TypeTable.{envelope_size, FidlType, bool, number, handle, array, vector, string, struct, box, table, union, strict_enum, strict_bits, none, type_of, member_rows, Content, content_of, below}
use Rattle.rules.specs.Sizes.{Field, field, fields_of, layout_below, size_of}
use Rattle.rules.specs.Text.{is_utf8, broken_at}
use Rattle.rules.specs.Trace.{present_handle, vector_object, boxed_object, envelopes_object}
use Rattle.rules.specs.Decode.{Message, Decoder, nothing, refuse, sequence, elements, record_then, checked, Deeper, spent, deeper, one_deeper, fill, claim, take_handles, optional_envelope, last_present, zero_envelope, present_envelope}
use Rattle.rules.specs.Records.{bool_pattern, enum_pattern, bits_pattern, ordinal_pattern, read_number, read_presence, read_count, read_table}
use Rattle.rules.specs.Envelope.{decode_word, decode_content}

-- 13. W-201: its place "becomes the offset of the first byte of the first sequence that RFC 3629 doesn't allow"; the text starts
-- at `start`.
abbrev pub bad_text : (start : ℕ) (text : List ℕ) → Fault
bad_text start text = fault text_not_utf8 (Byte (start + broken_at text))

module _ (m : Message) where
  -- "Struct: each member, then the fill after it." `inner` walks and lays out the rows of smaller numbers.
  unfoldable pub fields : (layouts : ℕ → Layout) (inner : ℕ → Decoder) → List Field → Decoder
  fields layouts inner [] = nothing
  fields layouts inner (field row gap ∷ rest) =
      sequence (layouts row).size (inner row) (sequence gap (fill m gap) (fields layouts inner rest))

  unfoldable pub struct_fields : (layouts : ℕ → Layout) (inner : ℕ → Decoder) → List Field → Decoder
  unfolding fields
  struct_fields layouts inner [] = fill m 1
  struct_fields layouts inner (f ∷ rest) = fields layouts inner (f ∷ rest)

  -- What a record's value leads to, given the record's place.

  abbrev pub after_handle : (at value : ℕ) → Decoder
  after_handle at zero = nothing
  after_handle at (suc v) = take_handles m at (present_handle at)

  -- "present: 12, 5, claim, then elements": from 5 on.
  abbrev pub after_vector : Deeper → (row element at value : ℕ) → Decoder
  after_vector below row element at zero = nothing
  after_vector below row element at (suc count) =
      one_deeper below at (λ rows b.
      claim m vector_object row (count * size_of m.table element) (elements (size_of m.table element) (λ i. rows element) 0 count))

  -- "or 13 for a string"
  abbrev pub after_string : Deeper → (row at value : ℕ) → Decoder
  after_string below row at zero = nothing
  after_string below row at (suc count) =
      one_deeper below at (λ rows b.
      claim m vector_object row (count * 1) (checked is_utf8 bad_text (elements 1 (λ i. decode_word m 1) 0 count)))

  -- "Box: 8-byte presence. Tests 9, 5, claim": from 5 on.
  abbrev pub after_box : Deeper → (element at value : ℕ) → Decoder
  after_box below element at zero = nothing
  after_box below element at (suc v) =
      one_deeper below at (λ rows b. claim m boxed_object element (size_of m.table element) (rows element))

  -- "Tests 9, 10, 5, claim of count envelopes, 19, then envelopes 1 to count": from 5 on.
  abbrev pub after_table : Deeper → (row : ℕ) → (ℕ → Content) → (at value : ℕ) → Decoder
  after_table below row content at count =
      let size = envelope_size m.table.edition in
      one_deeper below at (λ rows b.
      claim m envelopes_object row (count * size)
      (last_present m size count
      (elements size (λ ordinal. optional_envelope m size (eqb ordinal count) (decode_content m.table.edition m b row (content ordinal))) 1 count)))

  -- "Ordinal 0: 10 if required, 11 if the envelope isn't all zero. Else 17, 18, envelope": after 10 and 17.
  abbrev pub after_union : Deeper → (row : ℕ) → (ℕ → Content) → (at value : ℕ) → Decoder
  after_union below row content at zero = zero_envelope m (envelope_size m.table.edition) at
  after_union below row content at (suc v) =
      present_envelope m (envelope_size m.table.edition) (decode_content m.table.edition m below row (content (suc v)))

  -- A value of a row by its kind. A row that is no type has none; the table is then not sound.
  unfoldable pub decode_as : Deeper → (layouts : ℕ → Layout) (inner : ℕ → Decoder) → (row : ℕ) → FidlType → Decoder
  decode_as deep layouts inner row bool = record_then 1 (read_number m 1 bool_pattern) (λ at v. nothing)
  decode_as deep layouts inner row (number width) = decode_word m width
  decode_as deep layouts inner row (handle optional) = record_then 4 (read_presence m 4 ones32 optional) after_handle
  decode_as deep layouts inner row (array element count) = elements (layouts element).size (λ i. inner element) 0 count
  decode_as deep layouts inner row (vector element largest optional) = record_then 16 (read_count m optional largest) (after_vector deep row element)
  decode_as deep layouts inner row (string largest optional) = record_then 16 (read_count m optional largest) (after_string deep row)
  decode_as deep layouts inner row (struct first count) = struct_fields layouts inner (fields_of layouts (member_rows m.table first count))
  decode_as deep layouts inner row (box element) = record_then 8 (read_presence m 8 ones64 true) (after_box deep element)
  decode_as deep layouts inner row (table first count) = record_then 16 (read_table m) (after_table deep row (content_of m.table first count))
  decode_as deep layouts inner row (union first count optional flexible) =
      record_then 8 (read_number m 8 (ordinal_pattern (content_of m.table first count) optional flexible)) (after_union deep row (content_of m.table first count))
  decode_as deep layouts inner row (strict_enum width first count) = record_then width (read_number m width (enum_pattern m.table first count)) (λ at v. nothing)
  decode_as deep layouts inner row (strict_bits width mask) = record_then width (read_number m width (bits_pattern m.table mask)) (λ at v. nothing)
  decode_as deep layouts inner row none = refuse (fault table_not_sound (Row row))

  abbrev pub no_row : Decoder
  no_row = refuse (fault table_not_sound (Row 256))

  abbrev pub decode_step : Deeper → (ℕ → Decoder) → ℕ → Decoder
  decode_step deep inner row = decode_as deep (layout_below m.table row) inner row (type_of m.table row)

  -- A value of any row, with so much lying deeper.
  unfoldable pub decode_below : Deeper → (bound row : ℕ) → Decoder
  unfolding below
  decode_below deep bound row = below no_row (decode_step deep) bound row

  unfoldable pub decode_row : Deeper → ℕ → Decoder
  decode_row deep row = decode_step deep (decode_below deep row) row

  -- "until the depth of 32 is spent": so many levels.
  unfoldable pub levels : ℕ → Deeper
  levels zero = spent
  levels (suc depth) = deeper (decode_row (levels depth)) (levels depth)
