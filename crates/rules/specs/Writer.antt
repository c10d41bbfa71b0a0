-- The writer over the value list: the walk's twin, a line for each kind (document 01's "Object list and value list").
-- Assumes nothing.
use Rattle.std.specs.Prelude.{true, List, [], ◌∷◌, ℕ, zero, suc, ◌*◌, eqb}
use Rattle.rules.specs.declared.Layout.{Layout}
use Rattle.rules.specs.Refusals.{table_not_sound}
use Rattle.rules.specs.Bytes.{ones32, ones64}
use Rattle.rules.specs.TypeTable.{TypeTable, envelope_size, FidlType, bool, number, handle, array, vector, string, struct, box, table, union, strict_enum, strict_bits, none, type_of, member_rows, Content, content_of, below}
use Rattle.rules.specs.Sizes.{Field, field, fields_of, layout_below, size_of}
use Rattle.rules.specs.Text.{is_utf8}
use Rattle.rules.specs.Encode.{Encoder, nothing, refuse, sequence, elements, record_then, checked, Deeper, spent, deeper, one_deeper, fill, claim, take_handles, optional_envelope}
use Rattle.rules.specs.Records.{bool_pattern, enum_pattern, bits_pattern, ordinal_pattern, write_number, write_presence, write_count, write_table}
use Rattle.rules.specs.Envelope.{encode_word, encode_content}

-- "Struct and array: their parts in turn."
unfoldable pub fields : (inner : ℕ → Encoder) → List Field → Encoder
fields inner [] = nothing
fields inner (field row gap ∷ rest) = sequence (inner row) (sequence (fill gap) (fields inner rest))

unfoldable pub struct_fields : (inner : ℕ → Encoder) → List Field → Encoder
unfolding fields
struct_fields inner [] = fill 1
struct_fields inner (f ∷ rest) = fields inner (f ∷ rest)

module _ (t : TypeTable) where
  -- What a number leads to.

  -- "Handle: 1 or 0."
  abbrev pub after_handle : (value : ℕ) → Encoder
  after_handle zero = nothing
  after_handle (suc v) = take_handles 1

  -- "Vector, string: 0 absent, else count plus 1 and the elements or bytes."
  abbrev pub after_vector : Deeper → (element value : ℕ) → Encoder
  after_vector below element zero = nothing
  after_vector below element (suc count) = one_deeper below (λ rows b. claim (count * size_of t element) (elements (λ i. rows element) 0 count))

  abbrev pub after_string : Deeper → (value : ℕ) → Encoder
  after_string below zero = nothing
  after_string below (suc count) = one_deeper below (λ rows b. claim (count * 1) (checked is_utf8 (elements (λ i. encode_word 1) 0 count)))

  -- "Box: 0, or 1 and the struct."
  abbrev pub after_box : Deeper → (element value : ℕ) → Encoder
  after_box below element zero = nothing
  after_box below element (suc v) = one_deeper below (λ rows b. claim (size_of t element) (rows element))

  -- "Table: highest present ordinal M (0 if none), then for each ordinal up to M, 0, or 1 and its content, the last being 1."
  abbrev pub after_table : Deeper → (ℕ → Content) → (value : ℕ) → Encoder
  after_table below content count =
      let size = envelope_size t.edition in
      one_deeper below (λ rows b.
      claim (count * size) (elements (λ ordinal. optional_envelope size (eqb ordinal count) (encode_content t.edition t b (content ordinal))) 1 count))

  -- "Union: 0, or ordinal and content."
  abbrev pub after_union : Deeper → (ℕ → Content) → (value : ℕ) → Encoder
  after_union below content zero = fill (envelope_size t.edition)
  after_union below content (suc v) = encode_content t.edition t below (content (suc v))

  unfoldable pub encode_as : Deeper → (layouts : ℕ → Layout) (inner : ℕ → Encoder) → FidlType → Encoder
  encode_as deep layouts inner bool = record_then (write_number 1 bool_pattern) (λ v. nothing)
  encode_as deep layouts inner (number width) = encode_word width
  encode_as deep layouts inner (handle optional) = record_then (write_presence 4 ones32 optional) after_handle
  encode_as deep layouts inner (array element count) = elements (λ i. inner element) 0 count
  encode_as deep layouts inner (vector element largest optional) = record_then (write_count optional largest) (after_vector deep element)
  encode_as deep layouts inner (string largest optional) = record_then (write_count optional largest) (after_string deep)
  encode_as deep layouts inner (struct first count) = struct_fields inner (fields_of layouts (member_rows t first count))
  encode_as deep layouts inner (box element) = record_then (write_presence 8 ones64 true) (after_box deep element)
  encode_as deep layouts inner (table first count) = record_then write_table (after_table deep (content_of t first count))
  encode_as deep layouts inner (union first count optional flexible) =
      record_then (write_number 8 (ordinal_pattern (content_of t first count) optional flexible)) (after_union deep (content_of t first count))
  encode_as deep layouts inner (strict_enum width first count) = record_then (write_number width (enum_pattern t first count)) (λ v. nothing)
  encode_as deep layouts inner (strict_bits width mask) = record_then (write_number width (bits_pattern t mask)) (λ v. nothing)
  encode_as deep layouts inner none = refuse table_not_sound

  abbrev pub encode_step : Deeper → (ℕ → Encoder) → ℕ → Encoder
  encode_step deep inner row = encode_as deep (layout_below t row) inner (type_of t row)

  unfoldable pub encode_below : Deeper → (bound row : ℕ) → Encoder
  unfolding below
  encode_below deep bound row = below (refuse table_not_sound) (encode_step deep) bound row

  unfoldable pub encode_row : Deeper → ℕ → Encoder
  encode_row deep row = encode_step deep (encode_below deep row) row

  unfoldable pub levels : ℕ → Deeper
  levels zero = spent
  levels (suc depth) = deeper (encode_row (levels depth)) (levels depth)
