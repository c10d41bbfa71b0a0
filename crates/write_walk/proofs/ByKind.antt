-- The writer of a row, kind by kind, where the rows that it is made of are written as rows themselves.
-- Assumes nothing.
use mathlib.Core.Bool.{true, ◌||◌}
use mathlib.Core.List.{List}
use mathlib.Core.Path.{◌≡◌, refl, sym, ap, fun_ext, ◌∙◌}
use Prim.Native.Nat.{ℕ, ◌/◌, ◌%◌, ◌<◌}
use lib.Dec.{eqb}
use Rattle.rules.specs.Bytes.{ones64}
use Rattle.rules.specs.Refusals.{table_not_sound}
use Rattle.rules.specs.TypeTable.{TypeTable, kind_at, a_at, b_at, c_at, type_of, member_rows, content_of}
use Rattle.rules.specs.Sizes.{Field, fields_from, fields_of, layout_below, layout_of}
use Rattle.rules.specs.Encode as E
use Rattle.rules.specs.Encode.{Encoder}
use Rattle.rules.specs.Records.{Judged, write_count, write_presence, write_table, write_number, enum_pattern, bits_pattern, ordinal_pattern}
use Rattle.rules.specs.Envelope.{encode_word}
use Rattle.rules.specs.Writer as R
use Rattle.layout.proofs.Rows.{below_step}
use Rattle.layout.proofs.Below.{AllBelow, FieldsBelow, fields_same, fields_below}
use Rattle.strict.specs.Strict.{strict_pattern}
use Rattle.strict.proofs.Rows.{enum_or_bits, enum_pattern_lem, bits_pattern_lem}
use Rattle.write_leaves.specs.InLine.{bool_as, handle_as, strict_as}

module _ (t : TypeTable) (deep : E.Deeper) where
  -- Rows below a row are written as any.
  encode_below_lem : (bound row : ℕ) → row < bound → R.encode_below t deep bound row ≡ R.encode_row t deep row
  unfolding R.encode_below R.encode_row
  encode_below_lem bound row h = below_step (E.refuse table_not_sound) (R.encode_step t deep) bound row h

  -- ---- members of a struct

  fields_as : (bound : ℕ) {fs : List Field} → FieldsBelow bound fs → R.fields (R.encode_below t deep bound) fs ≡ R.fields (R.encode_row t deep) fs
  unfolding R.fields
  fields_as bound FieldsBelow.none = refl
  fields_as bound (FieldsBelow.more {row} h a) = rw (encode_below_lem bound row h, fields_as bound a)

  members_as : (bound : ℕ) {fs : List Field} → FieldsBelow bound fs → R.struct_fields (R.encode_below t deep bound) fs ≡ R.struct_fields (R.encode_row t deep) fs
  unfolding R.struct_fields
  members_as bound FieldsBelow.none = refl
  members_as bound (FieldsBelow.more h a) = fields_as bound (FieldsBelow.more h a)

  -- ---- each kind

  module _ (row : ℕ) where
    pub encode_bool : kind_at t row ≡ 1 → R.encode_row t deep row ≡ bool_as
    unfolding R.encode_row R.encode_as type_of bool_as
    encode_bool e = rw e

    pub encode_number : kind_at t row ≡ 2 → R.encode_row t deep row ≡ encode_word (a_at t row)
    unfolding R.encode_row R.encode_as type_of
    encode_number e = rw e

    pub encode_handle : kind_at t row ≡ 3 → R.encode_row t deep row ≡ handle_as t (eqb (a_at t row) 1)
    unfolding R.encode_row R.encode_as type_of handle_as
    encode_handle e = rw e

    -- a number under a test, and the test is the strict one of the row
    abbrev under_test : (ℕ → Judged) → Encoder
    under_test judge = E.record_then (write_number (a_at t row) judge) (λ v. E.nothing)

    strict_as_lem : {judge : ℕ → Judged} → ((v : ℕ) → strict_pattern t.rows t.entries row v ≡ judge v) → under_test judge ≡ strict_as t.rows t.entries row
    unfolding strict_as
    strict_as_lem same = ap under_test (sym (fun_ext same))

    enum_as : kind_at t row ≡ 11 → R.encode_row t deep row ≡ under_test (enum_pattern t (b_at t row) (c_at t row))
    unfolding R.encode_row R.encode_as type_of
    enum_as e = rw e

    bits_as : kind_at t row ≡ 12 → R.encode_row t deep row ≡ under_test (bits_pattern t (b_at t row))
    unfolding R.encode_row R.encode_as type_of
    bits_as e = rw e

    pub encode_strict : {k : ℕ} → k ≡ kind_at t row → (eqb k 11 || eqb k 12) ≡ true → R.encode_row t deep row ≡ strict_as t.rows t.entries row
    encode_strict {k} e q =
        enum_or_bits k (λ z. enum_as (sym e ∙ z) ∙ strict_as_lem (enum_pattern_lem t row (sym e ∙ z)))
        (λ z. bits_as (sym e ∙ z) ∙ strict_as_lem (bits_pattern_lem t row (sym e ∙ z))) q

    array_as : kind_at t row ≡ 4 → R.encode_row t deep row ≡ E.elements (λ i. R.encode_below t deep row (a_at t row)) 0 (b_at t row)
    unfolding R.encode_row R.encode_as type_of
    array_as e = rw e

    pub encode_array : kind_at t row ≡ 4 → a_at t row < row → R.encode_row t deep row ≡ E.elements (λ i. R.encode_row t deep (a_at t row)) 0 (b_at t row)
    encode_array e h = array_as e ∙ ap (λ (f : Encoder). E.elements (λ i. f) 0 (b_at t row)) (encode_below_lem row (a_at t row) h)

    pub encode_vector : kind_at t row ≡ 5 → R.encode_row t deep row ≡ E.record_then (write_count (eqb (c_at t row) 1) (b_at t row)) (R.after_vector t deep (a_at t row))
    unfolding R.encode_row R.encode_as type_of
    encode_vector e = rw e

    pub encode_string : kind_at t row ≡ 6 → R.encode_row t deep row ≡ E.record_then (write_count (eqb (c_at t row) 1) (b_at t row)) (R.after_string t deep)
    unfolding R.encode_row R.encode_as type_of
    encode_string e = rw e

    struct_as : kind_at t row ≡ 7 → R.encode_row t deep row ≡ R.struct_fields (R.encode_below t deep row) (fields_of (layout_below t row) (member_rows t (a_at t row) (b_at t row)))
    unfolding R.encode_row R.encode_as type_of
    struct_as e = rw e

    pub encode_struct : kind_at t row ≡ 7 → AllBelow row (member_rows t (a_at t row) (b_at t row))
        → R.encode_row t deep row ≡ R.struct_fields (R.encode_row t deep) (fields_of (layout_of t) (member_rows t (a_at t row) (b_at t row)))
    encode_struct e a =
        struct_as e ∙ ap (R.struct_fields (R.encode_below t deep row)) (fields_same t row a) ∙ members_as row (fields_below (layout_of t) row a)

    -- an empty one: its byte is fill
    pub encode_empty : kind_at t row ≡ 7 → b_at t row ≡ 0 → R.encode_row t deep row ≡ E.fill 1
    unfolding R.struct_fields fields_of fields_from member_rows
    encode_empty e z = encode_struct e (rw z AllBelow.none) ∙ rw z

    pub encode_box : kind_at t row ≡ 8 → R.encode_row t deep row ≡ E.record_then (write_presence 8 ones64 true) (R.after_box t deep (a_at t row))
    unfolding R.encode_row R.encode_as type_of
    encode_box e = rw e

    pub encode_table : kind_at t row ≡ 9 → R.encode_row t deep row ≡ E.record_then write_table (R.after_table t deep (content_of t (a_at t row) (b_at t row)))
    unfolding R.encode_row R.encode_as type_of
    encode_table e = rw e

    pub encode_union : kind_at t row ≡ 10
        → R.encode_row t deep row
        ≡ E.record_then (write_number 8 (ordinal_pattern (content_of t (a_at t row) (b_at t row)) (eqb (c_at t row % 2) 1) (eqb (c_at t row / 2) 1))) (R.after_union t deep (content_of t (a_at t row) (b_at t row)))
    unfolding R.encode_row R.encode_as type_of
    encode_union e = rw e
