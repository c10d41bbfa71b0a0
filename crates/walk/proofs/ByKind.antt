-- The walk of a row, kind by kind, where the rows that it is made of are walked as rows themselves.
-- Assumes nothing.
use mathlib.Core.Bool.{true, ◌||◌}
use mathlib.Core.List.{List}
use mathlib.Core.Path.{◌≡◌, refl, sym, ap, ap₂, fun_ext, ◌∙◌}
use Prim.Native.Nat.{ℕ, ◌/◌, ◌%◌, ◌<◌}
use lib.Dec.{eqb}
use Rattle.rules.specs.declared.Layout.{Layout}
use Rattle.rules.specs.Bytes.{ones64}
use Rattle.rules.specs.TypeTable.{kind_at, a_at, b_at, c_at, type_of, member_rows, content_of}
use Rattle.rules.specs.Sizes.{Field, fields_of, layout_below, layout_of, size_of}
use Rattle.rules.specs.Decode as D
use Rattle.rules.specs.Decode.{Message, Decoder}
use Rattle.rules.specs.Records.{Judged, read_count, read_presence, read_table, read_number, enum_pattern, bits_pattern, ordinal_pattern}
use Rattle.rules.specs.Envelope.{decode_word}
use Rattle.rules.specs.Walk as W
use Rattle.layout.proofs.Rows.{below_step, layout_below_lem}
use Rattle.layout.proofs.Below.{AllBelow, FieldsBelow, fields_same, fields_below}
use Rattle.strict.specs.Strict.{strict_pattern}
use Rattle.strict.proofs.Rows.{enum_or_bits, enum_pattern_lem, bits_pattern_lem}
use Rattle.walk_leaves.specs.Parts.{bool_at, handle_at, strict_at}

-- Rows below a row are walked as any.
pub decode_below_lem : (m : Message) (deep : D.Deeper) (bound row : ℕ) → row < bound → W.decode_below m deep bound row ≡ W.decode_row m deep row
unfolding W.decode_below W.decode_row
decode_below_lem m deep bound row h = below_step (W.no_row m) (W.decode_step m deep) bound row h

-- ---- members of a struct

walk_same : (m : Message) (deep : D.Deeper) (bound : ℕ) {fs : List Field} → FieldsBelow bound fs
    → W.fields m (layout_below m.table bound) (W.decode_below m deep bound) fs ≡ W.fields m (layout_of m.table) (W.decode_row m deep) fs
unfolding W.fields
walk_same m deep bound FieldsBelow.none = refl
walk_same m deep bound (FieldsBelow.more {row} h a) = rw (layout_below_lem m.table bound row h, decode_below_lem m deep bound row h, walk_same m deep bound a)

struct_same : (m : Message) (deep : D.Deeper) (bound : ℕ) {fs : List Field} → FieldsBelow bound fs
    → W.struct_fields m (layout_below m.table bound) (W.decode_below m deep bound) fs ≡ W.struct_fields m (layout_of m.table) (W.decode_row m deep) fs
unfolding W.struct_fields
struct_same m deep bound FieldsBelow.none = refl
struct_same m deep bound (FieldsBelow.more h a) = walk_same m deep bound (FieldsBelow.more h a)

-- ---- each kind

module _ (m : Message) (deep : D.Deeper) (row : ℕ) where
  pub decode_bool : kind_at m.table row ≡ 1 → W.decode_row m deep row ≡ bool_at m
  unfolding W.decode_row W.decode_as type_of bool_at
  decode_bool e = rw e

  pub decode_number : kind_at m.table row ≡ 2 → W.decode_row m deep row ≡ decode_word m (a_at m.table row)
  unfolding W.decode_row W.decode_as type_of
  decode_number e = rw e

  pub decode_handle : kind_at m.table row ≡ 3 → W.decode_row m deep row ≡ handle_at (eqb (a_at m.table row) 1) m
  unfolding W.decode_row W.decode_as type_of handle_at
  decode_handle e = rw e

  -- a number under a test, and the test is the strict one of the row
  abbrev under_test : (ℕ → Judged) → Decoder
  under_test judge = D.record_then (a_at m.table row) (read_number m (a_at m.table row) judge) (λ at v. D.nothing)

  strict_as_lem : {judge : ℕ → Judged} → ((v : ℕ) → strict_pattern m.table.rows m.table.entries row v ≡ judge v)
      → under_test judge ≡ strict_at m.table.rows m.table.entries row m
  unfolding strict_at
  strict_as_lem same = ap under_test (sym (fun_ext same))

  enum_as : kind_at m.table row ≡ 11 → W.decode_row m deep row ≡ under_test (enum_pattern m.table (b_at m.table row) (c_at m.table row))
  unfolding W.decode_row W.decode_as type_of
  enum_as e = rw e

  bits_as : kind_at m.table row ≡ 12 → W.decode_row m deep row ≡ under_test (bits_pattern m.table (b_at m.table row))
  unfolding W.decode_row W.decode_as type_of
  bits_as e = rw e

  pub decode_strict : {k : ℕ} → k ≡ kind_at m.table row → (eqb k 11 || eqb k 12) ≡ true → W.decode_row m deep row ≡ strict_at m.table.rows m.table.entries row m
  decode_strict {k} e q =
      enum_or_bits k (λ z. enum_as (sym e ∙ z) ∙ strict_as_lem (enum_pattern_lem m.table row (sym e ∙ z)))
      (λ z. bits_as (sym e ∙ z) ∙ strict_as_lem (bits_pattern_lem m.table row (sym e ∙ z))) q

  array_as : kind_at m.table row ≡ 4
      → W.decode_row m deep row ≡ D.elements (layout_below m.table row (a_at m.table row)).size (λ i. W.decode_below m deep row (a_at m.table row)) 0 (b_at m.table row)
  unfolding W.decode_row W.decode_as type_of
  array_as e = rw e

  pub decode_array : kind_at m.table row ≡ 4 → a_at m.table row < row
      → W.decode_row m deep row ≡ D.elements (size_of m.table (a_at m.table row)) (λ i. W.decode_row m deep (a_at m.table row)) 0 (b_at m.table row)
  decode_array e h =
      array_as e ∙ ap₂ (λ (l : Layout) (f : Decoder). D.elements l.size (λ i. f) 0 (b_at m.table row)) (layout_below_lem m.table row (a_at m.table row) h) (decode_below_lem m deep row (a_at m.table row) h)

  pub decode_vector : kind_at m.table row ≡ 5
      → W.decode_row m deep row ≡ D.record_then 16 (read_count m (eqb (c_at m.table row) 1) (b_at m.table row)) (W.after_vector m deep row (a_at m.table row))
  unfolding W.decode_row W.decode_as type_of
  decode_vector e = rw e

  pub decode_string : kind_at m.table row ≡ 6
      → W.decode_row m deep row ≡ D.record_then 16 (read_count m (eqb (c_at m.table row) 1) (b_at m.table row)) (W.after_string m deep row)
  unfolding W.decode_row W.decode_as type_of
  decode_string e = rw e

  struct_as : kind_at m.table row ≡ 7
      → W.decode_row m deep row ≡ W.struct_fields m (layout_below m.table row) (W.decode_below m deep row) (fields_of (layout_below m.table row) (member_rows m.table (a_at m.table row) (b_at m.table row)))
  unfolding W.decode_row W.decode_as type_of
  struct_as e = rw e

  pub decode_struct : kind_at m.table row ≡ 7 → AllBelow row (member_rows m.table (a_at m.table row) (b_at m.table row))
      → W.decode_row m deep row ≡ W.struct_fields m (layout_of m.table) (W.decode_row m deep) (fields_of (layout_of m.table) (member_rows m.table (a_at m.table row) (b_at m.table row)))
  decode_struct e a =
      struct_as e ∙ ap (W.struct_fields m (layout_below m.table row) (W.decode_below m deep row)) (fields_same m.table row a)
      ∙ struct_same m deep row (fields_below (layout_of m.table) row a)

  pub decode_box : kind_at m.table row ≡ 8 → W.decode_row m deep row ≡ D.record_then 8 (read_presence m 8 ones64 true) (W.after_box m deep (a_at m.table row))
  unfolding W.decode_row W.decode_as type_of
  decode_box e = rw e

  pub decode_table : kind_at m.table row ≡ 9
      → W.decode_row m deep row ≡ D.record_then 16 (read_table m) (W.after_table m deep row (content_of m.table (a_at m.table row) (b_at m.table row)))
  unfolding W.decode_row W.decode_as type_of
  decode_table e = rw e

  pub decode_union : kind_at m.table row ≡ 10
      → W.decode_row m deep row
      ≡ D.record_then 8 (read_number m 8 (ordinal_pattern (content_of m.table (a_at m.table row) (b_at m.table row)) (eqb (c_at m.table row % 2) 1) (eqb (c_at m.table row / 2) 1)))
      (W.after_union m deep row (content_of m.table (a_at m.table row) (b_at m.table row)))
  unfolding W.decode_row W.decode_as type_of
  decode_union e = rw e
