-- Sizes and alignments: document 01's section "Sizes".
-- Assumes nothing.
use Rattle.std.specs.Prelude.{List, [], ◌∷◌, ℕ, ◌+◌, ◌-◌, ◌*◌, max}
use Rattle.rules.specs.declared.Layout.{Layout}
use Rattle.rules.specs.Bytes.{round_up}
use Rattle.rules.specs.TypeTable.{TypeTable, envelope_size, FidlType, bool, number, handle, array, vector, string, struct, box, table, union, strict_enum, strict_bits, none, type_of, member_rows, below}

abbrev pub layout : (size alignment : ℕ) → Layout
layout size alignment = record { size = size; alignment = alignment }

-- ---- structs
-- A struct's layout is made of those of its members' rows, `inner`.

-- A struct's: "alignment is the largest of its members'".
unfoldable pub largest_alignment : (inner : ℕ → Layout) → List ℕ → ℕ
largest_alignment inner [] = 1
largest_alignment inner (row ∷ rows) = max (inner row).alignment (largest_alignment inner rows)

-- A member and the fill after it.
pub data Field : Type 0 where
  field : (row fill : ℕ) → Field

-- What the end of a member is rounded up to: the next member's alignment; after the last one, the whole struct's.
abbrev pub next_alignment : (inner : ℕ → Layout) → (whole : ℕ) → List ℕ → ℕ
next_alignment inner whole [] = whole
next_alignment inner whole (row ∷ rows) = (inner row).alignment

-- "each member at the next multiple of its alignment": the members from an offset on.
unfoldable pub fields_from : (inner : ℕ → Layout) → (whole offset : ℕ) → List ℕ → List Field
unfolding round_up
fields_from inner whole offset [] = []
fields_from inner whole offset (row ∷ rows) =
    let end = offset + (inner row).size in
    let next = round_up end (next_alignment inner whole rows) in
    field row (next - end) ∷ fields_from inner whole next rows

unfoldable pub fields_of : (inner : ℕ → Layout) → List ℕ → List Field
unfolding fields_from largest_alignment
fields_of inner rows = fields_from inner (largest_alignment inner rows) 0 rows

unfoldable pub fields_size : (inner : ℕ → Layout) → List Field → ℕ
fields_size inner [] = 0
fields_size inner (field row fill ∷ fields) = (inner row).size + (fill + fields_size inner fields)

-- "An empty struct has size and alignment 1 and its byte is zero fill."
unfoldable pub struct_size : (inner : ℕ → Layout) → List Field → ℕ
unfolding fields_size
struct_size inner [] = 1
struct_size inner (f ∷ fields) = fields_size inner (f ∷ fields)

-- ---- any row

-- "Bool 1. Number a. Handle 4. Box 8. Vector, string, table and union 16" (a union is its ordinal and an envelope).
-- "Alignment is the size for the first three and 8 for the rest. Array: count times element size, element's alignment."
-- W-206: "Sizes and value numbers are as for kind 2".
unfoldable pub layout_as : TypeTable → (inner : ℕ → Layout) → FidlType → Layout
unfolding largest_alignment fields_of struct_size envelope_size member_rows
layout_as t inner bool = layout 1 1
layout_as t inner (number width) = layout width width
layout_as t inner (handle optional) = layout 4 4
layout_as t inner (array element count) = layout (count * (inner element).size) (inner element).alignment
layout_as t inner (vector element largest optional) = layout 16 8
layout_as t inner (string largest optional) = layout 16 8
layout_as t inner (struct first count) =
    layout (struct_size inner (fields_of inner (member_rows t first count))) (largest_alignment inner (member_rows t first count))
layout_as t inner (box element) = layout 8 8
layout_as t inner (table first count) = layout 16 8
layout_as t inner (union first count optional flexible) = layout (8 + envelope_size t.edition) 8
layout_as t inner (strict_enum width first count) = layout width width
layout_as t inner (strict_bits width mask) = layout width width
layout_as t inner none = layout 0 1

abbrev pub layout_step : TypeTable → (ℕ → Layout) → ℕ → Layout
layout_step t inner row = layout_as t inner (type_of t row)

-- "The inline size of a row follows from rows with smaller numbers only": the layouts of the rows below a bound,
unfoldable pub layout_below : TypeTable → (bound row : ℕ) → Layout
unfolding below layout_as type_of
layout_below t bound row = below (layout 0 1) (layout_step t) bound row

-- and of any row.
unfoldable pub layout_of : TypeTable → ℕ → Layout
unfolding layout_below layout_as type_of
layout_of t row = layout_step t (layout_below t row) row

abbrev pub size_of : TypeTable → ℕ → ℕ
size_of t row = (layout_of t row).size
