-- Rows and fields that are all below a row, as a struct's members are: they are laid out as any.
-- Assumes nothing.
use mathlib.Core.List.{List, [], ◌∷◌}
use mathlib.Core.Path.{◌≡◌, refl, ap}
use Prim.Native.Nat.{ℕ, ◌+◌, ◌-◌, ◌<◌}
use Rattle.rules.specs.declared.Layout.{Layout}
use Rattle.rules.specs.Bytes.{round_up}
use Rattle.rules.specs.TypeTable.{TypeTable}
use Rattle.rules.specs.Sizes.{Field, field, largest_alignment, next_alignment, fields_from, fields_of, layout_below, layout_of, size_of}
use Rattle.layout.proofs.Rows.{layout_below_lem}

-- Rows that are all below a bound.
pub data AllBelow (bound : ℕ) : List ℕ → Type 0 where
  none : AllBelow bound []
  more : {row : ℕ} {rows : List ℕ} → row < bound → AllBelow bound rows → AllBelow bound (row ∷ rows)

pub largest_same : (t : TypeTable) (bound : ℕ) {rows : List ℕ} → AllBelow bound rows → largest_alignment (layout_below t bound) rows ≡ largest_alignment (layout_of t) rows
unfolding largest_alignment
largest_same t bound none = refl
largest_same t bound (more {row} h a) = rw (layout_below_lem t bound row h, largest_same t bound a)

next_same : (t : TypeTable) (bound whole : ℕ) {rows : List ℕ} → AllBelow bound rows → next_alignment (layout_below t bound) whole rows ≡ next_alignment (layout_of t) whole rows
next_same t bound whole none = refl
next_same t bound whole (more {row} h a) = ap (λ (l : Layout). l.alignment) (layout_below_lem t bound row h)

from_same : (t : TypeTable) (bound whole offset : ℕ) {rows : List ℕ} → AllBelow bound rows → fields_from (layout_below t bound) whole offset rows ≡ fields_from (layout_of t) whole offset rows
unfolding fields_from
from_same t bound whole offset none = refl
from_same t bound whole offset (more {row} {rows} h a) =
    rw (layout_below_lem t bound row h, next_same t bound whole a)
    (ap (λ (fs : List Field). field row (round_up (offset + size_of t row) (next_alignment (layout_of t) whole rows) - (offset + size_of t row)) ∷ fs)
    (from_same t bound whole (round_up (offset + size_of t row) (next_alignment (layout_of t) whole rows)) a))

pub fields_same : (t : TypeTable) (bound : ℕ) {rows : List ℕ} → AllBelow bound rows → fields_of (layout_below t bound) rows ≡ fields_of (layout_of t) rows
unfolding fields_of
fields_same t bound {rows} a = rw (largest_same t bound a) (from_same t bound (largest_alignment (layout_of t) rows) 0 a)

-- Fields whose rows are all below a bound.
pub data FieldsBelow (bound : ℕ) : List Field → Type 0 where
  none : FieldsBelow bound []
  more : {row gap : ℕ} {fields : List Field} → row < bound → FieldsBelow bound fields → FieldsBelow bound (field row gap ∷ fields)

from_below : (inner : ℕ → Layout) (bound whole offset : ℕ) {rows : List ℕ} → AllBelow bound rows → FieldsBelow bound (fields_from inner whole offset rows)
unfolding fields_from
from_below inner bound whole offset none = none
from_below inner bound whole offset (more {row} {rows} h a) =
    more h (from_below inner bound whole (round_up (offset + (inner row).size) (next_alignment inner whole rows)) a)

pub fields_below : (inner : ℕ → Layout) (bound : ℕ) {rows : List ℕ} → AllBelow bound rows → FieldsBelow bound (fields_of inner rows)
unfolding fields_of
fields_below inner bound {rows} a = from_below inner bound (largest_alignment inner rows) 0 a
