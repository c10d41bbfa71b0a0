-- The rows of a sound type table, as they are written: what a bool, a number, a struct and an array are.
-- Assumes nothing.
use mathlib.Core.Path.{◌≡◌, refl, ◌∙◌}
use Prim.Native.Nat.{ℕ, zero, suc, ◌<◌}
use native.Mathlib.Omega.{arith}
use borrow.Author.Tests.{ne_eqb}
use Rattle.rules.specs.declared.Layout.{Layout}
use Rattle.rules.specs.Refusals.{accepted}
use Rattle.rules.specs.TypeTable.{TypeTable, row_count, kind_at, a_at, b_at, member_rows}
use Rattle.rules.specs.Sizes.{layout_of, fields_from, fields_of}
use Rattle.rules.specs.Sound.{soundness}
use Rattle.rules.specs.Encode as E
use Rattle.rules.specs.Writer as R
use Rattle.layout.proofs.ByKind.{array_below}
use Rattle.nesting.proofs.Items.{items_of}
use Rattle.plans.proofs.Rows.{RowsOf}
use Rattle.nesting.proofs.Starts.{members_below}
use Rattle.nesting.proofs.Work.{run}
use Rattle.write_leaves.specs.Planning.{width_as}
use Rattle.write_leaves.proofs.Writing.{encoders, run_fields}
use Rattle.write_walk.specs.Walking.{write_row}
use Rattle.write_walk.proofs.ByKind.{encode_bool, encode_number, encode_struct, encode_array}

some_fields : (layouts : ℕ → Layout) (inner : ℕ → E.Encoder) (t : TypeTable) (first count : ℕ) → 0 < count
    → R.struct_fields inner (fields_of layouts (member_rows t first count)) ≡ R.fields inner (fields_of layouts (member_rows t first count))
unfolding R.struct_fields fields_of fields_from member_rows
some_fields layouts inner t first zero h = absurd (omega arith)
some_fields layouts inner t first (suc count) h = refl

module _ (t : TypeTable) (depth : ℕ) (sound : soundness t ≡ accepted tt) where
  abbrev deep : E.Deeper
  deep = R.levels t depth

  number : (row : ℕ) → kind_at t row ≡ 2 → 0 < a_at t row → write_row t depth row ≡ width_as (a_at t row)
  number row e h = encode_number t deep row e ∙ rw (ne_eqb (a_at t row) 0 (λ z. omega arith))

  struct : (row : ℕ) → row < row_count t → kind_at t row ≡ 7 → 0 < b_at t row
      → write_row t depth row ≡ run encoders (layout_of t) (write_row t depth) (items_of (fields_of (layout_of t) (member_rows t (a_at t row) (b_at t row))))
  struct row used kind some =
      encode_struct t deep row kind (members_below t row sound used kind) ∙ some_fields (layout_of t) (write_row t depth) t (a_at t row) (b_at t row) some ∙ run_fields (layout_of t) (write_row t depth) _

  pub rows_written : RowsOf encoders t (write_row t depth) width_as
  rows_written = record {
    sound = sound;
    bool = encode_bool t deep;
    number = number;
    struct = struct;
    array = λ row used kind. encode_array t deep row kind (array_below t row sound used kind);
  }
