-- The rows of a sound type table, as they are walked: what a bool, a number, a struct and an array are.
-- Assumes nothing.
use mathlib.Core.List.{List}
use mathlib.Core.Path.{◌≡◌, refl, ◌∙◌}
use Prim.Native.Nat.{ℕ, zero, suc, ◌<◌}
use native.Mathlib.Omega.{arith}
use borrow.Author.Tests.{ne_eqb}
use Rattle.rules.specs.declared.Layout.{Layout}
use Rattle.rules.specs.Refusals.{accepted}
use Rattle.rules.specs.TypeTable.{TypeTable, row_count, kind_at, a_at, b_at, member_rows}
use Rattle.rules.specs.Sizes.{layout_of, fields_from, fields_of}
use Rattle.rules.specs.Sound.{soundness}
use Rattle.rules.specs.Decode as D
use Rattle.rules.specs.Decode.{Message}
use Rattle.rules.specs.Walk as W
use Rattle.layout.proofs.ByKind.{array_below}
use Rattle.nesting.proofs.Items.{items_of}
use Rattle.plans.proofs.Rows.{RowsOf}
use Rattle.nesting.proofs.Starts.{members_below}
use Rattle.nesting.proofs.Work.{run}
use Rattle.walk_leaves.specs.Doing.{message}
use Rattle.walk_leaves.specs.Planning.{width_at}
use Rattle.walk_leaves.proofs.Reading.{decoders, run_fields}
use Rattle.walk.specs.Walking.{here, walk_row}
use Rattle.walk.proofs.ByKind.{decode_bool, decode_number, decode_struct, decode_array}

some_fields : (m : Message) (layouts : ℕ → Layout) (inner : ℕ → D.Decoder) (t : TypeTable) (first count : ℕ) → 0 < count
    → W.struct_fields m layouts inner (fields_of layouts (member_rows t first count)) ≡ W.fields m layouts inner (fields_of layouts (member_rows t first count))
unfolding W.struct_fields fields_of fields_from member_rows
some_fields m layouts inner t first zero h = absurd (omega arith)
some_fields m layouts inner t first (suc count) h = refl

module _ (t : TypeTable) (bytes : List ℕ) (handles depth : ℕ) (sound : soundness t ≡ accepted tt) where
  abbrev m : Message
  m = here t bytes handles depth

  abbrev deep : D.Deeper
  deep = W.levels m depth

  number : (row : ℕ) → kind_at t row ≡ 2 → 0 < a_at t row → walk_row t bytes handles depth row ≡ width_at m (a_at t row)
  number row e h = decode_number m deep row e ∙ rw (ne_eqb (a_at t row) 0 (λ z. omega arith))

  struct : (row : ℕ) → row < row_count t → kind_at t row ≡ 7 → 0 < b_at t row
      → walk_row t bytes handles depth row ≡ run (decoders m) (layout_of t) (walk_row t bytes handles depth) (items_of (fields_of (layout_of t) (member_rows t (a_at t row) (b_at t row))))
  struct row used kind some =
      decode_struct m deep row kind (members_below t row sound used kind) ∙ some_fields m (layout_of t) (W.decode_row m deep) t (a_at t row) (b_at t row) some ∙ run_fields m (layout_of t) (W.decode_row m deep) _

  pub rows_walked : RowsOf (decoders (message t bytes handles)) t (walk_row t bytes handles depth) (width_at (message t bytes handles))
  rows_walked = record {
    sound = sound;
    bool = decode_bool m deep;
    number = number;
    struct = struct;
    array = λ row used kind. decode_array m deep row kind (array_below t row sound used kind);
  }
