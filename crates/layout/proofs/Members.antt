-- The layout of a struct that fits, on the way through its members: what holds before each of them.
-- Assumes nothing.
use mathlib.Core.Bool.{true}
use mathlib.Core.Path.{◌≡◌, ap, sym, ◌∙◌}
use Prim.Native.Nat.{ℕ, ◌+◌, ◌-◌, ◌*◌, ◌≤◌, ◌<◌}
use native.Mathlib.Omega.{arith}
use Rattle.rules.specs.declared.Layout.{Layout}
use Rattle.rules.specs.TypeTable.{TypeTable, member_count, kind_at, a_at, b_at, row_of, struct, type_of, member_rows}
use Rattle.rules.specs.Sizes.{layout, layout_as, layout_below, layout_of, struct_size, fields_of, fields_from, largest_alignment}
use Rattle.rules.specs.Sound.{struct_members, row_fits}
use Rattle.layout.specs.Kept.{Fits, SoundBelow}
use Rattle.layout.specs.Running.{Alignment, one, placed, placed_all, closed}
use Rattle.layout.proofs.Rows.{layout_below_lem, layout_step_lem, struct_fits, member_fits}
use Rattle.layout.proofs.Structs.{round_most, struct_closed, placed_step, placed_none}
use Rattle.layout.proofs.Bounds.{Bounded, alignment_bounds, larger_alignment, bounded, aligned_below}

-- A row of kind 7 is a struct.
struct_row : (t : TypeTable) (row : ℕ) → kind_at t row ≡ 7 → type_of t row ≡ struct (a_at t row) (b_at t row)
unfolding type_of
struct_row t row e = rw e

pub empty_struct : (t : TypeTable) (row : ℕ) → kind_at t row ≡ 7 → b_at t row ≡ 0 → layout_of t row ≡ layout 1 1
unfolding layout_as member_rows struct_size fields_of fields_from largest_alignment
empty_struct t row e none = layout_step_lem t row ∙ rw (struct_row t row e, none)

-- `left` members are still to be placed, from `next` on; those before them make `before`.
pub record Placing (t : TypeTable) (row next left : ℕ) (before : Layout) : Type 0 where
  pub sound : SoundBelow t row
  pub whole : layout_of t row ≡ closed (placed_all (layout_below t row) before (member_rows t next left))
  pub ordinal : ℕ
  pub members : struct_members t row next left ordinal ≡ true
  pub few : next + left ≤ 1024
  pub end : before.size + 65536 * left ≤ 67108864
  pub aligned : Alignment before.alignment

pub placing_first : (t : TypeTable) (row : ℕ) → SoundBelow t row → Fits t row → kind_at t row ≡ 7 → member_count t ≤ 1024 → 0 < b_at t row
    → Placing t row (a_at t row) (b_at t row) (layout 0 1)
placing_first t row sound fits kind members some =
    let line : row_fits t row (struct (a_at t row) (b_at t row)) ≡ true = rw (struct_row t row kind) at fits in
    let parts = struct_fits t row (a_at t row) (b_at t row) line in
    record {
      sound = sound;
      whole = layout_step_lem t row
          ∙ ap (layout_as t (layout_below t row)) (struct_row t row kind)
          ∙ struct_closed (layout_below t row) (aligned_below t row sound) t (a_at t row) (b_at t row) some;
      ordinal = 1;
      members = parts.members;
      few = omega (arith, parts.exist);
      end = omega (arith, parts.exist);
      aligned = one;
    }

module _ {t : TypeTable} {row next left : ℕ} {before : Layout} (p : Placing t row next left before) where
  pub placing_last : left ≡ 0 → closed before ≡ layout_of t row
  placing_last none = sym (p.whole ∙ rw (none, placed_none))

  module _ (some : 0 < left) where
    pub next_below : row_of t next < row
    next_below = (member_fits t row next left p.ordinal some p.members).below

    module _ (member : Layout) (e : member ≡ layout_of t (row_of t next)) where
      -- What placing the next member asks for.
      pub placeable : Alignment member.alignment × (member.size ≤ 65528) × (before.size ≤ 67108864)
      placeable =
          let b : Bounded member = rw e (bounded t row p.sound (row_of t next) next_below) in
          (b.alignment, b.most, omega (arith, p.end))

      pub placing_next : Placing t row (next + 1) (left - 1) (placed before member)
      placing_next =
          let inner = layout_below t row in
          let same : inner (row_of t next) ≡ member = layout_below_lem t row (row_of t next) next_below ∙ sym e in
          let bounds = alignment_bounds placeable.0 in
          let rest : Layout → Layout = λ l. closed (placed_all inner (placed before l) (member_rows t (next + 1) (left - 1))) in
          record {
            sound = p.sound;
            whole = p.whole ∙ ap closed (placed_step inner t before next left some) ∙ ap rest same;
            ordinal = p.ordinal + 1;
            members = (member_fits t row next left p.ordinal some p.members).rest;
            few = omega (arith, p.few);
            end = omega (arith, p.end, placeable.1, bounds, round_most before.size bounds.0);
            aligned = larger_alignment p.aligned placeable.0;
          }
