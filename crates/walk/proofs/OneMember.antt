-- A struct of one member: the member's value, and the fill after it up to the struct's size.
-- Assumes nothing.
use Rattle.std.specs.Prelude.{Err, Ok}
use mathlib.Core.Bool.{Bool, true, ◌&&◌}
use mathlib.Core.List.{List, [], ◌∷◌}
use mathlib.Core.Path.{◌≡◌, refl, sym, ap, ◌∙◌}
use Prim.Native.Nat.{ℕ, ◌+◌, ◌-◌, ◌*◌, ◌≤◌, ◌<◌}
use native.Mathlib.Omega.{arith}
use borrow.Author.Tests.{eqb-true}
use lib.Dec.{eqb}
use lib.ListN.{length, get_or}
use Rattle.rules.specs.declared.Fault.{Fault}
use Rattle.rules.specs.declared.Layout.{Layout}
use Rattle.rules.specs.Bytes.{round_up}
use Rattle.rules.specs.TypeTable.{TypeTable, row_count, kind_at, a_at, b_at, row_of, member_rows}
use Rattle.rules.specs.Sizes.{layout_of, size_of, largest_alignment, fields_from, fields_of}
use Rattle.rules.specs.Decode as D
use Rattle.rules.proofs.Tests.{both}
use Rattle.nesting.specs.Nesting.{has_parts}
use Rattle.layout.specs.Ready.{Ready}
use Rattle.layout.proofs.Below.{AllBelow, more}
use Rattle.nesting.proofs.Items.{Item, value, gap, items_of, size_of_items, fields_size_lem}
use Rattle.nesting.proofs.Left.{fields_left}
use Rattle.plans.proofs.Rows.{row_start}
use Rattle.layout.proofs.Readiness.{row_size, ready_at}
use Rattle.nesting.proofs.Work.{WorkLeft, item_on, item_refused, work_end}
use Rattle.nesting.proofs.Starts.{start_of, struct_fields_lem, members_below, start_size}
use Rattle.walk_leaves.specs.declared.cursor.Cursor.{Cursor}
use Rattle.walk_leaves.specs.Doing.{Walked}
use Rattle.walk_leaves.specs.Doing.{message, Did, Ask}
use Rattle.walk_leaves.specs.Parts.{DidNeither}
use Rattle.walk.specs.Walking.{walk_row, ValueDid}
use Rattle.walk.proofs.Rows.{rows_walked}
use Rattle.walk_leaves.proofs.Reading.{reading}
use Rattle.walk_leaves.proofs.Steps.{did_more}

-- ---- what it is made of

-- The fill after a member that stands alone, as the rules have it.
fill_after : (t : TypeTable) (layouts : ℕ → Layout) (first : ℕ) → ℕ
fill_after t layouts first = round_up (0 + (layouts (row_of t first)).size) (largest_alignment layouts (member_rows t first 1)) - (0 + (layouts (row_of t first)).size)

one_items : (t : TypeTable) (layouts : ℕ → Layout) (first : ℕ) → items_of (fields_of layouts (member_rows t first 1)) ≡ value (row_of t first) ∷ gap (fill_after t layouts first) ∷ []
unfolding items_of fields_of fields_from member_rows fill_after
one_items t layouts first = refl

two_size : (layouts : ℕ → Layout) (row fill : ℕ) → size_of_items layouts (value row ∷ gap fill ∷ []) ≡ (layouts row).size + fill
unfolding size_of_items
two_size layouts row fill = omega arith

one_below : (t : TypeTable) (row first : ℕ) → AllBelow row (member_rows t first 1) → row_of t first < row
unfolding member_rows
one_below t row first (more h a) = h

-- What the code's test says.
pub one_member : {t : TypeTable} {sizes alignments : List ℕ} {depth row : ℕ} → Ready t sizes alignments depth row → {kind count : ℕ} (alone : Bool) → kind ≡ kind_at t row → count ≡ b_at t row → ((eqb kind 7 && eqb count 1) && alone) ≡ true
    → (kind_at t row ≡ 7) × (b_at t row ≡ 1)
one_member ready {kind} {count} alone k b test =
    let both-are = both (eqb kind 7) (eqb count 1) (both (eqb kind 7 && eqb count 1) alone test).0 in
    (sym k ∙ eqb-true kind 7 both-are.0, sym b ∙ eqb-true count 1 both-are.1)

module _ {t : TypeTable} {sizes alignments : List ℕ} {depth row : ℕ} (ready : Ready t sizes alignments depth row) (parts : has_parts t.rows row ≡ true)
    (one : (kind_at t row ≡ 7) × (b_at t row ≡ 1)) {first part : ℕ} (f : first ≡ a_at t row) (p : part ≡ get_or t.members (first * 2 + 1) 0) where
  is_part : row_of t (a_at t row) ≡ part
  is_part = sym (p ∙ rw f)

  below : AllBelow row (member_rows t (a_at t row) (b_at t row))
  below = members_below t row ready.sound ready.in_use one.0

  part_below : part < row
  part_below = rw is_part at (one_below t row (a_at t row) (rw one.1 at below))

  part_used : part < row_count t
  part_used = omega (arith, part_below, ready.in_use)

  -- the struct's size, by that of its member
  items_then : (at : ℕ) → items_of (fields_left t (start_of row at) at) ≡ value part ∷ gap (fill_after t (layout_of t) (a_at t row)) ∷ []
  items_then at = rw (struct_fields_lem t row one.0 below at, one.1, one_items t (layout_of t) (a_at t row), is_part)

  size_then : size_of t row ≡ size_of t part + fill_after t (layout_of t) (a_at t row)
  size_then =
      start_size t row ready.sound ready.in_use parts 0 ∙ sym (fields_size_lem (layout_of t) (fields_left t (start_of row 0) 0))
      ∙ ap (size_of_items (layout_of t)) (items_then 0) ∙ two_size (layout_of t) part (fill_after t (layout_of t) (a_at t row))

  part_smaller : size_of t part ≤ size_of t row
  part_smaller = omega (arith, size_then)

  items : (at : ℕ) → items_of (fields_left t (start_of row at) at) ≡ value part ∷ gap (size_of t row - size_of t part) ∷ []
  items at =
      let fill : fill_after t (layout_of t) (a_at t row) ≡ size_of t row - size_of t part = omega (arith, size_then) in
      items_then at ∙ ap (λ (n : ℕ). value part ∷ gap n ∷ []) fill

  -- ---- what is asked for

  module _ {total handles at : ℕ} {c : Cursor} (ask : Ask total handles (size_of t row) at c) where
    pub member_asks : Ready t sizes alignments depth part × Ask total handles (size_of t part) at c × (part < row)
    member_asks = (
      ready_at ready depth part (omega arith) part_used,
      record { short = ask.short; few = ask.few; inside = omega (arith, part_smaller, ask.inside); free = ask.free; held = ask.held; small = omega (arith, part_smaller, ask.small) },
      part_below,
    )

    pub fill_asks : {size whole : ℕ} → size ≡ get_or sizes part 0 → whole ≡ get_or sizes row 0 → (at + size ≤ at + whole) × (at + whole ≤ 65536)
    fill_asks s w =
        (omega (arith, row_size ready part part_used s, row_size ready row ready.in_use w, part_smaller), omega (arith, row_size ready row ready.in_use w, ask.inside, ask.short))

  -- ---- its walk

  module _ (bytes : List ℕ) (handles at : ℕ) (v v' o o' : List ℕ) (c : Cursor) (ask : Ask (length bytes) handles (size_of t row) at c) where
    abbrev Left : (v'' o'' : List ℕ) (d : Cursor) → List Item → (place : ℕ) → Type 0
    Left v'' o'' d is place =
        WorkLeft (reading (message t bytes handles)) (layout_of t) (walk_row t bytes handles depth) (size_of t row) at (walk_row t bytes handles depth row) (v, o) c (v'', o'') d is place

    start : Left v o c (value part ∷ gap (size_of t row - size_of t part) ∷ []) at
    start = rw (← (items at)) (row_start (rows_walked t bytes handles depth ready.sound) row ready.in_use parts ask)

    module _ {x : Walked} (did : ValueDid t bytes handles depth v v' o o' at c part x) where
      pub member_refused : {f : Fault} → x ≡ Err f → ValueDid t bytes handles depth v v' o o' at c row (Err f)
      member_refused same = item_refused start (rw same at did)

      pub member_filled : {d : Cursor} → x ≡ Ok d → {size whole : ℕ} → size ≡ get_or sizes part 0 → whole ≡ get_or sizes row 0
          → (r : Walked) → DidNeither bytes 0 (at + size) d r (λ m. D.fill m ((at + whole) - (at + size))) → ValueDid t bytes handles depth v v' o o' at c row r
      member_filled {d} same {size} {whole} s w r filled =
          end r (did_more (size_of t row - size_of t part) (omega arith) (rw (fill, ← (row_size ready part part_used s)) at (filled t v' o' handles left.rest.asks.free left.rest.asks.held)))
        where
          left : Left v' o' d (gap (size_of t row - size_of t part) ∷ []) (at + size_of t part)
          left = item_on start (rw same at did)

          fill : (at + whole) - (at + size) ≡ size_of t row - size_of t part
          fill = omega (arith, row_size ready part part_used s, row_size ready row ready.in_use w)

          end : (r : Walked) → Did (length bytes) handles (size_of t row - size_of t part) v' v' o' o' d r (D.fill (message t bytes handles) (size_of t row - size_of t part) (at + size_of t part) d.next d.handles)
              → ValueDid t bytes handles depth v v' o o' at c row r
          end (Ok e) q = work_end (item_on left q)
          end (Err f) q = item_refused left q
