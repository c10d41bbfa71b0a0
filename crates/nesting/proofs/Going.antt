-- The loop over structs and arrays within one another: what it keeps from turn to turn, whatever "so much is left to do"
-- means to it, and what a sound type table says of the level that it is at.
-- Assumes nothing.
use mathlib.Core.Bool.{Bool, true, false}
use mathlib.Core.List.{List, [], ◌∷◌, ◌++◌}
use mathlib.Core.Path.{◌≡◌}
use Prim.Native.Nat.{ℕ, ◌+◌, ◌≤◌, ◌<◌}
use native.Mathlib.Omega.{arith}
use lib.ListN.{length}
use Rattle.rules.specs.TypeTable.{TypeTable, row_count, a_at, b_at}
use Rattle.rules.specs.Sizes.{layout_of, size_of, fields_size}
use Rattle.layout.proofs.Rows.{array_fits, struct_fits, sound_row}
use Rattle.nesting.specs.declared.Level.{Level}
use Rattle.nesting.specs.Nesting.{has_parts, next_part}
use Rattle.layout.specs.Ready.{Ready}
use Rattle.layout.proofs.ByKind.{fits_kind}
use Rattle.layout.proofs.Readiness.{row_few, ready_at}
use Rattle.nesting.proofs.Items.{Item, value, items_of, size_of_items}
use Rattle.nesting.proofs.Left.{fields_left, no_members_left, no_elements_left}
use Rattle.nesting.proofs.Starts.{Parts, elements, parts_of_lem, start_of}
use Rattle.nesting.proofs.Starts as Starts
use Rattle.nesting.proofs.Around.{levels_of, left_around}
use Rattle.nesting.proofs.Parts.{NextPart, next_of}
use Rattle.nesting.proofs.Chain.{end_of, Running, Paused, Stands, left_of}
use Rattle.nesting.proofs.Steps.{Known}

-- At most 8 are around the one that the loop is at.
pub record Going (none : Level) (t : TypeTable) (alignments : List ℕ) (top : ℕ) (Left : List Item → (place : ℕ) → Type 0)
    (kept : List Level) (around : ℕ) (level : Level) (due : Bool) (place : ℕ) : Type 0 where
  pub room : around ≤ 8
  pub holds : length kept ≡ 8
  pub stands : Stands t alignments top due level (levels_of none kept around) place
  pub work : Left (left_of t alignments due level (levels_of none kept around) place) place

-- What is left to do ends within a message.
abbrev pub Bounded : (t : TypeTable) → (List Item → (place : ℕ) → Type 0) → Type 0
Bounded t Left = (is : List Item) (place : ℕ) → Left is place → place + size_of_items (layout_of t) is ≤ 65536

-- A value that has parts may as well be done part by part.
abbrev pub Opens : (t : TypeTable) → (List Item → (place : ℕ) → Type 0) → Type 0
Opens t Left =
    (row : ℕ) (rest : List Item) (place : ℕ) → has_parts t.rows row ≡ true → row < row_count t → Left (value row ∷ rest) place
    → Left (items_of (fields_left t (start_of row place) place) ++ rest) place

-- ---- what the type table says of a level

module _ {t : TypeTable} {sizes alignments : List ℕ} {depth top : ℕ} (ready : Ready t sizes alignments depth top) where
  pub in_use : (l : Level) → l.row ≤ top → l.row < row_count t
  in_use l h = omega (arith, h, ready.in_use)

  -- Nothing is left of one whose parts are all done.
  pub all_done : (l : Level) (place : ℕ) → Running t top l place → l.done ≡ b_at t l.row
      → (fields_left t l place ≡ []) × (place ≡ end_of t l)
  unfolding fields_size
  all_done l place r e = (none_left, omega (arith, rw none_left at r.ends))
    where
      go : Parts t.rows l.row → fields_left t l place ≡ []
      go (Starts.members k b) = no_members_left t l place k (omega (arith, e))
      go (elements k) = no_elements_left t l place (λ s. omega (arith, k, s)) (omega (arith, e))

      none_left : fields_left t l place ≡ []
      none_left = go (parts_of_lem t.rows l.row r.parts)

  pub few_parts : (row : ℕ) → row ≤ top → has_parts t.rows row ≡ true → (b_at t row ≤ 65528) × (0 < b_at t row)
  few_parts row h parts = go (parts_of_lem t.rows row parts)
    where
      used : row < row_count t
      used = omega (arith, h, ready.in_use)

      go : Parts t.rows row → (b_at t row ≤ 65528) × (0 < b_at t row)
      go (Starts.members k b) =
          let exist = (struct_fits t row (a_at t row) (b_at t row) (fits_kind t row ready.sound used k)).exist in
          (omega (arith, exist, (sound_row t ready.sound row used).members), b)
      go (elements k) =
          let fits = array_fits t row (a_at t row) (b_at t row) (fits_kind t row ready.sound used k) in
          (fits.most, omega (arith, fits.some))

  pub known_of : (l : Level) (place : ℕ) → l.row ≤ top → has_parts t.rows l.row ≡ true → l.done ≤ b_at t l.row → l.at ≤ place → place ≤ 65536 → Known top l place
  known_of l place i p n f s = record { few = omega (arith, i, row_few ready); inside = i; done = omega (arith, n, (few_parts l.row i p).0); from = f; short = s }

  -- One that is not done: its next part, with which it is paused.
  module _ (l : Level) (place : ℕ) (r : Running t top l place) (more : l.done ≡ b_at t l.row → ⊥) where
    pub next : NextPart t alignments ready.sound ready.alignments_kept l (in_use l r.inside) (omega (arith, more, r.done)) place
    next = next_of t alignments ready.sound ready.alignments_kept l (in_use l r.inside) (omega (arith, more, r.done)) place r.from r.parts

    pub paused : Paused t alignments top l (place + size_of t (next_part t.rows t.members l))
    unfolding fields_size
    paused = record {
      inside = r.inside;
      parts = r.parts;
      done = omega (arith, more, r.done);
      from = omega (arith, r.from);
      on = next.on;
      ends = omega (arith, next.on, rw next.fields at r.ends);
    }

    pub part_ready : Ready t sizes alignments depth (next_part t.rows t.members l)
    part_ready = ready_at ready depth (next_part t.rows t.members l) (omega arith) (omega (arith, ready.in_use, r.inside, next.below))

    pub left_next : (around : List Level)
        → left_of t alignments false l around place
        ≡ value (next_part t.rows t.members l) ∷ left_around t alignments (l ∷ around) (place + size_of t (next_part t.rows t.members l))
    unfolding items_of left_around
    left_next around = rw next.fields
