-- What a side makes of the rows of a type table, and what follows for their parts: structs and arrays may be taken apart, and flat
-- values go by their plan.
-- Assumes nothing.
use Rattle.std.specs.Prelude.{Option, Some, None, IfSome}
use mathlib.Core.Bool.{true}
use mathlib.Core.List.{List}
use mathlib.Core.Path.{◌≡◌, refl, sym, subst, ◌∙◌}
use Prim.Native.Nat.{ℕ, ◌*◌, ◌<◌}
use native.Mathlib.Omega.{arith}
use lib.ListN.{get_or}
use Rattle.rules.specs.Refusals.{accepted}
use Rattle.rules.specs.TypeTable.{TypeTable, row_count, kind_at, a_at, b_at, member_rows}
use Rattle.rules.specs.Sizes.{Field, layout_of, size_of, fields_of}
use Rattle.rules.specs.Sound.{soundness}
use Rattle.plans.specs.declared.Width.{Width}
use Rattle.plans.specs.declared.Part.{Part}
use Rattle.nesting.specs.Nesting.{has_parts}
use Rattle.plans.specs.Plans.{width_row, width_layout, Runnable, part_fields, parts_size, plan_of, plan_in, size_in, PlanAsks, ByPlan}
use Rattle.layout.specs.declared.laid.Laid.{Laid}
use Rattle.layout.specs.Ready.{Ready, table_in}
use Rattle.nesting.proofs.Items.{items_of, size_of_items, fields_size_lem}
use Rattle.nesting.proofs.Left.{fields_left}
use Rattle.nesting.proofs.Going.{Opens}
use Rattle.layout.proofs.ByKind.{width_positive}
use Rattle.layout.proofs.Readiness.{row_size}
use Rattle.nesting.proofs.Starts.{Parts, members, elements, parts_of_lem, start_of, start_size, struct_fields_lem, array_fields, members_below}
use Rattle.plans.proofs.Widths.{bytes_laid}
use Rattle.plans.proofs.Plans.{Flat, a_bool, a_number, AllFlat, none, more, FlatRow, bool_row, struct_row, flat_size, flat_runs, flat_runnable, plan_flat, flat_row_size}
use Rattle.nesting.proofs.Algebra.{Algebra, Doing}
use Rattle.nesting.proofs.Runs.{run_one}
use Rattle.nesting.proofs.Work.{run, run_copies, run_alone, WorkLeft, work_start, work_into}

-- For a row a side does `inner`; for a bool, as the width 0, or a number of a width, `width`.
pub record RowsOf (A : Algebra) (t : TypeTable) (inner width : ℕ → A.Part) : Type 0 where
  pub sound : soundness t ≡ accepted tt
  pub bool : (row : ℕ) → kind_at t row ≡ 1 → inner row ≡ width 0
  pub number : (row : ℕ) → kind_at t row ≡ 2 → 0 < a_at t row → inner row ≡ width (a_at t row)
  pub struct : (row : ℕ) → row < row_count t → kind_at t row ≡ 7 → 0 < b_at t row
      → inner row ≡ run A (layout_of t) inner (items_of (fields_of (layout_of t) (member_rows t (a_at t row) (b_at t row))))
  pub array : (row : ℕ) → row < row_count t → kind_at t row ≡ 4 → inner row ≡ A.elements (size_of t (a_at t row)) (λ k. inner (a_at t row)) 0 (b_at t row)

-- ---- structs and arrays

module _ {A : Algebra} {t : TypeTable} {inner width : ℕ → A.Part} (rows : RowsOf A t inner width) where
  begins : (row at : ℕ) → row < row_count t → has_parts t.rows row ≡ true → inner row ≡ run A (layout_of t) inner (items_of (fields_left t (start_of row at) at))
  begins row at used parts = go (parts_of_lem t.rows row parts)
    where
      go : Parts t.rows row → inner row ≡ run A (layout_of t) inner (items_of (fields_left t (start_of row at) at))
      go (members kind some) = rw (struct_fields_lem t row kind (members_below t row rows.sound used kind) at) (rows.struct row used kind some)
      go (elements kind) = rw (array_fields t row kind at) (rows.array row used kind ∙ run_copies A (layout_of t) inner (b_at t row) (a_at t row) 0)

  begins_size : (row at : ℕ) → row < row_count t → has_parts t.rows row ≡ true → size_of t row ≡ size_of_items (layout_of t) (items_of (fields_left t (start_of row at) at))
  begins_size row at used parts = start_size t row rows.sound used parts at ∙ sym (fields_size_lem (layout_of t) (fields_left t (start_of row at) at))

  pub row_start : {D : Doing A} {at : ℕ} {l : D.Lent} {c : D.Cursor} (row : ℕ) → row < row_count t → has_parts t.rows row ≡ true → D.Ask (size_of t row) at c
      → WorkLeft D (layout_of t) inner (size_of t row) at (inner row) l c l c (items_of (fields_left t (start_of row at) at)) at
  row_start {at = at} row used parts a = work_start (items_of (fields_left t (start_of row at) at)) a (begins row at used parts) (begins_size row at used parts)

  pub rows_open : {D : Doing A} {grow at : ℕ} {whole : A.Part} {l : D.Lent} {c : D.Cursor} {l' : D.Lent} {d : D.Cursor} → Opens t (WorkLeft D (layout_of t) inner grow at whole l c l' d)
  rows_open row rest place parts used w = work_into (items_of (fields_left t (start_of row place) place)) w (begins row place used parts) (begins_size row place used parts)

  -- ---- flat values

  flat_part : {row : ℕ} {w : Width} → Flat t row w → inner row ≡ width (width_row w)
  flat_part {row} (a_bool e) = rows.bool row e
  flat_part {row} (a_number e allowed) = rows.number row e (width_positive _ allowed)

  all_flat_lem : {fields : List Field} {parts : List Part} → AllFlat t fields parts → run A (layout_of t) inner (items_of fields) ≡ run A width_layout width (items_of (part_fields parts))
  unfolding run items_of
  all_flat_lem none = refl
  all_flat_lem (more {width = w} f fs) = rw (flat_size f, flat_part f, all_flat_lem fs, bytes_laid w (flat_runs f))

  row_flat : {row : ℕ} {parts : List Part} → row < row_count t → FlatRow t row parts → inner row ≡ run A width_layout width (items_of (part_fields parts))
  row_flat used (bool_row e) = rows.bool _ e ∙ sym (run_alone A width_layout width 0)
  row_flat {row} used (struct_row kind some fs) = rows.struct row used kind some ∙ all_flat_lem fs

-- The parts of a plan that was made.
module _ {t : TypeTable} {sizes alignments : List ℕ} {depth row : ℕ} (ready : Ready t sizes alignments depth row) {parts : List Part} (made : plan_of t.rows t.members alignments row ≡ Some parts)
    {size : ℕ} (s : size ≡ get_or sizes row 0) where
  flat : FlatRow t row parts
  flat = plan_flat ready made

  sized : size_of t row ≡ size
  sized = row_size ready row ready.in_use s

  pub plan_asks : (Asks : ℕ → Type 0) (count : ℕ) → Asks (count * size_of t row) → Runnable parts × (parts_size parts ≡ size) × Asks (count * size)
  plan_asks Asks count a = (flat_runnable flat, sym (flat_row_size ready flat) ∙ sized, rw sized at a)

  module _ {A : Algebra} {inner width : ℕ → A.Part} (rows : RowsOf A t inner width) (D : Doing A) {part : A.Part} (by : part ≡ run A width_layout width (items_of (part_fields parts)))
      {at : ℕ} {l l' : D.Lent} {c : D.Cursor} {r : D.Answer} where
    pub plan_done : (count : ℕ) → D.Ask (count * size_of t row) at c → (D.Ask (count * size) at c → D.Did (count * size) at l l' c r (A.elements size (λ k. part) 0 count))
        → D.Did (count * size_of t row) at l l' c r (A.elements (size_of t row) (λ k. inner row) 0 count)
    plan_done count a did = rw (row_flat rows ready.in_use flat, ← by, sized) (did (rw sized at a))

    pub alone_done : D.Ask (size_of t row) at c → (D.Ask (1 * size) at c → D.Did (1 * size) at l l' c r (A.elements size (λ k. part) 0 1)) → D.Did (size_of t row) at l l' c r (inner row)
    alone_done a did =
        let once : 1 * size_of t row ≡ size_of t row = omega arith in
        run_one D (plan_done 1 (rw once a) did)

-- ---- what is at hand

-- What is asked for of a row is asked for of its plan.
pub row_asks : (l : Laid) {depth row : ℕ} → Ready (table_in l) l.sizes.now l.alignments.now depth row → (Asks : ℕ → Type 0) (count : ℕ) → Asks (count * size_of (table_in l) row)
    → PlanAsks l row Asks count
row_asks l {row = row} ready Asks count a = go (plan_in l row) refl
  where
    go : (plan : Option (List Part)) → plan_in l row ≡ plan → IfSome plan (λ parts. Runnable parts × (parts_size parts ≡ size_in l row) × Asks (count * size_in l row))
    go None made = tt
    go (Some parts) made = plan_asks ready made refl Asks count a

-- A value by itself is a run of one.
pub alone_asks : (l : Laid) {depth row : ℕ} → Ready (table_in l) l.sizes.now l.alignments.now depth row → (Asks : ℕ → Type 0) → Asks (size_of (table_in l) row) → PlanAsks l row Asks 1
alone_asks l {row = row} ready Asks a = let once : size_of (table_in l) row ≡ 1 * size_of (table_in l) row = omega arith in row_asks l ready Asks 1 (subst Asks once a)

-- Where there is no plan all is as before.
pub left_alone : {Answer as_before : Type 0} {r : Option Answer} (plan : Option (List Part)) (done : List Part → Answer → Type 0) → r ≡ None → ByPlan plan as_before done r → as_before
left_alone plan done missing by = (rw missing at by).1
