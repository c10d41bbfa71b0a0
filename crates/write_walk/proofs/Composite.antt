-- The loop over nested structs and arrays: what it keeps, and what each of its steps makes of it.
-- Assumes nothing.
use Rattle.std.specs.Prelude.{Err, Ok}
use mathlib.Core.Bool.{Bool, true, false}
use mathlib.Core.List.{List}
use mathlib.Core.Path.{◌≡◌, refl, ap, ◌∙◌}
use Prim.Native.Nat.{ℕ, ◌+◌, ◌-◌, ◌≤◌, ◌<◌}
use native.Mathlib.Omega.{arith}
use lib.ListN.{length, get_or, set}
use lib.Seq.{sets, length-sets}
use Rattle.rules.specs.declared.Fault.{Fault}
use Rattle.rules.specs.Bytes.{zeros}
use Rattle.rules.specs.TypeTable.{TypeTable}
use Rattle.rules.specs.Sizes.{layout_of, size_of}
use Rattle.nesting.specs.declared.Level.{Level}
use Rattle.nesting.specs.declared.Step.{Step}
use Rattle.nesting.specs.declared.Step.TheVariants.{Fill, Into, Call, Out, Done}
use Rattle.nesting.specs.Nesting.{has_parts, next_step}
use Rattle.layout.specs.Ready.{Ready}
use Rattle.nesting.proofs.Items.{Item}
use Rattle.nesting.proofs.Left.{advanced}
use Rattle.nesting.proofs.Starts.{start_of}
use Rattle.nesting.proofs.Steps.{Known, Stepped, fuel}
use Rattle.nesting.proofs.Going.{Going, Bounded}
use Rattle.plans.proofs.Rows.{row_start, rows_open}
use Rattle.nesting.proofs.Turns as T
use Rattle.nesting.proofs.Work.{WorkLeft, item_asks, item_on, item_refused, work_end}
use Rattle.write_leaves.specs.declared.cursor.Cursor.{Cursor}
use Rattle.write_leaves.specs.Putting.{Wrote, Ask}
use Rattle.write_walk.specs.Walking.{write_row, ValuePut}
use Rattle.write_leaves.proofs.Leading.{ask_stands, wrote_length}
use Rattle.write_leaves.proofs.Filling.{fill_put}
use Rattle.write_leaves.proofs.Writing.{writing}
use Rattle.write_walk.proofs.Rows.{rows_written}

module _ (t : TypeTable) (values : List ℕ) (base depth top at : ℕ) (out : List ℕ) (c : Cursor) (out' : List ℕ) (d : Cursor) where
  -- What is left of the value of the row `top`, which began at the cursor `c`.
  abbrev pub PartsLeft : List Item → (place : ℕ) → Type 0
  PartsLeft = WorkLeft (writing values base) (layout_of t) (write_row t depth) (size_of t top) at (write_row t depth top) out c out' d

  parts_bounded : Bounded t PartsLeft
  parts_bounded is place w = omega (arith, w.rest.asks.inside, w.rest.asks.free)

-- The state of the loop.
pub record Writing (none : Level) (t : TypeTable) (alignments values : List ℕ) (base depth top at : ℕ) (out : List ℕ) (c : Cursor)
    (out' : List ℕ) (kept : List Level) (around : ℕ) (level : Level) (due : Bool) (place : ℕ) (d : Cursor) : Type 0 where
  pub going : Going none t alignments top (PartsLeft t values base depth top at out c out' d) kept around level due place
  pub lengths : length out' ≡ length out

pub writing_start : {t : TypeTable} {sizes alignments values : List ℕ} {base depth top at : ℕ} {c : Cursor} → Ready t sizes alignments depth top
    → (none : Level) (out : List ℕ) (kept : List Level) → length kept ≡ 8 → has_parts t.rows top ≡ true → Ask values (size_of t top) at base c
    → Writing none t alignments values base depth top at out c out kept 0 (start_of top at) false at c
writing_start {t} {values = values} {base} {depth} {top} {at} {c} ready none out kept h parts a =
    let work = row_start (rows_written t depth ready.sound) top ready.in_use parts a in
    record { going = T.going_start ready (PartsLeft t values base depth top at out c out c) none kept h parts work; lengths = refl }

module _ {none : Level} {t : TypeTable} {sizes alignments values : List ℕ} {base depth top at : ℕ} {out : List ℕ} {c : Cursor} (ready : Ready t sizes alignments depth top)
    {out' : List ℕ} {kept : List Level} {around : ℕ} {level : Level} {due : Bool} {place : ℕ} {d : Cursor}
    (w : Writing none t alignments values base depth top at out c out' kept around level due place d) where
  bounded : Bounded t (PartsLeft t values base depth top at out c out' d)
  bounded = parts_bounded t values base depth top at out c out' d

  pub level_known : Known top level place
  level_known = T.state_known ready bounded w.going

  -- The step that the code makes.
  module _ {s : Step} (e : s ≡ next_step t.rows t.members level alignments due place around) where
    step : {next : Step} → s ≡ next → Stepped t.rows t.members level alignments place around due next
    step q = T.step_of ready bounded w.going e q

    pub fill_within : {next : ℕ} → s ≡ Fill next → (place ≤ next) × (next ≤ 65536)
    fill_within q = let f = T.turn_fill ready bounded (step q) w.going in (f.0, f.1)

    pub fill_done : {next : ℕ} {out'' : List ℕ} → s ≡ Fill next → out'' ≡ sets out' place (zeros (next - place))
        → Writing none t alignments values base depth top at out c out'' kept around (advanced level) false next d × (fuel t.rows (advanced level) false next around < fuel t.rows level due place around)
    fill_done {next} {out''} q stored =
        let f = T.turn_fill ready bounded (step q) w.going in
        let stops : place + (next - place) ≡ next = omega (arith, f.0) in
        let left = item_on f.2 (fill_put (next - place) (ask_stands f.2.rest.asks) stored base) in
        let turn = T.turn_filled ready bounded (step q) w.going (PartsLeft t values base depth top at out c out'' d) (rw stops at left) in
        (record { going = turn.0; lengths = ap length stored ∙ length-sets out' place (zeros (next - place)) ∙ w.lengths }, turn.1)

    pub into_done : {part : ℕ} → s ≡ Into part
        → Writing none t alignments values base depth top at out c out' (set kept around level) (around + 1) (start_of part place) due place d
        × (fuel t.rows (start_of part place) due place (around + 1) < fuel t.rows level due place around) × (around < 8)
    into_done q =
        let turn = T.turn_into ready bounded (step q) w.going (rows_open (rows_written t depth ready.sound)) in
        (record { going = turn.0; lengths = w.lengths }, turn.1, turn.2)

    pub call_asks : {part : ℕ} → s ≡ Call part → Ready t sizes alignments depth part × Ask values (size_of t part) place base d × (part < top)
    call_asks q = let turn = T.turn_call ready bounded (step q) w.going in (turn.0, item_asks turn.2, turn.1)

    module _ {part : ℕ} {out'' : List ℕ} {r : Wrote} (q : s ≡ Call part) (p : ValuePut t values out' out'' base depth place d part r) where
      pub call_done : {f : Cursor} {size : ℕ} → r ≡ Ok f → size ≡ get_or sizes part 0
          → Writing none t alignments values base depth top at out c out'' kept around level true (place + size) f × (fuel t.rows level true (place + size) around < fuel t.rows level due place around)
      call_done {f} same is =
          let put : ValuePut t values out' out'' base depth place d part (Ok f) = rw same at p in
          let left = item_on (T.turn_call ready bounded (step q) w.going).2 put in
          let turn = T.turn_called ready bounded (step q) w.going is (PartsLeft t values base depth top at out c out'' f) (parts_bounded t values base depth top at out c out'' f) left in
          (record { going = turn.0; lengths = wrote_length put ∙ w.lengths }, turn.1)

      pub call_refused : {f : Fault} → r ≡ Err f → ValuePut t values out out'' base depth at c top (Err f)
      call_refused same = item_refused (T.turn_call ready bounded (step q) w.going).2 (rw same at p)

    pub out_done : s ≡ Out
        → Writing none t alignments values base depth top at out c out' kept (around - 1) (get_or kept (around - 1) none) true place d
        × (fuel t.rows (get_or kept (around - 1) none) true place (around - 1) < fuel t.rows level due place around) × (0 < around)
    out_done q = let turn = T.turn_out ready bounded (step q) w.going in (record { going = turn.0; lengths = w.lengths }, turn.1, turn.2)

    pub all_put : s ≡ Done → ValuePut t values out out' base depth at c top (Ok d)
    all_put q = work_end (T.turn_done ready bounded (step q) w.going)
