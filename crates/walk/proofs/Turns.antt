-- The walk's loop over structs and arrays within one another: what it keeps, and that each turn keeps it.
-- Assumes nothing.
use Rattle.std.specs.Prelude.{Err, Ok}
use mathlib.Core.Bool.{Bool, true, false}
use mathlib.Core.List.{List}
use mathlib.Core.Path.{◌≡◌, refl, ap, ◌∙◌}
use Prim.Native.Nat.{ℕ, ◌+◌, ◌-◌, ◌≤◌, ◌<◌}
use native.Mathlib.Omega.{arith}
use lib.ListN.{length, get_or, set}
use lib.Seq.{length-sets}
use Rattle.rules.specs.declared.Fault.{Fault}
use Rattle.rules.specs.TypeTable.{TypeTable}
use Rattle.rules.specs.Sizes.{layout_of, size_of}
use Rattle.rules.specs.Trace.{object_list}
use Rattle.rules.specs.Decode as D
use Rattle.nesting.specs.declared.Level.{Level}
use Rattle.nesting.specs.declared.Step.{Step}
use Rattle.nesting.specs.declared.Step.TheVariants.{Fill, Into, Call, Out, Done}
use Rattle.nesting.specs.Nesting.{has_parts, next_step}
use Rattle.layout.specs.Ready.{Ready}
use Rattle.nesting.proofs.Items.{Item}
use Rattle.nesting.proofs.Left.{advanced}
use Rattle.nesting.proofs.Starts.{start_of}
use Rattle.nesting.proofs.Steps.{Known, Stepped, fuel}
use Rattle.nesting.proofs.Going.{Going, Bounded}
use Rattle.plans.proofs.Rows.{row_start, rows_open}
use Rattle.nesting.proofs.Turns as Nested
use Rattle.nesting.proofs.Work.{WorkLeft, item_asks, item_on, item_refused, work_end}
use Rattle.walk_leaves.specs.declared.cursor.Cursor.{Cursor}
use Rattle.walk_leaves.specs.Doing.{Walked}
use Rattle.walk_leaves.specs.Doing.{message, values_of, Did, Ask}
use Rattle.walk_leaves.specs.Parts.{DidNeither}
use Rattle.walk.specs.Walking.{walk_row, ValueDid}
use Rattle.walk.proofs.Rows.{rows_walked}
use Rattle.walk_leaves.proofs.Steps.{did_more}
use Rattle.walk_leaves.proofs.Reading.{reading}

module _ (t : TypeTable) (bytes : List ℕ) (handles depth top at : ℕ) (v o : List ℕ) (c : Cursor) where
  -- So much of the value is left to walk.
  abbrev pub ValueLeft : (v' o' : List ℕ) (d : Cursor) → List Item → (place : ℕ) → Type 0
  ValueLeft v' o' d is place =
      WorkLeft (reading (message t bytes handles)) (layout_of t) (walk_row t bytes handles depth) (size_of t top) at (walk_row t bytes handles depth top) (v, o) c (v', o') d is place

  bounded : (v' o' : List ℕ) (d : Cursor) → Bounded t (ValueLeft v' o' d)
  bounded v' o' d is place w = omega (arith, w.rest.asks.inside, w.rest.asks.short)

  -- What the loop keeps.
  pub record Walking (none : Level) (alignments v' o' : List ℕ) (kept : List Level) (around : ℕ) (level : Level) (due : Bool) (place : ℕ) (d : Cursor) : Type 0 where
    pub lengths : (length v' ≡ length v) × (length o' ≡ length o)
    pub going : Going none t alignments top (ValueLeft v' o' d) kept around level due place

module _ {t : TypeTable} {sizes alignments bytes : List ℕ} {handles depth top at : ℕ} {v o : List ℕ} {c : Cursor} (ready : Ready t sizes alignments depth top) where
  pub walking_start : (none : Level) (kept : List Level) → length kept ≡ 8 → has_parts t.rows top ≡ true → Ask (length bytes) handles (size_of t top) at c
      → Walking t bytes handles depth top at v o c none alignments v o kept 0 (start_of top at) false at c
  walking_start none kept h parts a =
      record {
        lengths = (refl, refl);
        going = Nested.going_start ready (ValueLeft t bytes handles depth top at v o c v o c) none kept h parts (row_start (rows_walked t bytes handles depth ready.sound) top ready.in_use parts a);
      }

  -- ---- the turns

  module _ {none : Level} {v' o' : List ℕ} {kept : List Level} {around : ℕ} {level : Level} {due : Bool} {place : ℕ} {d : Cursor}
      (w : Walking t bytes handles depth top at v o c none alignments v' o' kept around level due place d) where
    short : Bounded t (ValueLeft t bytes handles depth top at v o c v' o' d)
    short = bounded t bytes handles depth top at v o c v' o' d

    pub state_known : Known top level place
    state_known = Nested.state_known ready short w.going

    filled : (next : ℕ) {x r : Walked} → DidNeither bytes 0 place d x (λ m. D.fill m (next - place)) → x ≡ r
        → Did (length bytes) handles (next - place) v' v' o' o' d r (D.fill (message t bytes handles) (next - place) place d.next d.handles)
    filled next did same = did_more (next - place) (omega arith) (rw same at (did t v' o' handles w.going.work.rest.asks.free w.going.work.rest.asks.held))

    module _ {step : Step} (e : step ≡ next_step t.rows t.members level alignments due place around) where
      is : {s : Step} → step ≡ s → Stepped t.rows t.members level alignments place around due s
      is q = Nested.step_of ready short w.going e q

      pub turn_fill : {next : ℕ} → step ≡ Fill next → (place ≤ next) × (next ≤ 65536)
      turn_fill q = let fill = Nested.turn_fill ready short (is q) w.going in (fill.0, fill.1)

      pub turn_filled : {next : ℕ} → step ≡ Fill next → {x : Walked} {d' : Cursor} → DidNeither bytes 0 place d x (λ m. D.fill m (next - place)) → x ≡ Ok d'
          → Walking t bytes handles depth top at v o c none alignments v' o' kept around (advanced level) false next d' × (fuel t.rows (advanced level) false next around < fuel t.rows level due place around)
      turn_filled {next} q {d' = d'} did same =
          let fill = Nested.turn_fill ready short (is q) w.going in
          let on : place + (next - place) ≡ next = omega (arith, fill.0) in
          let left = item_on fill.2 (filled next did same) in
          let turn = Nested.turn_filled ready short (is q) w.going (ValueLeft t bytes handles depth top at v o c v' o' d') (rw on at left) in
          (record { lengths = w.lengths; going = turn.0 }, turn.1)

      pub turn_fill_refused : {next : ℕ} → step ≡ Fill next → {x : Walked} {f : Fault} → DidNeither bytes 0 place d x (λ m. D.fill m (next - place)) → x ≡ Err f
          → ValueDid t bytes handles depth v v' o o' at c top (Err f)
      turn_fill_refused {next} q did same = item_refused (Nested.turn_fill ready short (is q) w.going).2 (filled next did same)

      pub turn_into : {part : ℕ} → step ≡ Into part
          → Walking t bytes handles depth top at v o c none alignments v' o' (set kept around level) (around + 1) (start_of part place) due place d
          × (fuel t.rows (start_of part place) due place (around + 1) < fuel t.rows level due place around) × (around < 8)
      turn_into q =
          let turn = Nested.turn_into ready short (is q) w.going (rows_open (rows_walked t bytes handles depth ready.sound)) in
          (record { lengths = w.lengths; going = turn.0 }, turn.1, turn.2)

      pub turn_call : {part : ℕ} → step ≡ Call part → Ready t sizes alignments depth part × Ask (length bytes) handles (size_of t part) place d × (part < top)
      turn_call q =
          let call = Nested.turn_call ready short (is q) w.going in
          (call.0, item_asks call.2, call.1)

      pub turn_called : {part : ℕ} → step ≡ Call part → {v'' o'' : List ℕ} {x : Walked} {d' : Cursor} {size : ℕ} → ValueDid t bytes handles depth v' v'' o' o'' place d part x → x ≡ Ok d' → size ≡ get_or sizes part 0
          → Walking t bytes handles depth top at v o c none alignments v'' o'' kept around level true (place + size) d' × (fuel t.rows level true (place + size) around < fuel t.rows level due place around)
      turn_called {part} q {v''} {o''} {d' = d'} did same size =
          let call = Nested.turn_call ready short (is q) w.going in
          let on : ValueDid t bytes handles depth v' v'' o' o'' place d part (Ok d') = rw same at did in
          let turn = Nested.turn_called ready short (is q) w.going size (ValueLeft t bytes handles depth top at v o c v'' o'' d') (bounded t bytes handles depth top at v o c v'' o'' d') (item_on call.2 on) in
          let walked = walk_row t bytes handles depth part place d.next d.handles in (
            record {
              lengths = (ap length on.valued ∙ length-sets v' d.values (values_of walked) ∙ w.lengths.0, ap length on.listed ∙ length-sets o' d.objects (object_list (D.trace_of walked)) ∙ w.lengths.1);
              going = turn.0;
            },
            turn.1,
          )

      pub turn_call_refused : {part : ℕ} → step ≡ Call part → {v'' o'' : List ℕ} {x : Walked} {f : Fault} → ValueDid t bytes handles depth v' v'' o' o'' place d part x → x ≡ Err f
          → ValueDid t bytes handles depth v v'' o o'' at c top (Err f)
      turn_call_refused q did same = item_refused (Nested.turn_call ready short (is q) w.going).2 (rw same at did)

      pub turn_out : step ≡ Out
          → Walking t bytes handles depth top at v o c none alignments v' o' kept (around - 1) (get_or kept (around - 1) none) true place d
          × (fuel t.rows (get_or kept (around - 1) none) true place (around - 1) < fuel t.rows level due place around) × (0 < around)
      turn_out q =
          let turn = Nested.turn_out ready short (is q) w.going in
          (record { lengths = w.lengths; going = turn.0 }, turn.1, turn.2)

      pub turn_done : step ≡ Done → ValueDid t bytes handles depth v v' o o' at c top (Ok d)
      turn_done q = work_end (Nested.turn_done ready short (is q) w.going)
