-- Each turn of the loop over structs and arrays keeps what the loop keeps, and something falls.
-- Assumes nothing.
use mathlib.Core.Bool.{Bool, true, false}
use mathlib.Core.List.{List, [], ◌∷◌, ◌++◌, append-nil}
use mathlib.Core.Path.{◌≡◌, refl, ap, ◌∙◌}
use Prim.Native.Nat.{ℕ, suc, ◌+◌, ◌-◌, ◌≤◌, ◌<◌}
use native.Mathlib.Omega.{arith}
use lib.ListN.{length, get_or, set, length-set}
use Rattle.rules.specs.TypeTable.{TypeTable, b_at}
use Rattle.rules.specs.Sizes.{size_of}
use Rattle.layout.proofs.Keeping.{sound_bounded}
use Rattle.nesting.specs.declared.Level.{Level}
use Rattle.nesting.specs.declared.Step.{Step}
use Rattle.nesting.specs.declared.Step.TheVariants.{Fill, Into, Call, Out, Done}
use Rattle.nesting.specs.Nesting.{has_parts, next_part, next_place, next_step}
use Rattle.layout.specs.Ready.{Ready}
use Rattle.layout.proofs.Readiness.{row_size}
use Rattle.nesting.proofs.Items.{Item, value, gap, items_of, size_of_items}
use Rattle.nesting.proofs.Left.{advanced, fields_left}
use Rattle.nesting.proofs.Starts.{start_of, start_size}
use Rattle.nesting.proofs.Around.{levels_of, left_around, levels_pushed}
use Rattle.nesting.proofs.Chain.{end_of, Chain, last, within, chain_first, chain_rest}
use Rattle.nesting.proofs.Steps.{Known, Stepped, filling, ended, leaving, entering, calling, stepped_known, fuel, phase_in, phase_out, phase_due, phase_small}
use Rattle.nesting.proofs.Going.{Going, Bounded, Opens, all_done, few_parts, known_of, next, paused, part_ready, left_next}

module _ (none : Level) (t : TypeTable) (alignments : List ℕ) (kept : List Level) (around : ℕ) (level : Level) where
  -- What is left after the fill that takes the level on to the next part at a place;
  pub fill_rest : (next : ℕ) → List Item
  fill_rest next = items_of (fields_left t (advanced level) next) ++ left_around t alignments (levels_of none kept around) (end_of t level)

  -- after the part that stops at a place.
  pub call_rest : (stop : ℕ) → List Item
  call_rest stop = left_around t alignments (level ∷ levels_of none kept around) stop

module _ {none : Level} {t : TypeTable} {sizes alignments : List ℕ} {depth top : ℕ} (ready : Ready t sizes alignments depth top) {Left : List Item → (place : ℕ) → Type 0}
    {kept : List Level} {around : ℕ} {level : Level} {place : ℕ} where
  -- ---- a level that is not done

  module _ (g : Going none t alignments top Left kept around level false place) (more : level.done ≡ b_at t level.row → ⊥) where
    part_left : Left (value (next_part t.rows t.members level) ∷ call_rest none t alignments kept around level (place + size_of t (next_part t.rows t.members level))) place
    unfolding call_rest
    part_left = rw (left_next ready level place g.stands.0 more (levels_of none kept around)) at g.work

    around_part : Chain t alignments top (level ∷ levels_of none kept around) (place + size_of t (next_part t.rows t.members level))
    around_part = within (paused ready level place g.stands.0 more) g.stands.1

    part_below : next_part t.rows t.members level < level.row
    part_below = (next ready level place g.stands.0 more).below

    going_into : Opens t Left → around < 8 → has_parts t.rows (next_part t.rows t.members level) ≡ true
        → Going none t alignments top Left (set kept around level) (around + 1) (start_of (next_part t.rows t.members level) place) false place
    unfolding call_rest
    going_into into room parts =
        let part = next_part t.rows t.members level in
        let used = (part_ready ready level place g.stands.0 more).in_use in
        let size = start_size t part ready.sound used parts place in
        let counted : around + 1 ≡ suc around = omega arith in
        let pushed : levels_of none (set kept around level) (around + 1) ≡ level ∷ levels_of none kept around = rw counted (levels_pushed none kept around level (omega (arith, room, g.holds))) in
        record {
          room = omega (arith, room);
          holds = length-set kept around level ∙ g.holds;
          stands = (record { inside = omega (arith, part_below, g.stands.0.inside); parts = parts; done = omega arith; from = omega arith; ends = rw (← size) refl }, rw pushed around_part);
          work = rw pushed (into part (left_around t alignments (level ∷ levels_of none kept around) (place + size_of t part)) place parts used part_left);
        }

    going_called : (Left' : List Item → (place : ℕ) → Type 0) → Left' (call_rest none t alignments kept around level (place + size_of t (next_part t.rows t.members level))) (place + size_of t (next_part t.rows t.members level))
        → Going none t alignments top Left' kept around level true (place + size_of t (next_part t.rows t.members level))
    unfolding call_rest
    going_called Left' w = record { room = g.room; holds = g.holds; stands = around_part; work = w }

  -- ---- one that is

  module _ (g : Going none t alignments top Left kept around level false place) (all : level.done ≡ b_at t level.row) where
    nothing_left : Left (left_around t alignments (levels_of none kept around) place) place
    unfolding items_of
    nothing_left = let n = all_done ready level place g.stands.0 all in rw (n.0, ← n.1) at g.work

    going_out : 0 < around → Going none t alignments top Left kept (around - 1) (get_or kept (around - 1) none) true place
    unfolding levels_of
    going_out h =
        let counted : around ≡ suc (around - 1) = omega (arith, h) in
        let popped : levels_of none kept around ≡ get_or kept (around - 1) none ∷ levels_of none kept (around - 1) = ap (levels_of none kept) counted in
        let chain : Chain t alignments top (levels_of none kept around) place = rw (← (all_done ready level place g.stands.0 all).1) at g.stands.1 in
        record { room = omega (arith, g.room); holds = g.holds; stands = rw popped at chain; work = rw popped at nothing_left }

    going_end : around ≡ 0 → Left [] place
    unfolding levels_of left_around
    going_end e =
        let alone : levels_of none kept around ≡ [] = ap (levels_of none kept) e in
        rw alone at nothing_left

  -- ---- one whose fill is due

  module _ (g : Going none t alignments top Left kept around level true place) where
    fill_left : Left (gap (next_place t.rows t.members level alignments place - place) ∷ fill_rest none t alignments kept around level (next_place t.rows t.members level alignments place)) place
    unfolding left_around fill_rest
    fill_left = g.work

    going_filled : (Left' : List Item → (place : ℕ) → Type 0) → Left' (fill_rest none t alignments kept around level (next_place t.rows t.members level alignments place)) (next_place t.rows t.members level alignments place)
        → Going none t alignments top Left' kept around (advanced level) false (next_place t.rows t.members level alignments place)
    unfolding fill_rest
    going_filled Left' w =
        let p = chain_first g.stands in
        record {
          room = g.room;
          holds = g.holds;
          stands = (record { inside = p.inside; parts = p.parts; done = omega (arith, p.done); from = omega (arith, p.from, p.on); ends = p.ends }, chain_rest g.stands);
          work = w;
        }

-- ---- the turns: what the loop keeps, and that it falls

module _ {none : Level} {t : TypeTable} {sizes alignments : List ℕ} {depth top : ℕ} (ready : Ready t sizes alignments depth top)
    {Left : List Item → (place : ℕ) → Type 0} (bounded : Bounded t Left) {kept : List Level} {around : ℕ} {level : Level} {place : ℕ} where
  pub state_known : {due : Bool} → Going none t alignments top Left kept around level due place → Known top level place
  state_known {due = true} g =
      let p = chain_first g.stands in
      known_of ready level place p.inside p.parts (omega (arith, p.done)) p.from (omega (arith, bounded _ place g.work))
  state_known {due = false} g =
      let p = g.stands.0 in
      known_of ready level place p.inside p.parts p.done p.from (omega (arith, bounded _ place g.work))

  pub step_of : {due : Bool} → Going none t alignments top Left kept around level due place → {s next : Step} → s ≡ next_step t.rows t.members level alignments due place around → s ≡ next
      → Stepped t.rows t.members level alignments place around due next
  step_of {due} g e q = stepped_known t.rows t.members level alignments place around (state_known g) due e q

  pub turn_fill : {due : Bool} {next : ℕ} → Stepped t.rows t.members level alignments place around due (Fill next) → Going none t alignments top Left kept around level due place
      → (place ≤ next) × (next ≤ 65536) × Left (gap (next - place) ∷ fill_rest none t alignments kept around level next) place
  unfolding size_of_items
  turn_fill filling g =
      let on = (chain_first g.stands).on in
      (on, omega (arith, on, bounded _ place (fill_left ready g)), fill_left ready g)

  pub turn_filled : {due : Bool} {next : ℕ} → Stepped t.rows t.members level alignments place around due (Fill next) → Going none t alignments top Left kept around level due place
      → (Left' : List Item → (place : ℕ) → Type 0) → Left' (fill_rest none t alignments kept around level next) next
      → Going none t alignments top Left' kept around (advanced level) false next × (fuel t.rows (advanced level) false next around < fuel t.rows level due place around)
  turn_filled filling g Left' w =
      (going_filled ready g Left' w, omega (arith, (chain_first g.stands).on, phase_due t.rows level around, phase_small t.rows (advanced level) around (state_known g).few))

  pub turn_into : {due : Bool} {part : ℕ} → Stepped t.rows t.members level alignments place around due (Into part) → Going none t alignments top Left kept around level due place → Opens t Left
      → Going none t alignments top Left (set kept around level) (around + 1) (start_of part place) due place
      × (fuel t.rows (start_of part place) due place (around + 1) < fuel t.rows level due place around) × (around < 8)
  turn_into {part = part} (entering more room parts) g into =
      let below = part_below ready g more in
      let some = (few_parts ready part (omega (arith, below, g.stands.0.inside)) parts).1 in (
        going_into ready g more into room parts,
        omega (arith, below, phase_in t.rows level around more, phase_in t.rows (start_of part place) (around + 1) (λ e. omega (arith, e, some))),
        room,
      )

  pub turn_call : {due : Bool} {part : ℕ} → Stepped t.rows t.members level alignments place around due (Call part) → Going none t alignments top Left kept around level due place
      → Ready t sizes alignments depth part × (part < top) × Left (value part ∷ call_rest none t alignments kept around level (place + size_of t part)) place
  turn_call (calling more) g =
      (part_ready ready level place g.stands.0 more, omega (arith, part_below ready g more, g.stands.0.inside), part_left ready g more)

  pub turn_called : {due : Bool} {part : ℕ} → Stepped t.rows t.members level alignments place around due (Call part) → Going none t alignments top Left kept around level due place
      → {size : ℕ} → size ≡ get_or sizes part 0 → (Left' : List Item → (place : ℕ) → Type 0) → Bounded t Left'
      → Left' (call_rest none t alignments kept around level (place + size_of t part)) (place + size_of t part)
      → Going none t alignments top Left' kept around level true (place + size) × (fuel t.rows level true (place + size) around < fuel t.rows level due place around)
  turn_called {part = part} (calling more) g is Left' bounded' w =
      let used = (part_ready ready level place g.stands.0 more).in_use in
      let some = (sound_bounded t ready.sound part used).some in
      rw (← (row_size ready part used is)) (going_called ready g more Left' w, omega (arith, some, g.room, bounded' _ _ w, phase_due t.rows level around))

  pub turn_out : {due : Bool} → Stepped t.rows t.members level alignments place around due Out → Going none t alignments top Left kept around level due place
      → Going none t alignments top Left kept (around - 1) (get_or kept (around - 1) none) true place
      × (fuel t.rows (get_or kept (around - 1) none) true place (around - 1) < fuel t.rows level due place around) × (0 < around)
  turn_out (leaving all h) g = (going_out ready g all h, omega (arith, h, phase_due t.rows (get_or kept (around - 1) none) (around - 1), phase_out t.rows level around all), h)

  pub turn_done : {due : Bool} → Stepped t.rows t.members level alignments place around due Done → Going none t alignments top Left kept around level due place → Left [] place
  turn_done (ended all e) g = going_end ready g all e

-- ---- the start

pub going_start : {t : TypeTable} {sizes alignments : List ℕ} {depth top : ℕ} → Ready t sizes alignments depth top → (Left : List Item → (place : ℕ) → Type 0)
    → (none : Level) (kept : List Level) → length kept ≡ 8 → has_parts t.rows top ≡ true → {at : ℕ} → Left (items_of (fields_left t (start_of top at) at)) at
    → Going none t alignments top Left kept 0 (start_of top at) false at
unfolding levels_of left_around
going_start {t} {top = top} ready Left none kept h parts {at} w =
    let size = start_size t top ready.sound ready.in_use parts at in
    record {
      room = omega arith;
      holds = h;
      stands = (record { inside = omega arith; parts = parts; done = omega arith; from = omega arith; ends = rw (← size) refl }, last);
      work = rw (append-nil (items_of (fields_left t (start_of top at) at))) w;
    }
