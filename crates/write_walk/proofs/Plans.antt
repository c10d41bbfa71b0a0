-- A row whose value is flat is written by its plan.
-- Assumes nothing.
use Rattle.std.specs.Prelude.{Some}
use mathlib.Core.List.{List}
use mathlib.Core.Path.{refl}
use Prim.Native.Nat.{ℕ, ◌*◌}
use native.Mathlib.Omega.{arith}
use Rattle.rules.specs.Sizes.{size_of}
use Rattle.plans.specs.Plans.{width_layout, part_fields, plan_in, size_in, PlanAsks}
use Rattle.layout.specs.declared.laid.Laid.{Laid}
use Rattle.layout.specs.Ready.{Ready, table_in}
use Rattle.plans.proofs.Rows as Shared
use Rattle.write_leaves.specs.declared.cursor.Cursor.{Cursor}
use Rattle.write_leaves.specs.Putting.{Wrote, Ask}
use Rattle.write_leaves.specs.Planning.{width_as, PutByPlan}
use Rattle.write_leaves.proofs.Writing.{writing, run_fields}
use Rattle.write_walk.specs.Walking.{ValuePut, ElementsPut}
use Rattle.write_walk.proofs.Rows.{rows_written}

pub any_base : {values : List ℕ} {need at base : ℕ} {c : Cursor} → Ask values need at base c → Ask values need at 0 c
any_base a = record { inside = omega (arith, a.inside); free = a.free; held = a.held; left = a.left }

-- Of what is at hand: what is asked for before, and what is put after.
module _ (l : Laid) {depth row : ℕ} (ready : Ready (table_in l) l.sizes.now l.alignments.now depth row) where
  pub planned_ask : {values : List ℕ} {at base : ℕ} {c : Cursor} (count : ℕ) → Ask values (count * size_of (table_in l) row) at base c
      → PlanAsks l row (λ need. Ask values need at 0 c) count
  planned_ask {values} {at} {c = c} count ask = Shared.row_asks l ready (λ need. Ask values need at 0 c) count (any_base ask)

  pub alone_ask : {values : List ℕ} {at base : ℕ} {c : Cursor} → Ask values (size_of (table_in l) row) at base c → PlanAsks l row (λ need. Ask values need at 0 c) 1
  alone_ask {values} {at} {c = c} ask = Shared.alone_asks l ready (λ need. Ask values need at 0 c) (any_base ask)

  module _ (values out out' : List ℕ) (base at : ℕ) (c : Cursor) (r : Wrote) where
    pub planned_done : (count : ℕ) → Ask values (count * size_of (table_in l) row) at base c
        → PutByPlan (plan_in l row) values out out' (size_in l row) count at c (Some r) → ElementsPut (table_in l) values out out' base depth at c row count r
    planned_done count ask put =
        Shared.plan_done ready put.1 refl (rows_written (table_in l) depth ready.sound) (writing values base) (run_fields width_layout width_as (part_fields put.0)) count ask (put.2 base)

    pub alone_done : Ask values (size_of (table_in l) row) at base c
        → PutByPlan (plan_in l row) values out out' (size_in l row) 1 at c (Some r) → ValuePut (table_in l) values out out' base depth at c row r
    alone_done ask put =
        Shared.alone_done ready put.1 refl (rows_written (table_in l) depth ready.sound) (writing values base) (run_fields width_layout width_as (part_fields put.0)) ask (put.2 base)
