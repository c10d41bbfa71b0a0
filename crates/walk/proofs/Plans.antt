-- A row whose value is flat is walked by its plan.
-- Assumes nothing.
use Rattle.std.specs.Prelude.{Some}
use mathlib.Core.List.{List}
use mathlib.Core.Path.{refl}
use Prim.Native.Nat.{ℕ, ◌*◌}
use native.Mathlib.Omega.{arith}
use lib.ListN.{length}
use Rattle.rules.specs.Sizes.{size_of}
use Rattle.plans.specs.Plans.{width_layout, part_fields, plan_in, size_in, PlanAsks}
use Rattle.layout.specs.declared.laid.Laid.{Laid}
use Rattle.layout.specs.Ready.{Ready, table_in}
use Rattle.plans.proofs.Rows as Shared
use Rattle.walk_leaves.specs.declared.cursor.Cursor.{Cursor}
use Rattle.walk_leaves.specs.Doing.{Walked}
use Rattle.walk_leaves.specs.Doing.{message, Ask}
use Rattle.walk_leaves.specs.Planning.{width_at, DidByPlan}
use Rattle.walk_leaves.proofs.Reading.{reading, run_fields}
use Rattle.walk.specs.Walking.{ValueDid, ElementsDid}
use Rattle.walk.proofs.Rows.{rows_walked}

pub any_handles : {total handles need at : ℕ} {c : Cursor} → Ask total handles need at c → Ask total 64 need at c
any_handles a = record { short = a.short; few = omega arith; inside = a.inside; free = a.free; held = omega (arith, a.held, a.few); small = a.small }

-- Of what is at hand: what is asked for before, and what is given after.
module _ (l : Laid) {depth row : ℕ} (ready : Ready (table_in l) l.sizes.now l.alignments.now depth row) where
  pub planned_ask : {total handles at : ℕ} {c : Cursor} (count : ℕ) → Ask total handles (count * size_of (table_in l) row) at c
      → PlanAsks l row (λ need. Ask total 64 need at c) count
  planned_ask {total} {at = at} {c} count ask = Shared.row_asks l ready (λ need. Ask total 64 need at c) count (any_handles ask)

  pub alone_ask : {total handles at : ℕ} {c : Cursor} → Ask total handles (size_of (table_in l) row) at c → PlanAsks l row (λ need. Ask total 64 need at c) 1
  alone_ask {total} {at = at} {c} ask = Shared.alone_asks l ready (λ need. Ask total 64 need at c) (any_handles ask)

  module _ (bytes : List ℕ) (handles at : ℕ) (v v' o : List ℕ) (c : Cursor) (r : Walked) where
    pub planned_done : (count : ℕ) → Ask (length bytes) handles (count * size_of (table_in l) row) at c
        → DidByPlan (plan_in l row) bytes v v' (size_in l row) count at c (Some r) → ElementsDid (table_in l) bytes handles depth v v' o o at c row count r
    planned_done count ask done =
        let t = table_in l in
        let here = message t bytes handles in
        Shared.plan_done ready done.1 refl (rows_walked t bytes handles depth ready.sound) (reading here) (run_fields here width_layout (width_at here) (part_fields done.0)) count ask (done.2 t o handles)

    pub alone_done : Ask (length bytes) handles (size_of (table_in l) row) at c
        → DidByPlan (plan_in l row) bytes v v' (size_in l row) 1 at c (Some r) → ValueDid (table_in l) bytes handles depth v v' o o at c row r
    alone_done ask done =
        let t = table_in l in
        let here = message t bytes handles in
        Shared.alone_done ready done.1 refl (rows_walked t bytes handles depth ready.sound) (reading here) (run_fields here width_layout (width_at here) (part_fields done.0)) ask (done.2 t o handles)
