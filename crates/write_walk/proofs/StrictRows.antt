-- Strict enums and strict bits, one or a run of them, are written as the rules write their row.
-- Assumes nothing.
use mathlib.Core.Bool.{true, ◌||◌}
use mathlib.Core.List.{List}
use mathlib.Core.Path.{◌≡◌}
use Prim.Native.Nat.{ℕ, ◌*◌}
use native.Mathlib.Omega.{arith}
use lib.Dec.{eqb}
use Rattle.rules.specs.TypeTable.{TypeTable, kind_at, a_at}
use Rattle.rules.specs.Sizes.{size_of}
use Rattle.rules.specs.Encode as E
use Rattle.rules.specs.Writer as R
use Rattle.layout.specs.Ready.{Ready}
use Rattle.strict.specs.Strict.{StrictRow}
use Rattle.strict.proofs.Rows.{strict_row, strict_size}
use Rattle.write_leaves.specs.declared.cursor.Cursor.{Cursor}
use Rattle.write_leaves.specs.Putting.{Wrote, Ask}
use Rattle.write_leaves.specs.InLine.{strict_as}
use Rattle.write_leaves.specs.Planning.{PutAsked}
use Rattle.write_leaves.proofs.Strict as Leaves
use Rattle.write_walk.specs.Walking.{ValuePut, ElementsPut}
use Rattle.write_walk.proofs.ByKind.{encode_strict}
use Rattle.write_walk.proofs.Plans.{any_base}

module _ {t : TypeTable} {sizes alignments : List ℕ} {depth row : ℕ} (ready : Ready t sizes alignments depth row) {k : ℕ}
    (e : k ≡ kind_at t row) (q : (eqb k 11 || eqb k 12) ≡ true) where
  pub strict_run_ask : {values : List ℕ} {at base : ℕ} {c : Cursor} (count : ℕ) → Ask values (count * size_of t row) at base c
      → StrictRow t.rows t.entries row × Ask values (count * a_at t row) at 0 c
  strict_run_ask count ask = (strict_row ready e q, rw (strict_size t row e q) at (any_base ask))

  pub strict_ask : {values : List ℕ} {at base : ℕ} {c : Cursor} → Ask values (size_of t row) at base c
      → StrictRow t.rows t.entries row × Ask values (1 * a_at t row) at 0 c
  strict_ask {base = base} ask = let once : 1 * size_of t row ≡ size_of t row = omega arith in strict_run_ask {base = base} 1 (rw once ask)

  module _ (values out out' : List ℕ) (base at : ℕ) (c : Cursor) (r : Wrote) where
    pub strict_run_done : (count : ℕ) → Ask values (count * size_of t row) at base c
        → PutAsked values out out' (count * a_at t row) at c r (E.elements (λ i. strict_as t.rows t.entries row) 0 count)
        → ElementsPut t values out out' base depth at c row count r
    strict_run_done count ask put =
        rw (encode_strict t (R.levels t depth) row e q, strict_size t row e q) (put base (rw (strict_size t row e q) at ask))

    pub strict_done : Ask values (size_of t row) at base c
        → PutAsked values out out' (1 * a_at t row) at c r (E.elements (λ i. strict_as t.rows t.entries row) 0 1)
        → ValuePut t values out out' base depth at c row r
    strict_done ask put =
        rw (encode_strict t (R.levels t depth) row e q, strict_size t row e q)
        (Leaves.strict_alone t.rows t.entries values row put base (rw (strict_size t row e q) at ask))
