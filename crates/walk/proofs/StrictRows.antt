-- Strict enums and strict bits, one or a run of them, are walked as the rules walk their row.
-- Assumes nothing.
use mathlib.Core.Bool.{true, ◌||◌}
use mathlib.Core.List.{List}
use mathlib.Core.Path.{◌≡◌}
use Prim.Native.Nat.{ℕ, ◌*◌}
use native.Mathlib.Omega.{arith}
use lib.Dec.{eqb}
use lib.ListN.{length}
use Rattle.rules.specs.TypeTable.{TypeTable, kind_at, a_at}
use Rattle.rules.specs.Sizes.{size_of}
use Rattle.rules.specs.Decode as D
use Rattle.rules.specs.Walk as W
use Rattle.layout.specs.Ready.{Ready}
use Rattle.strict.specs.Strict.{StrictRow}
use Rattle.strict.proofs.Rows.{strict_row, strict_size}
use Rattle.walk_leaves.specs.declared.cursor.Cursor.{Cursor}
use Rattle.walk_leaves.specs.Doing.{Walked}
use Rattle.walk_leaves.specs.Doing.{message, Ask}
use Rattle.walk_leaves.specs.Parts.{strict_at}
use Rattle.walk_leaves.specs.Planning.{DidAsked}
use Rattle.walk_leaves.proofs.Strict as Leaves
use Rattle.walk.specs.Walking.{ValueDid, ElementsDid}
use Rattle.walk.proofs.ByKind.{decode_strict}
use Rattle.walk.proofs.Plans.{any_handles}

module _ {t : TypeTable} {sizes alignments : List ℕ} {depth row : ℕ} (ready : Ready t sizes alignments depth row) {k : ℕ}
    (e : k ≡ kind_at t row) (q : (eqb k 11 || eqb k 12) ≡ true) where
  pub strict_run_ask : {total handles at : ℕ} {c : Cursor} (count : ℕ) → Ask total handles (count * size_of t row) at c
      → StrictRow t.rows t.entries row × Ask total 64 (count * a_at t row) at c
  strict_run_ask count ask = (strict_row ready e q, rw (strict_size t row e q) at (any_handles ask))

  pub strict_ask : {total handles at : ℕ} {c : Cursor} → Ask total handles (size_of t row) at c
      → StrictRow t.rows t.entries row × Ask total 64 (1 * a_at t row) at c
  strict_ask {handles = handles} ask = let once : 1 * size_of t row ≡ size_of t row = omega arith in strict_run_ask {handles = handles} 1 (rw once ask)

  module _ (bytes : List ℕ) (handles at : ℕ) (v v' o : List ℕ) (c : Cursor) (r : Walked) where
    pub strict_run_done : (count : ℕ) → Ask (length bytes) handles (count * size_of t row) at c
        → DidAsked bytes v v' (count * a_at t row) at c r (λ m. D.elements (a_at t row) (λ i. strict_at t.rows t.entries row m) 0 count)
        → ElementsDid t bytes handles depth v v' o o at c row count r
    strict_run_done count ask did =
        let m = message t bytes handles in
        rw (decode_strict m (W.levels m depth) row e q, strict_size t row e q) (did t o handles (rw (strict_size t row e q) at ask))

    pub strict_done : Ask (length bytes) handles (size_of t row) at c
        → DidAsked bytes v v' (1 * a_at t row) at c r (λ m. D.elements (a_at t row) (λ i. strict_at t.rows t.entries row m) 0 1)
        → ValueDid t bytes handles depth v v' o o at c row r
    strict_done ask did =
        let m = message t bytes handles in
        rw (decode_strict m (W.levels m depth) row e q, strict_size t row e q)
        (Leaves.strict_alone t.rows t.entries bytes row did t o handles (rw (strict_size t row e q) at ask))
