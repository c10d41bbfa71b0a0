-- Runs of numbers: the elements of a vector or of an array, where they are numbers.
-- Assumes nothing.
use Rattle.std.specs.Prelude.{Ok}
use mathlib.Core.Bool.{true}
use mathlib.Core.List.{List}
use mathlib.Core.Path.{◌≡◌, sym, ◌∙◌}
use Prim.Native.Nat.{ℕ, ◌+◌, ◌*◌, ◌≤◌, ◌<◌}
use native.Mathlib.Nat.{le-mul_of_pos_right}
use native.Mathlib.Omega.{arith}
use lib.ListN.{length}
use Rattle.rules.specs.TypeTable.{TypeTable, kind_at, a_at}
use Rattle.rules.specs.Sizes.{size_of}
use Rattle.rules.specs.Walk as W
use Rattle.rules.specs.Sound.{width_allowed}
use Rattle.layout.specs.Ready.{Ready}
use Rattle.layout.proofs.ByKind.{number_width, size_number, width_positive}
use Rattle.walk_leaves.specs.declared.cursor.Cursor.{Cursor}
use Rattle.walk_leaves.specs.Doing.{message, Ask}
use Rattle.walk_leaves.specs.Parts.{numbers_at, DidValues}
use Rattle.walk.specs.Walking.{ElementsDid}
use Rattle.walk_leaves.proofs.Steps.{did_more}
use Rattle.walk.proofs.ByKind.{decode_number}

module _ {t : TypeTable} {sizes alignments : List ℕ} {depth row : ℕ} (ready : Ready t sizes alignments depth row) {width : ℕ} (q : kind_at t row ≡ 2)
    (f : width ≡ a_at t row) where
  allowed : width_allowed width ≡ true
  allowed = rw f (number_width t row ready.sound ready.in_use q)

  wide : size_of t row ≡ width
  wide = size_number t row q ∙ sym f

  pub numbers_ask : {total handles at : ℕ} {c : Cursor} (count : ℕ) → Ask total handles (count * size_of t row) at c
      → (width_allowed width ≡ true) × (at + count * width ≤ 65536) × (c.values < 4294967296)
  numbers_ask {total} {handles} {at} {c} count ask =
      let a : Ask total handles (count * width) at c = rw wide at ask in
      (allowed, omega (arith, a.inside, a.short), omega (arith, a.small))

  pub numbers_done : (bytes : List ℕ) (handles at count : ℕ) (v v' o : List ℕ) (c d : Cursor) → Ask (length bytes) handles (count * size_of t row) at c
      → DidValues bytes v v' count at c (Ok d) (numbers_at width count) → ElementsDid t bytes handles depth v v' o o at c row count (Ok d)
  unfolding numbers_at
  numbers_done bytes handles at count v v' o c d a did =
      let m = message t bytes handles in
      rw (decode_number m (W.levels m depth) row q, wide, ← f)
      (did_more (count * width) (le-mul_of_pos_right count (width_positive width allowed)) (did t o handles a.free a.held))
