-- What a sound type table says of a row in use, and of the sizes that are kept of it.
-- Assumes nothing.
use mathlib.Core.List.{List}
use mathlib.Core.Path.{◌≡◌, sym, ◌∙◌}
use Prim.Native.Nat.{ℕ, ◌*◌, ◌≤◌, ◌<◌}
use native.Mathlib.Nat.{mul-le-mul}
use native.Mathlib.Omega.{arith}
use lib.ListN.{get_or}
use Rattle.rules.specs.TypeTable.{TypeTable, row_count}
use Rattle.rules.specs.Sizes.{size_of}
use Rattle.layout.proofs.Rows.{sound_rows, sound_size}
use Rattle.layout.proofs.Keeping.{few_rows, kept_size, sound_bounded}
use Rattle.layout.specs.Ready.{Ready}

module _ {t : TypeTable} {sizes alignments : List ℕ} {depth row : ℕ} (ready : Ready t sizes alignments depth row) where
  -- the row itself,
  pub row_few : row < 256
  row_few = few_rows t ready.sound row ready.in_use

  -- and any row in use.
  pub row_in_use : (r : ℕ) → r < row_count t → r < 256
  row_in_use r h = few_rows t ready.sound r h

  pub row_size : (r : ℕ) {size : ℕ} → r < row_count t → size ≡ get_or sizes r 0 → size_of t r ≡ size
  row_size r h e = sym (e ∙ rw ready.sizes_kept (kept_size t ready.sound r h))

  pub size_small : (r : ℕ) {size : ℕ} → r < row_count t → size ≡ get_or sizes r 0 → size ≤ 65528
  size_small r h e = omega (arith, row_size r h e, sound_size t r (sound_rows t ready.sound r h))

  pub ready_at : (depth' r : ℕ) → depth' ≤ depth → r < row_count t → Ready t sizes alignments depth' r
  ready_at depth' r l h =
      record { sound = ready.sound; edition = ready.edition; sizes_kept = ready.sizes_kept; alignments_kept = ready.alignments_kept; depth_left = omega (arith, ready.depth_left); in_use = h }

  -- No more elements than a message has bytes.
  pub few_elements : (r : ℕ) → r < row_count t → (count : ℕ) → count * size_of t r ≤ 65536 → count ≤ 65536
  few_elements r h count inside =
      let same : count ≤ count = omega arith in
      let least : count * 1 ≤ count * size_of t r = mul-le-mul same (sound_bounded t ready.sound r h).some in
      omega (arith, least)
