-- Bools all at once: where none of them is above 1, a run of them is a run of numbers of one byte.
-- Assumes nothing.
use Rattle.std.specs.Prelude.{Ok}
use mathlib.Core.List.{List}
use mathlib.Core.Path.{◌≡◌, refl}
use Prim.Native.Nat.{ℕ, zero, suc, ◌+◌, ◌-◌, ◌≤◌, ◌<◌}
use native.Mathlib.Nat.{add-zero}
use native.Mathlib.Omega.{arith}
use borrow.Author.Tests.{le-leb}
use lib.ListN.{length, get_or, take, drop}
use Rattle.rules.specs.Decode as D
use Rattle.rules.specs.Decode.{Message}
use Rattle.rules.specs.Envelope.{decode_word}
use Rattle.rules.specs.Records.{read_number}
use Rattle.words.specs.Bits.{all_bits}
use Rattle.words.proofs.Bits.{part_none_above}
use Rattle.words.proofs.Loads.{word_byte}
use Rattle.plans.specs.declared.Width.{Width}
use Rattle.plans.specs.declared.Width.TheVariants.{Boolean}
use Rattle.plans.specs.Plans.{width_row}
use Rattle.walk_leaves.specs.declared.cursor.Cursor.{Cursor}
use Rattle.walk_leaves.specs.Doing.{message}
use Rattle.walk_leaves.specs.Parts.{bool_at, numbers_at, DidValues}
use Rattle.walk_leaves.proofs.OneWidth.{run_at}
use Rattle.walk_leaves.proofs.Results.{then_same}

module _ (m : Message) where
  -- A bool that is not above 1 is a number of one byte, and so is a run of them.
  bool_number : (at n u : ℕ) → get_or m.bytes at 0 ≤ 1 → bool_at m at n u ≡ decode_word m 1 at n u
  unfolding bool_at decode_word D.record_then read_number
  bool_number at n u h = simp (word_byte, le-leb _ _ h)

  bools_numbers : (index count at n u : ℕ) → ((i : ℕ) → i < count → get_or m.bytes (at + i) 0 ≤ 1)
      → D.elements 1 (λ i. bool_at m) index count at n u ≡ D.elements 1 (λ i. decode_word m 1) index count at n u
  unfolding D.elements D.sequence
  bools_numbers index zero at n u low = refl
  bools_numbers index (suc count) at n u low =
      rw (bool_number at n u first) (then_same (decode_word m 1 at n u) (λ n₁ u₁. bools_numbers (suc index) count (at + 1) n₁ u₁ rest))
    where
      first : get_or m.bytes at 0 ≤ 1
      first = rw (add-zero at) at (low 0 (omega arith))

      rest : (i : ℕ) → i < count → get_or m.bytes (at + 1 + i) 0 ≤ 1
      rest i h = let e : at + suc i ≡ at + 1 + i = omega arith in rw e at (low (suc i) (omega arith))

-- A part of the bytes was lent, none of which is above 1.
pub bools_run : (bytes : List ℕ) (all at : ℕ) {v v' : List ℕ} {c d : Cursor} {width : Width} {bits : ℕ} → width ≡ Boolean → at + all ≤ length bytes
    → bits ≡ all_bits (take (at + all - at) (drop at bytes)) → bits ≤ 1
    → DidValues bytes v v' all at c (Ok d) (numbers_at 1 all) → DidValues bytes v v' all at c (Ok d) (run_at (width_row width) all)
unfolding numbers_at
bools_run bytes all at {c = c} e inside is low did t objects handles free held =
    rw (e, bools_numbers (message t bytes handles) 0 all at c.next c.handles each) (did t objects handles free held)
  where
    each : (i : ℕ) → i < all → get_or bytes (at + i) 0 ≤ 1
    each i h = omega (arith, is, part_none_above bytes at (at + all) i (omega arith) inside)
