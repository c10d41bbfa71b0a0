-- None of the numbers is above all their bits.
-- Assumes nothing.
use Rattle.std.proofs.Common.{ℕ, zero, suc, ◌+◌, ◌-◌, ◌<◌, ◌≤◌, List, [], ◌∷◌, length, get_or, take, drop, ◌∙◌, arith, get_or-drop, get_or-take}
use Rattle.std.specs.Prelude.{bit_or, fold}
use lib.Bits.{or_add_and, and_le_l, and_le_r}
use Rattle.words.specs.Bits.{all_bits}

bits_left : (a b : ℕ) → a ≤ bit_or a b
bits_left a b = omega (arith, or_add_and a b, and_le_r a b)

bits_right : (a b : ℕ) → b ≤ bit_or a b
bits_right a b = omega (arith, or_add_and a b, and_le_l a b)

start_kept : (bits : ℕ) (numbers : List ℕ) → bits ≤ fold bit_or bits numbers
start_kept bits [] = omega arith
start_kept bits (n ∷ numbers) = omega (arith, bits_left bits n, start_kept (bit_or bits n) numbers)

pub none_above : (bits : ℕ) (numbers : List ℕ) (i : ℕ) → get_or numbers i 0 ≤ fold bit_or bits numbers
none_above bits [] i = omega arith
none_above bits (n ∷ numbers) zero = omega (arith, bits_right bits n, start_kept (bit_or bits n) numbers)
none_above bits (n ∷ numbers) (suc i) = none_above (bit_or bits n) numbers i

-- Of a part that was lent.
pub part_none_above : (numbers : List ℕ) (from end i : ℕ) → from + i < end → end ≤ length numbers → get_or numbers (from + i) 0 ≤ all_bits (take (end - from) (drop from numbers))
part_none_above numbers from end i h k =
    let same = get_or-take (end - from) (drop from numbers) i 0 (omega arith) ∙ get_or-drop from numbers i 0 in
    omega (arith, same, none_above 0 (take (end - from) (drop from numbers)) i)
