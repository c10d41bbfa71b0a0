-- Laws of the zero bytes that a part begins with.
-- Assumes nothing.
use Rattle.std.proofs.Common.{◌≡◌, ℕ, zero, suc, ◌≤◌, List, [], ◌∷◌, length, refl, one-add, arith, length-drop, length-take}
use Rattle.std.proofs.Math.Dec.{eqb-suc-zero}
use Rattle.std.specs.List.{prefix_len}
use Rattle.std.specs.Prelude.{nat_eq}
use Rattle.rules.specs.Bytes.{part, leading_zeros}
use Rattle.words.proofs.Loads.{part_past}

-- no more are counted than there are
zeros_within : (l : List ℕ) → leading_zeros l ≤ length l
unfolding leading_zeros
zeros_within [] = omega arith
zeros_within (zero ∷ l) = omega (arith, zeros_within l)
zeros_within (suc byte ∷ l) = omega arith

pub zeros_at_most : (bytes : List ℕ) (at count : ℕ) → leading_zeros (part bytes at count) ≤ count
unfolding part
zeros_at_most bytes at count = omega (arith, zeros_within (part bytes at count), simp (length-take, length-drop) at (zeros_within (part bytes at count)))

-- counted as the bytes that pass the test
pub zeros_counted : (l : List ℕ) → prefix_len (λ byte. nat_eq byte 0) l ≡ leading_zeros l
unfolding leading_zeros
zeros_counted [] = refl
zeros_counted (zero ∷ l) = rw (zeros_counted l, one-add)
zeros_counted (suc byte ∷ l) = rw (eqb-suc-zero byte)

pub zeros_past : (bytes : List ℕ) (at count : ℕ) → length bytes ≤ at → 0 ≡ leading_zeros (part bytes at count)
unfolding leading_zeros
zeros_past bytes at count h = rw (part_past bytes at count h)
