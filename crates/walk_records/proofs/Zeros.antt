-- Zero bytes at a place: words that are 0.
-- Assumes nothing.
use mathlib.Core.Path.{◌≡◌, refl, sym, ap, ◌∙◌}
use mathlib.Core.Bool.{true, false}
use mathlib.Core.List.{List, [], ◌∷◌}
use Prim.Native.Nat.{ℕ, zero, suc, ◌+◌, ◌≤◌}
use native.Mathlib.Omega.{arith}
use borrow.Author.Tests.{eq-eqb, ne_eqb}
use lib.Dec.{eqb}
use lib.ListN.{length}
use Rattle.rules.specs.Bytes.{little_endian, part, word, leading_zeros}
use Rattle.rules.proofs.Bytes.{part_length}

-- A word is zero where its bytes are.
zeros_of : (l : List ℕ) → little_endian l ≡ 0 → leading_zeros l ≡ length l
unfolding little_endian leading_zeros
zeros_of [] e = refl
zeros_of (zero ∷ l) e = ap suc (zeros_of l (omega arith))
zeros_of (suc byte ∷ l) e = absurd (omega arith)

of_zeros : (l : List ℕ) → leading_zeros l ≡ length l → little_endian l ≡ 0
unfolding little_endian leading_zeros
of_zeros [] e = refl
of_zeros (zero ∷ l) e = omega (arith, of_zeros l (omega arith))
of_zeros (suc byte ∷ l) e = absurd (omega arith)

module _ (bytes : List ℕ) (at width : ℕ) (inside : at + width ≤ length bytes) where
  pub zero_word : word bytes at width ≡ 0 → eqb (leading_zeros (part bytes at width)) width ≡ true
  unfolding word
  zero_word e = eq-eqb _ width (zeros_of _ e ∙ part_length bytes at width inside)

  pub nonzero_word : (word bytes at width ≡ 0 → ⊥) → eqb (leading_zeros (part bytes at width)) width ≡ false
  unfolding word
  nonzero_word e = ne_eqb _ width (λ z. e (of_zeros _ (z ∙ sym (part_length bytes at width inside))))
