-- Keys in a row, as ordinals or entries: those that rise from each to the next rise from any to any later one.
-- Assumes nothing.
use mathlib.Core.Bool.{Bool, true, false}
use mathlib.Core.Path.{◌≡◌, refl}
use Prim.Native.Nat.{ℕ, zero, suc, ◌+◌, ◌-◌, ◌≤◌, ◌<◌}
use native.Mathlib.Omega.{arith}
use borrow.Author.Tests.{eqb-true, eqb-false}
use lib.Dec.{eqb}

module _ (key : ℕ → ℕ) where
  -- So many keys from `first` on: the first is at least `least`, and each later one is above the one before it.
  pub data Stepwise : (first count least : ℕ) → Type 0 where
    none : {first least : ℕ} → Stepwise first 0 least
    more : {first count least : ℕ} → least ≤ key first → Stepwise (suc first) count (suc (key first)) → Stepwise first (suc count) least

  at_least : {first count least : ℕ} → Stepwise first count least → (i : ℕ) → i < count → least ≤ key (first + i)
  at_least none i h = absurd (omega arith)
  at_least {first} (more l s) zero h = let z : first + 0 ≡ first = omega arith in rw z l
  at_least {first} (more l s) (suc i) h =
      let z : first + suc i ≡ suc first + i = omega arith in
      rw z (omega (arith, at_least s i (omega arith)))

  pub pairwise : {first count least : ℕ} → Stepwise first count least → (i j : ℕ) → i < j → j < count → key (first + i) < key (first + j)
  pairwise none i j h k = absurd (omega arith)
  pairwise (more l s) i zero h k = absurd (omega arith)
  pairwise {first} (more l s) zero (suc j) h k =
      let z : first + 0 ≡ first = omega arith in
      let y : first + suc j ≡ suc first + j = omega arith in
      rw (z, y) (at_least s j (omega arith))
  pairwise {first} (more l s) (suc i) (suc j) h k =
      let z : first + suc i ≡ suc first + i = omega arith in
      let y : first + suc j ≡ suc first + j = omega arith in
      rw (z, y) (pairwise s i j (omega arith) (omega arith))

  -- The same by the places that the keys stand at.
  module _ (first count : ℕ) (rising : (i j : ℕ) → i < j → j < count → key (first + i) < key (first + j)) where
    pub rises : (j k : ℕ) → first ≤ j → j < k → k < first + count → key j < key k
    rises j k h i l =
        let a : first + (j - first) ≡ j = omega arith in
        let b : first + (k - first) ≡ k = omega arith in
        rw (a, b) at (rising (j - first) (k - first) (omega arith) (omega arith))

    pub not_falls : (j k : ℕ) → first ≤ j → j ≤ k → k < first + count → key j ≤ key k
    not_falls j k h i l = go (eqb j k) refl
      where
        go : (b : Bool) → eqb j k ≡ b → key j ≤ key k
        go true q = let e : j ≡ k = eqb-true j k q in rw e (omega arith)
        go false q =
            let n : (j ≡ k → ⊥) = eqb-false j k q in
            omega (arith, rises j k h (omega (arith, n)) l)
