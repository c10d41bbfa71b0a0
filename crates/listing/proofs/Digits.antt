-- Laws of decimal digits: what `decimal` comes to below ten and from ten on, and how many digits there are.
-- Assumes nothing.
use mathlib.Core.Path.{◌≡◌, refl}
use mathlib.Core.Bool.{Bool, true, false}
use mathlib.Core.List.{[], ◌∷◌, ◌++◌}
use Prim.Native.Nat.{ℕ, zero, suc, ◌+◌, ◌*◌, ◌/◌, ◌%◌, ◌^◌, ◌≤◌, ◌<◌}
use native.Mathlib.Nat.{pow-suc}
use native.Mathlib.Omega.{arith}
use borrow.Author.Tests.{lt-ltb, le-ltb, ltb-true, ltb-false}
use lib.Dec.{ltb}
use lib.ListN.{length, length-append}
use Rattle.listing.specs.Lines.{digits_within, decimal}

digits_small : (most n : ℕ) → n < 10 → digits_within (suc most) n ≡ (48 + n) ∷ []
unfolding digits_within
digits_small most n small = simp (lt-ltb n 10 small)

digits_step : (most n : ℕ) → 10 ≤ n → digits_within (suc most) n ≡ digits_within most (n / 10) ++ ((48 + n % 10) ∷ [])
unfolding digits_within
digits_step most n large = simp (le-ltb n 10 large)

-- Any number over the value is enough.
digits_enough : (most more n : ℕ) → n < most → n < more → digits_within most n ≡ digits_within more n
digits_enough zero more n h k = absurd (omega arith)
digits_enough (suc most) zero n h k = absurd (omega arith)
digits_enough (suc most) (suc more) n h k = go (ltb n 10) refl (digits_enough most more (n / 10))
  where
    go : (b : Bool) → ltb n 10 ≡ b
        → (n / 10 < most → n / 10 < more → digits_within most (n / 10) ≡ digits_within more (n / 10))
        → digits_within (suc most) n ≡ digits_within (suc more) n
    go true test rest = let s = ltb-true n 10 test in rw (digits_small most n s, digits_small more n s)
    go false test rest =
        let l = ltb-false n 10 test in
        rw (digits_step most n l, digits_step more n l, rest (omega arith) (omega arith))

pub decimal_small : (n : ℕ) → n < 10 → decimal n ≡ (48 + n) ∷ []
unfolding decimal
decimal_small n s = digits_small n n s

pub decimal_step : (n : ℕ) → 10 ≤ n → decimal n ≡ decimal (n / 10) ++ ((48 + n % 10) ∷ [])
unfolding decimal
decimal_step n l = rw (digits_step n n l, digits_enough n (suc (n / 10)) (n / 10) (omega arith) (omega arith))

few_step : (most k n : ℕ) → 10 ≤ n → n < 10 ^ suc k → ((k : ℕ) → n / 10 < 10 ^ suc k → length (digits_within most (n / 10)) ≤ suc k)
    → length (digits_within (suc most) n) ≤ suc k
few_step most zero n l h rest = absurd (omega arith)
few_step most (suc k) n l h rest =
    let power : 10 ^ suc (suc k) ≡ 10 ^ suc k * 10 = pow-suc 10 (suc k) in
    let fewer = rest k (omega arith) in
    rw (digits_step most n l, length-append) (omega arith)

digits_few : (most k n : ℕ) → n < 10 ^ suc k → length (digits_within most n) ≤ suc k
unfolding digits_within
digits_few zero k n h = omega arith
digits_few (suc most) k n h = go (ltb n 10) refl (λ k. digits_few most k (n / 10))
  where
    go : (b : Bool) → ltb n 10 ≡ b → ((k : ℕ) → n / 10 < 10 ^ suc k → length (digits_within most (n / 10)) ≤ suc k)
        → length (digits_within (suc most) n) ≤ suc k
    go true test rest = rw (digits_small most n (ltb-true n 10 test)) (omega arith)
    go false test rest = few_step most k n (ltb-false n 10 test) h rest

-- A number of 64 bits has at most twenty digits.
pub decimal_short : (n : ℕ) → n < 18446744073709551616 → length (decimal n) ≤ 20
unfolding decimal
decimal_short n h = digits_few (suc n) 19 n (omega arith)
