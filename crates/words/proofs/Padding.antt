-- The length of an object with its fill, as long as objects are.
-- Assumes nothing.
use Rattle.std.proofs.Common.{◌≡◌, ◌+◌, ◌-◌, ◌*◌, ◌/◌, ◌≤◌, ℕ, ◌%◌, ◌^◌, ◌<◌, arith}
use Rattle.std.proofs.Math.Nat.{div-eq_of_lt-le}
use Rattle.rules.specs.Bytes.{round_up, padded}

pub padded_fits : {n r : ℕ} → n < 281474976710656 → r ≡ padded n % 2 ^ 64 → r ≡ padded n
unfolding padded round_up
padded_fits small is = omega arith

-- the next multiple, by what it is between
pub next_multiple : (n alignment : ℕ) {r : ℕ} → n ≤ r → r < n + alignment → r % alignment ≡ 0 → r ≡ round_up n alignment
unfolding round_up
next_multiple n alignment {r} low high multiple =
    let whole : r / alignment * alignment ≡ r = grind arith in
    let same : (n + (alignment - 1)) / alignment ≡ r / alignment = div-eq_of_lt-le alignment (omega arith) (grind arith) in
    rw (same, whole)
