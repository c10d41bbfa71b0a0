-- All the bits of numbers.
-- Assumes nothing.
use Rattle.std.specs.Prelude.{ℕ, List, bit_or, fold}

abbrev pub all_bits : List ℕ → ℕ
all_bits numbers = fold bit_or 0 numbers
