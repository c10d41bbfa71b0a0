-- What the functions for C and Rust store into `answer`.
-- Assumes nothing.
use Rattle.std.specs.Prelude.{List, [], ◌∷◌, ℕ, ◌+◌, ◌-◌, ◌*◌, ℤ, pos, negsuc}
use Rattle.rules.specs.Refusals.{Answer}
use Rattle.rules.specs.Bytes.{ones64}
use Rattle.rules.specs.Answers.{numbers_of}
use Rattle.rules.specs.Header.{Header}

-- The place, then the function's results; on a refusal they are 0.
abbrev pub told : {A : Type 0} (count : ℕ) (results : A → List ℕ) → Answer A → List ℕ
told count results answer = let numbers = numbers_of count results answer in numbers.place ∷ numbers.values

-- A header from its fields.
abbrev pub header : (transaction flag0 flag1 flag2 ordinal : ℕ) → Header
header transaction flag0 flag1 flag2 ordinal = record { transaction = transaction; flag0 = flag0; flag1 = flag1; flag2 = flag2; ordinal = ordinal }

-- A signed number as a pattern of 64 bits.
abbrev pub pattern64 : ℤ → ℕ
pattern64 (pos n) = n
pattern64 (negsuc n) = ones64 - n

-- Transaction, flags with the first byte lowest, ordinal, where the body starts and how long it is, status.
abbrev pub headed : (total : ℕ) (status : ℤ) → Header → List ℕ
headed total status h =
    h.transaction ∷ (h.flag0 + h.flag1 * 256 + h.flag2 * 65536) ∷ h.ordinal ∷ 16 ∷ (total - 16) ∷ pattern64 status ∷ []
