-- The parts of the writer that stand in line, in the rules' own terms.
-- Assumes nothing.
use Rattle.std.specs.Prelude.{Bool, ℕ, ◌+◌, ◌≤◌, ◌<◌, List, get_or}
use Rattle.rules.specs.Bytes.{ones32}
use Rattle.rules.specs.TypeTable.{TypeTable, a_in}
use Rattle.rules.specs.Encode as E
use Rattle.rules.specs.Encode.{Encoder}
use Rattle.rules.specs.Records.{bool_pattern, write_number, write_presence}
use Rattle.rules.specs.Envelope.{encode_word}
use Rattle.rules.specs.Writer as R
use Rattle.strict.specs.Strict.{strict_pattern}

unfoldable pub bool_as : Encoder
bool_as = E.record_then (write_number 1 bool_pattern) (λ v. E.nothing)

unfoldable pub handle_as : TypeTable → (optional : Bool) → Encoder
handle_as t optional = E.record_then (write_presence 4 ones32 optional) (R.after_handle t)

unfoldable pub numbers_as : (width count : ℕ) → Encoder
numbers_as width count = E.elements (λ i. encode_word width) 0 count

-- A value of a strict enum or of strict bits.
unfoldable pub strict_as : (rows entries : List ℕ) (row : ℕ) → Encoder
strict_as rows entries row = E.record_then (write_number (a_in rows row) (strict_pattern rows entries row)) (λ v. E.nothing)

-- None of `count` numbers of a list is above a bound.
pub record NoneAbove (values : List ℕ) (from count most : ℕ) : Type 0 where
  pub each : (i : ℕ) → i < count → get_or values (from + i) 0 ≤ most
