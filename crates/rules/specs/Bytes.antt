-- Bytes: little-endian words, signed numbers, zero fill, rounding up.
-- Assumes nothing.
use Rattle.std.specs.Prelude.{List, [], ◌∷◌, ℕ, zero, suc, ◌+◌, ◌-◌, ◌*◌, ◌/◌, ◌%◌, ◌<◌, ltb, ℤ, pos, negsuc, take, drop, if◌then◌else◌}

-- Bytes are numbers below 256.
unfoldable pub Octets : List ℕ → Type 0
Octets [] = Unit {0}
Octets (byte ∷ rest) = (byte < 256) × Octets rest

-- "All numbers are little-endian": the number that bytes stand for,
unfoldable pub little_endian : List ℕ → ℕ
little_endian [] = 0
little_endian (byte ∷ rest) = byte + 256 * little_endian rest

-- and the bytes of a number, so many of them.
unfoldable pub bytes_of : (width value : ℕ) → List ℕ
bytes_of zero value = []
bytes_of (suc width) value = value % 256 ∷ bytes_of width (value / 256)

-- `count` bytes from a place on, and the number they stand for.
unfoldable pub part : (bytes : List ℕ) (at count : ℕ) → List ℕ
part bytes at count = take count (drop at bytes)

unfoldable pub word : (bytes : List ℕ) (at width : ℕ) → ℕ
word bytes at width = little_endian (part bytes at width)

-- Words of all ones.
abbrev pub ones32 : ℕ
ones32 = 4294967295

abbrev pub ones64 : ℕ
ones64 = 18446744073709551615

-- A signed number of 32 bits, its pattern, and the number that a pattern stands for.
abbrev pub Fits32 : ℤ → Type 0
Fits32 (pos n) = n < 0x80000000
Fits32 (negsuc n) = n < 0x80000000

abbrev pub pattern32 : ℤ → ℕ
pattern32 (pos n) = n
pattern32 (negsuc n) = ones32 - n

abbrev pub signed32 : (pattern : ℕ) → ℤ
signed32 pattern = if ltb pattern 0x80000000 then pos pattern else negsuc (ones32 - pattern)

unfoldable pub zeros : ℕ → List ℕ
zeros zero = []
zeros (suc count) = 0 ∷ zeros count

-- How many zero bytes stand before the first other one.
unfoldable pub leading_zeros : List ℕ → ℕ
leading_zeros [] = 0
leading_zeros (zero ∷ rest) = suc (leading_zeros rest)
leading_zeros (suc byte ∷ rest) = 0

-- The next multiple of an alignment, at or after n.
unfoldable pub round_up : (n alignment : ℕ) → ℕ
round_up n alignment = (n + (alignment - 1)) / alignment * alignment

-- An object's length with its fill: objects start at multiples of 8.
unfoldable pub padded : ℕ → ℕ
unfolding round_up
padded length = round_up length 8
