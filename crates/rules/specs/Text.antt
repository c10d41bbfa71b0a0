-- Text: RFC 3629's grammar, by its byte ranges.
-- Assumes nothing.
use Rattle.std.specs.Prelude.{◌≡◌, Bool, true, false, ◌&&◌, List, [], ◌∷◌, ℕ, suc, ◌<◌, leb, length, take, if◌then◌else◌}

-- A range of bytes, %xLOW-HIGH.
pub data Range : Type 0 where
  range : (low high : ℕ) → Range

abbrev pub holds : Range → ℕ → Bool
holds (range low high) byte = leb low byte && leb byte high

-- UTF8-tail = %x80-BF
abbrev pub tail : Range
tail = range 0x80 0xBF

-- One form of UTF8-char: the range of its lead byte, and the ranges of the bytes after it.
pub data Form : Type 0 where
  form : (lead : Range) (after : List Range) → Form

-- UTF8-1 to UTF8-4, in the grammar's order.
abbrev pub forms : List Form
forms =
    form (range 0x00 0x7F) []
    ∷ form (range 0xC2 0xDF) (tail ∷ [])
    ∷ form (range 0xE0 0xE0) (range 0xA0 0xBF ∷ tail ∷ [])
    ∷ form (range 0xE1 0xEC) (tail ∷ tail ∷ [])
    ∷ form (range 0xED 0xED) (range 0x80 0x9F ∷ tail ∷ [])
    ∷ form (range 0xEE 0xEF) (tail ∷ tail ∷ [])
    ∷ form (range 0xF0 0xF0) (range 0x90 0xBF ∷ tail ∷ tail ∷ [])
    ∷ form (range 0xF1 0xF3) (tail ∷ tail ∷ tail ∷ [])
    ∷ form (range 0xF4 0xF4) (range 0x80 0x8F ∷ tail ∷ tail ∷ [])
    ∷ []

-- What must come after a lead byte; no two forms share one.
pub data Led : Type 0 where
  led : (after : List Range) → Led
  not_a_lead : Led

abbrev pub leads : List Form → ℕ → Led
leads [] byte = not_a_lead
leads (form lead after ∷ rest) byte = if holds lead byte then led after else leads rest byte

-- What bytes are: text; or not, and then where the first sequence starts that is not allowed.
pub data Text : Type 0 where
  text : Text
  broken : (start : ℕ) → Text

-- UTF8-octets = *( UTF8-char ): the bytes come in turn, the next one at offset `at`; `due` are the ranges that the sequence
-- begun at `start` still asks for, one a byte. W-201: "a sequence cut off by the string's end starts at its lead byte".
unfoldable pub follows : (bytes : List ℕ) (start at : ℕ) (due : Led) → Text
follows [] start at not_a_lead = broken start
follows [] start at (led []) = text
follows [] start at (led (r ∷ due)) = broken start
follows (byte ∷ bytes) start at not_a_lead = broken start
follows (byte ∷ bytes) start at (led []) = follows bytes at (suc at) (leads forms byte)
follows (byte ∷ bytes) start at (led (r ∷ due)) = if holds r byte then follows bytes start (suc at) (led due) else broken start

abbrev pub utf8 : List ℕ → Text
utf8 bytes = follows bytes 0 0 (led [])

abbrev pub is_text : Text → Bool
is_text text = true
is_text (broken start) = false

abbrev pub start_of : Text → ℕ
start_of text = 0
start_of (broken start) = start

unfoldable pub is_utf8 : List ℕ → Bool
is_utf8 bytes = is_text (utf8 bytes)

-- W-201: "the offset of the first byte of the first sequence that RFC 3629 doesn't allow"; 0 in text.
unfoldable pub broken_at : List ℕ → ℕ
broken_at bytes = start_of (utf8 bytes)

-- Bytes that are not text: that offset lies in them, what stands before it is text, and with any byte more it is none.
pub record BreaksThere (bytes : List ℕ) : Type 0 where
  pub inside : broken_at bytes < length bytes
  pub before : is_utf8 (take (broken_at bytes) bytes) ≡ true
  pub beyond : (count : ℕ) → broken_at bytes < count → is_utf8 (take count bytes) ≡ false

abbrev pub TextBreaksThere : Type 0
TextBreaksThere = (bytes : List ℕ) → is_utf8 bytes ≡ false → BreaksThere bytes
