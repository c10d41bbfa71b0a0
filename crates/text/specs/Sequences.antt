-- Judging a text from a place on.
-- Assumes nothing.
use Rattle.std.specs.Prelude.{◌≡◌, List, [], ℕ, ◌≤◌, ◌<◌, length, drop, slice_index}
use Rattle.rules.specs.Text.{led, Text, follows}

-- What the bytes from a place on are, where the next sequence starts there.
abbrev pub text_from : (bytes : List ℕ) (at : ℕ) → Text
text_from bytes at = follows (drop at bytes) at at (led [])

-- Between sequences, a text may be judged from a later place on as well.
pub record Passes (text : List ℕ) (from next : ℕ) : Type 0 where
  pub onward : from ≤ next
  pub within : next ≤ length text
  pub alike : text_from text from ≡ text_from text next

-- Each of them is a sequence by itself.
abbrev pub AreAscii : (numbers : List ℕ) → Type 0
AreAscii numbers = (k : ℕ) → slice_index numbers k < 0x80
