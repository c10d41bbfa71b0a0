-- The number stream that cases are read from.
-- Assumes nothing.
use Rattle.std.specs.Prelude.{◌≡◌, Bool, true, false, ◌&&◌, List, [], ◌∷◌, ℕ, suc, ◌+◌, ◌-◌, ◌*◌, ◌%◌, ◌≤◌, ◌<◌, min, leb, eqb, length, take, drop, map, get_or, if◌then◌else◌}
use Rattle.std.proofs.lemmas.List.Edits.{sets}
use Rattle.std.specs.Char.{is_ascii_digit}
use Rattle.rules.specs.Bytes.{ones64}

-- One more digit behind a number; over 64 bits it stays at the largest.
abbrev pub with_digit : (value byte : ℕ) → ℕ
with_digit value byte = min (value * 10 + (byte - 48)) ones64

-- The numbers of a line, the first of them begun with a value. Every byte that is no digit ends a number, and a line feed
-- ends the line too.
unfoldable pub numbers_of : (bytes : List ℕ) (value : ℕ) → List ℕ
numbers_of [] value = []
numbers_of (byte ∷ bytes) value =
    if is_ascii_digit byte then numbers_of bytes (with_digit value byte) else value ∷ (if eqb byte 10 then [] else numbers_of bytes 0)

-- The length of a line, with its line feed.
unfoldable pub line_length : List ℕ → ℕ
line_length [] = 0
line_length (byte ∷ bytes) = suc (if eqb byte 10 then 0 else line_length bytes)

-- Reading a line: its numbers are counted and put into a list that was lent, and the text after it is left.
pub record LineRead (text lent : List ℕ) (count : ℕ) (rest after : List ℕ) : Type 0 where
  pub counted : count ≡ length (numbers_of text 0)
  pub passed : rest ≡ drop (line_length text) text
  pub put : after ≡ sets lent 0 (numbers_of text 0)

-- The list whose length stands at a place of a case.
abbrev pub list_at : (numbers : List ℕ) (at : ℕ) → List ℕ
list_at numbers at = take (get_or numbers at 0) (drop (at + 1) numbers)

-- The numbers after that list.
abbrev pub after_list : (numbers : List ℕ) (at : ℕ) → List ℕ
after_list numbers at = drop (at + 1 + length (list_at numbers at)) numbers

-- Where the part of a list from a place on starts, by block and offset, if it is handed back: in the list itself, 8 bytes a
-- number; past its end, at its empty start.
abbrev pub start_at : (numbers : List ℕ) (at : ℕ) → (start : ℕ × ℕ) → ℕ × ℕ
start_at numbers at start = if leb at (length numbers) then (start.0, at * 8 + start.1) else start

-- What is left of a number in a byte, and in a word as those of a type table are.
abbrev pub byte_of : ℕ → ℕ
byte_of number = number % 256

abbrev pub word_of : ℕ → ℕ
word_of number = number % 4294967296

-- Storing numbers in a list of a narrower type that was lent, as many as it has room for: they are counted and put.
pub record Narrows {A : Type 0} (narrowed : ℕ → A) (numbers : List ℕ) (lent : List A) (count : ℕ) (after : List A) : Type 0 where
  pub within : count ≤ length after
  pub long : count ≡ length (take count after)
  pub counted : count ≡ min (length numbers) (length lent)
  pub put : after ≡ sets lent 0 (map narrowed numbers)

-- Where the second and the third of three lists stand, and what comes after them.
abbrev pub second_place : List ℕ → ℕ
second_place numbers = 1 + length (list_at numbers 0)

abbrev pub third_place : List ℕ → ℕ
third_place numbers = second_place numbers + 1 + length (list_at numbers (second_place numbers))

-- The place after all three; past the end of the numbers, where a length is missing.
abbrev pub after_third : List ℕ → ℕ
after_third numbers = third_place numbers + 1 + length (list_at numbers (third_place numbers))

-- Putting a type table: the row list that stands first and the member list after it are stored in lists of words that were
-- lent; the entries stand third; the numbers after them are left, and start at a place so near that it can be counted on from there.
pub record TablePut (numbers rows members : List ℕ) (row_count member_count : ℕ) (entries rest : List ℕ) (next : ℕ) (rows' members' : List ℕ) : Type 0 where
  pub rows_put : Narrows word_of (list_at numbers 0) rows row_count rows'
  pub members_put : Narrows word_of (list_at numbers (second_place numbers)) members member_count members'
  pub third : entries ≡ list_at numbers (third_place numbers)
  pub left : rest ≡ after_list numbers (third_place numbers)
  pub passed : next ≡ after_third numbers
  pub near : next < 4611686018427387904

-- Are two lists of numbers equal?
unfoldable pub same_numbers : List ℕ → List ℕ → Bool
same_numbers [] [] = true
same_numbers [] (y ∷ ys) = false
same_numbers (x ∷ xs) [] = false
same_numbers (x ∷ xs) (y ∷ ys) = eqb x y && same_numbers xs ys
