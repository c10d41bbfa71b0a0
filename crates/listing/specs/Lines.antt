-- The lines of the listing, as bytes, and what it is to put text into a lent output.
-- Assumes nothing.
use Rattle.std.specs.Prelude.{◌≡◌, List, [], ◌∷◌, ◌++◌, ℕ, zero, suc, ◌+◌, ◌/◌, ◌%◌, ◌≤◌, ltb, length, get_or, if◌then◌else◌}
use Rattle.std.proofs.lemmas.List.Edits.{sets}

-- ---- numbers

-- A number in decimal digits, at most so many: those of its quotient by ten, then its last one. The digit 0 is byte 48.
unfoldable pub digits_within : (most n : ℕ) → List ℕ
digits_within zero n = []
digits_within (suc most) n =
    if ltb n 10 then (48 + n) ∷ [] else digits_within most (n / 10) ++ ((48 + n % 10) ∷ [])

-- No number has more digits than its value and one.
unfoldable pub decimal : ℕ → List ℕ
decimal n = digits_within (suc n) n

-- ---- lines

abbrev pub line_feed : List ℕ
line_feed = 10 ∷ []

abbrev pub comma : List ℕ
comma = 44 ∷ []

abbrev pub labelled : (label : List ℕ) (n : ℕ) → List ℕ
labelled label n = label ++ decimal n

abbrev pub line : (label : List ℕ) (n : ℕ) → List ℕ
line label n = labelled label n ++ line_feed

-- The labels, in ASCII: `result=`, `place=`,
abbrev pub result= : List ℕ
result= = 114 ∷ 101 ∷ 115 ∷ 117 ∷ 108 ∷ 116 ∷ 61 ∷ []

abbrev pub place= : List ℕ
place= = 112 ∷ 108 ∷ 97 ∷ 99 ∷ 101 ∷ 61 ∷ []

-- `bytes=`, `handles=`, `objects=`, `values=`,
abbrev pub bytes= : List ℕ
bytes= = 98 ∷ 121 ∷ 116 ∷ 101 ∷ 115 ∷ 61 ∷ []

abbrev pub handles= : List ℕ
handles= = 104 ∷ 97 ∷ 110 ∷ 100 ∷ 108 ∷ 101 ∷ 115 ∷ 61 ∷ []

abbrev pub objects= : List ℕ
objects= = 111 ∷ 98 ∷ 106 ∷ 101 ∷ 99 ∷ 116 ∷ 115 ∷ 61 ∷ []

abbrev pub values= : List ℕ
values= = 118 ∷ 97 ∷ 108 ∷ 117 ∷ 101 ∷ 115 ∷ 61 ∷ []

-- `object=` and `value=`.
abbrev pub object= : List ℕ
object= = 111 ∷ 98 ∷ 106 ∷ 101 ∷ 99 ∷ 116 ∷ 61 ∷ []

abbrev pub value= : List ℕ
value= = 118 ∷ 97 ∷ 108 ∷ 117 ∷ 101 ∷ 61 ∷ []

-- Kind, row, offset and length of an object.
abbrev pub object_line : (kind row offset size : ℕ) → List ℕ
object_line kind row offset size =
    labelled object= kind ++ (labelled comma row ++ (labelled comma offset ++ (labelled comma size ++ line_feed)))

-- A line for each four numbers of an object list,
unfoldable pub object_lines : List ℕ → List ℕ
object_lines [] = []
object_lines (kind ∷ []) = []
object_lines (kind ∷ row ∷ []) = []
object_lines (kind ∷ row ∷ offset ∷ []) = []
object_lines (kind ∷ row ∷ offset ∷ size ∷ objects) = object_line kind row offset size ++ object_lines objects

-- (the object whose numbers stand from a place of the list on),
abbrev pub object_at : (objects : List ℕ) (i : ℕ) → List ℕ
object_at objects i =
    object_line (get_or objects i 0) (get_or objects (i + 1) 0) (get_or objects (i + 2) 0) (get_or objects (i + 3) 0)

-- and a line for each number of a value list.
unfoldable pub value_lines : List ℕ → List ℕ
value_lines [] = []
value_lines (value ∷ values) = line value= value ++ value_lines values

-- ---- output

-- No listing is longer than this.
abbrev pub largest : ℕ
largest = 524288

-- Text of at most so many bytes was put into a lent output from a place on, what there is room for; and the place after it.
pub record Puts (lent : List ℕ) (at : ℕ) (text : List ℕ) (most next : ℕ) (after : List ℕ) : Type 0 where
  pub stored : after ≡ sets lent at text
  pub ends : next ≡ at + length text
  pub within : next ≤ at + most
