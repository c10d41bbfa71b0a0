-- What a walk meets, in its order: claims, present handles, unknown content.
-- Assumes nothing.
use Rattle.std.specs.Prelude.{◌≡◌, List, [], ◌∷◌, ℕ, suc, ◌+◌, ◌-◌, eqb, if◌then◌else◌}
use Rattle.rules.specs.Bytes.{part, word, ones32, zeros, padded}

pub data Event : Type 0 where
  -- an object was claimed: its kind, row, offset and length without fill
  claimed : (kind row offset length : ℕ) → Event
  -- a handle's word of all ones, at its place
  present_handle : (at : ℕ) → Event
  -- content of an unknown ordinal: its byte number (0 in line) and its handle number
  unknown_content : (bytes handles : ℕ) → Event

-- Kinds of objects: primary; vector or string content; boxed struct; envelopes of a table; out-of-line payload; unknown
-- out-of-line content.
abbrev pub primary_object : ℕ
primary_object = 1

abbrev pub vector_object : ℕ
vector_object = 2

abbrev pub boxed_object : ℕ
boxed_object = 3

abbrev pub envelopes_object : ℕ
envelopes_object = 4

abbrev pub payload_object : ℕ
payload_object = 5

abbrev pub unknown_object : ℕ
unknown_object = 6

-- "An object is four numbers: kind, row, offset, length without fill", one object for each claim and no other.
unfoldable pub object_list : List Event → List ℕ
object_list [] = []
object_list (claimed kind row offset length ∷ trace) = kind ∷ row ∷ offset ∷ length ∷ object_list trace
object_list (present_handle at ∷ trace) = object_list trace
object_list (unknown_content bytes handles ∷ trace) = object_list trace

-- How many handles an event takes.
abbrev pub handles_of : Event → ℕ
handles_of (claimed kind row offset length) = 0
handles_of (present_handle at) = 1
handles_of (unknown_content bytes handles) = handles

unfoldable pub present_handles : List Event → ℕ
present_handles [] = 0
present_handles (claimed kind row offset length ∷ trace) = present_handles trace
present_handles (present_handle at ∷ trace) = suc (present_handles trace)
present_handles (unknown_content bytes handles ∷ trace) = present_handles trace

unfoldable pub unknown_handles : List Event → ℕ
unknown_handles [] = 0
unknown_handles (claimed kind row offset length ∷ trace) = unknown_handles trace
unknown_handles (present_handle at ∷ trace) = unknown_handles trace
unknown_handles (unknown_content bytes handles ∷ trace) = handles + unknown_handles trace

-- The byte numbers of unknown content out of line.
unfoldable pub unknown_out_of_line : List Event → List ℕ
unknown_out_of_line [] = []
unknown_out_of_line (claimed kind row offset length ∷ trace) = unknown_out_of_line trace
unknown_out_of_line (present_handle at ∷ trace) = unknown_out_of_line trace
unknown_out_of_line (unknown_content bytes handles ∷ trace) =
    if eqb bytes 0 then unknown_out_of_line trace else (bytes ∷ unknown_out_of_line trace)

-- ---- what holds of an object list

-- "An object starts at a multiple of 8, directly after the previous object's zero fill": the first object starts at `from`, each
-- other where the one before ends with its fill, and the last ends with its fill at `end`.
unfoldable pub Tiles : (from end : ℕ) → (objects : List ℕ) → Type 0
Tiles from end [] = from ≡ end
Tiles from end (kind ∷ []) = ⊥
Tiles from end (kind ∷ row ∷ []) = ⊥
Tiles from end (kind ∷ row ∷ offset ∷ []) = ⊥
Tiles from end (kind ∷ row ∷ offset ∷ length ∷ objects) = (offset ≡ from) × Tiles (from + padded length) end objects

-- The fill of each object, from its end up to the next multiple of 8, is zero.
unfoldable pub FillsAreZero : (bytes objects : List ℕ) → Type 0
FillsAreZero bytes [] = Unit {0}
FillsAreZero bytes (kind ∷ []) = ⊥
FillsAreZero bytes (kind ∷ row ∷ []) = ⊥
FillsAreZero bytes (kind ∷ row ∷ offset ∷ []) = ⊥
FillsAreZero bytes (kind ∷ row ∷ offset ∷ length ∷ objects) =
    (part bytes (offset + length) (padded length - length) ≡ zeros (padded length - length)) × FillsAreZero bytes objects

-- The lengths of the objects that are unknown content.
unfoldable pub unknown_lengths : (objects : List ℕ) → List ℕ
unknown_lengths [] = []
unknown_lengths (kind ∷ []) = []
unknown_lengths (kind ∷ row ∷ []) = []
unknown_lengths (kind ∷ row ∷ offset ∷ []) = []
unknown_lengths (kind ∷ row ∷ offset ∷ length ∷ objects) =
    if eqb kind unknown_object then (length ∷ unknown_lengths objects) else unknown_lengths objects

-- ---- what holds of the present handles

-- "A present handle is a handle's word of all ones met in the walk": the word at the place of each is all ones.
unfoldable pub PresentHandlesAreOnes : (bytes : List ℕ) (trace : List Event) → Type 0
PresentHandlesAreOnes bytes [] = Unit {0}
PresentHandlesAreOnes bytes (claimed kind row offset length ∷ trace) = PresentHandlesAreOnes bytes trace
PresentHandlesAreOnes bytes (present_handle at ∷ trace) = (word bytes at 4 ≡ ones32) × PresentHandlesAreOnes bytes trace
PresentHandlesAreOnes bytes (unknown_content byte-number handles ∷ trace) = PresentHandlesAreOnes bytes trace
