-- How the code's answers and its output stand to the rules' writer.
-- Assumes nothing.
use Rattle.std.specs.Prelude.{List, ◌≡◌, ℕ, ◌+◌, ◌-◌, ◌≤◌, ◌<◌, length, take, drop, get_or, Result, Err, Ok}
use Rattle.std.proofs.lemmas.List.Edits.{sets}
use Rattle.rules.specs.declared.Fault.{Fault}
use Rattle.rules.specs.declared.Place.TheVariants.{Index}
use Rattle.rules.specs.Refusals.{fault, not_a_value}
use Rattle.rules.specs.Encode.{Encoded, wrote, cannot, Encoder, take_handles}
use Rattle.write_leaves.specs.declared.cursor.Cursor.{Cursor}

-- A part of the writer went on to a cursor, or was refused.
abbrev pub Wrote : Type 0
Wrote = Result Cursor Fault

-- The code's answer for a result of the rules, from a value list of so many numbers: the list is never cut, an index tells how
-- far it is taken.
abbrev pub answer : (total : ℕ) → Encoded → Wrote
answer total (wrote inline outside next used rest) = Ok (record { next = next; handles = used; index = total - length rest })
answer total (cannot number left) = Err (fault number (Index (total - left)))

-- Of an output that was stored in from a place on: it is as long as before, and nothing before the place changes.
pub record KeptBefore (out out' : List ℕ) (at : ℕ) : Type 0 where
  pub long : length out' ≡ length out
  pub same : take at out' ≡ take at out

-- The output after it: what stands in line from `at` on, and the objects claimed from `free` on. A part that was refused may have
-- stored anything from its own place on, and nothing before.
abbrev pub Stored : (out out' : List ℕ) (at free : ℕ) → Encoded → Type 0
Stored out out' at free (wrote inline outside next used rest) = out' ≡ sets (sets out at inline) free outside
Stored out out' at free (cannot number left) = KeptBefore out out' at

-- What holds of a part that was written in `size` bytes in line.
pub record Fits (values : List ℕ) (size : ℕ) (c : Cursor) (inline outside : List ℕ) (next used : ℕ) (rest : List ℕ) : Type 0 where
  pub whole : length inline ≡ size
  pub claimed : next ≡ c.next + length outside
  pub short : next ≤ 65536
  pub counted : c.handles ≤ used
  pub few : used ≤ 64
  pub taken : c.index ≤ length values - length rest
  pub left : rest ≡ drop (length values - length rest) values

abbrev pub Fit : (values : List ℕ) (size : ℕ) (c : Cursor) → Encoded → Type 0
Fit values size c (wrote inline outside next used rest) = Fits values size c inline outside next used rest
Fit values size c (cannot number left) = Unit {0}

-- What a part did: the output starts at the byte `base` of the message, and the part stands at `at` of the output.
pub record Put (values out out' : List ℕ) (size at base : ℕ) (c : Cursor) (r : Wrote) (e : Encoded) : Type 0 where
  pub says : r ≡ answer (length values) e
  pub stored : Stored out out' at (c.next - base) e
  pub fit : Fit values size c e

abbrev pub Puts : (values out out' : List ℕ) (size at base : ℕ) (c : Cursor) (r : Wrote) → Encoder → Type 0
Puts values out out' size at base c r part = Put values out out' size at base c r (part (drop c.index values) c.next c.handles)

-- A part that claims no object stands at any place of a message.
abbrev pub PutsInLine : (values out out' : List ℕ) (size at : ℕ) (c : Cursor) (r : Wrote) → Encoder → Type 0
PutsInLine values out out' size at c r part = (base : ℕ) → Puts values out out' size at base c r part

-- A cursor of three numbers.
abbrev pub cursor_at : (next handles index : ℕ) → Cursor
cursor_at next handles index = record { next = next; handles = handles; index = index }

-- The cursor after one more number.
abbrev pub took_one : Cursor → Cursor
took_one c = record { next = c.next; handles = c.handles; index = c.index + 1 }

-- The number at an index of the list, or 26 where the list has ended.
abbrev pub NumberAt : (values : List ℕ) (index : ℕ) → Result ℕ Fault → Type 0
NumberAt values index (Ok v) = (index < length values) × (v ≡ get_or values index 0)
NumberAt values index (Err f) = (length values ≤ index) × (f ≡ fault not_a_value (Index index))

-- Where the writer may stand.
pub record Stands (values : List ℕ) (c : Cursor) : Type 0 where
  pub free : c.next ≤ 65536
  pub held : c.handles ≤ 64
  pub left : c.index ≤ length values

-- So many handles are taken: the output is left alone.
abbrev pub HandlesTaken : (count : ℕ) (c : Cursor) → Wrote → Type 0
HandlesTaken count c r = (values out : List ℕ) (at base : ℕ) → Stands values c → Puts values out out 0 at base c r (take_handles count)

-- What a part is asked for: its bytes in line end before the next free one.
pub record Ask (values : List ℕ) (size at base : ℕ) (c : Cursor) : Type 0 where
  pub inside : base + (at + size) ≤ c.next
  pub free : c.next ≤ 65536
  pub held : c.handles ≤ 64
  pub left : c.index ≤ length values
