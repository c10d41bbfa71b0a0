-- Records that lead to an object: what was put, and what is left to put.
-- Assumes nothing.
use Rattle.std.specs.Prelude.{List, ◌≡◌, ℕ, ◌+◌, ◌-◌, ◌≤◌, drop, Err, Ok, Result}
use Rattle.rules.specs.Bytes.{padded}
use Rattle.rules.specs.Encode as E
use Rattle.rules.specs.Encode.{Encoded, Encoder}
use Rattle.write_leaves.specs.declared.cursor.Cursor.{Cursor}
use Rattle.write_leaves.specs.Putting.{Wrote, Put, Stands}
use Rattle.write_records.specs.declared.records.Opening.{Opening}
use Rattle.write_records.specs.declared.records.Opened.{Opened}
use Rattle.write_records.specs.declared.records.Opened.TheVariants.{Closed, Open}
use Rattle.rules.specs.declared.Fault.{Fault}

-- The cursor after the claim of an object of so many bytes.
abbrev pub opened : (size : ℕ) → Cursor → Cursor
opened size c = record { next = c.next + padded size; handles = c.handles; index = c.index }

-- The cursor before the claim of an object that is open.
abbrev pub claimed_from : Opening → Cursor
claimed_from x = record { next = x.start; handles = x.cursor.handles; index = x.cursor.index }

-- An object of `size` bytes was claimed, in an output that starts before it.
pub record Claimed (values : List ℕ) (size base : ℕ) (x : Opening) : Type 0 where
  pub within : base ≤ x.start
  pub advanced : x.cursor ≡ opened size (claimed_from x)
  pub stands : Stands values x.cursor

-- An object of `size` bytes is written from its claim on, at its own offset: its value, its fill, and the objects within. It takes
-- nothing in line.
abbrev pub ObjectPut : (values out out' : List ℕ) (size base : ℕ) (c : Cursor) (r : Wrote) → Encoder → Type 0
ObjectPut values out out' size base c r fields =
    Put values out out' 0 (c.next - base) base c r (E.as_object size (fields (drop c.index values) (opened size c).next c.handles))

-- A claim's answer, as that of the record that leads to the object.
abbrev pub to_open : Result Opening Fault → Result Opened Fault
to_open (Ok x) = Ok (Open x)
to_open (Err f) = Err f

-- Put already, or refused; or an object of `size` bytes is open, and whoever writes `fields` as that object has put the whole.
abbrev pub Opens : (values out out' : List ℕ) (inline at base : ℕ) (c : Cursor) (whole : Encoded) (size : Opening → ℕ) (fields : Opening → Encoder) → Result Opened Fault → Type 0
Opens values out out' inline at base c whole size fields (Ok (Closed d)) = Put values out out' inline at base c (Ok d) whole
Opens values out out' inline at base c whole size fields (Err f) = Put values out out' inline at base c (Err f) whole
Opens values out out' inline at base c whole size fields (Ok (Open x)) =
    (x.start ≡ c.next) × (x.cursor ≡ opened (size x) (claimed_from x)) × Stands values x.cursor
    × ((out'' : List ℕ) (r : Wrote) → ObjectPut values out' out'' (size x) base (claimed_from x) r (fields x) → Put values out out'' inline at base c r whole)
