-- How the code's answers and the lent lists stand to the walk of the rules.
-- Assumes nothing.
use Rattle.std.specs.Prelude.{◌≡◌, List, ℕ, ◌+◌, ◌-◌, ◌≤◌, length, Result, Ok, Err}
use Rattle.std.proofs.lemmas.List.Edits.{sets}
use Rattle.rules.specs.declared.Fault.{Fault}
use Rattle.rules.specs.TypeTable.{TypeTable}
use Rattle.rules.specs.Trace.{object_list}
use Rattle.rules.specs.Decode.{Message, Decoded, went, stopped, trace_of}
use Rattle.walk_leaves.specs.declared.cursor.Cursor.{Cursor}

-- A part of the walk went on to a cursor, or was refused.
abbrev pub Walked : Type 0
Walked = Result Cursor Fault

abbrev pub message : (t : TypeTable) (bytes : List ℕ) (handles : ℕ) → Message
message t bytes handles = record { table = t; bytes = bytes; handles = handles }

abbrev pub values_of : Decoded → List ℕ
values_of (went next used values trace) = values
values_of (stopped f values trace) = values

-- The code's answer for a result of the rules, from a cursor on.
abbrev pub answer : Cursor → Decoded → Walked
answer c (went next used values trace) =
    Ok (record { next = next; handles = used; values = c.values + length values; objects = c.objects + length (object_list trace) })
answer c (stopped f values trace) = Err f

-- A cursor of four numbers.
abbrev pub cursor_at : (next handles given listed : ℕ) → Cursor
cursor_at next handles given listed = record { next = next; handles = handles; values = given; objects = listed }

-- A cursor after one value number.
abbrev pub gave_one : Cursor → Cursor
gave_one c = record { next = c.next; handles = c.handles; values = c.values + 1; objects = c.objects }

-- Numbers given, with the bytes that are not claimed yet: what is left can give no more than one number a byte.
abbrev pub load : (total : ℕ) → Cursor → ℕ
load total c = c.values + c.objects + (total - c.next)

-- Where a walk went on it stays within its bounds.
abbrev pub Within : (total handles most : ℕ) → Walked → Type 0
Within total handles most (Ok c) = (c.next ≤ total) × (c.handles ≤ handles) × (load total c ≤ most)
Within total handles most (Err f) = Unit {0}

-- A cursor never goes back.
abbrev pub Rises : Cursor → Walked → Type 0
Rises c (Ok e) = (c.next ≤ e.next) × (c.handles ≤ e.handles)
Rises c (Err f) = Unit {0}

-- What a part of the walk did: its answer, and the lent lists before and after it; at most `grow` numbers more.
pub record Did (total handles grow : ℕ) (values values' objects objects' : List ℕ) (c : Cursor) (r : Walked) (d : Decoded) : Type 0 where
  pub says : r ≡ answer c d
  pub valued : values' ≡ sets values c.values (values_of d)
  pub listed : objects' ≡ sets objects c.objects (object_list (trace_of d))
  pub within : Within total handles (load total c + grow) r
  pub rises : Rises c r

-- What a part of the walk is asked for: `need` bytes in line from `at` on lie in a message that is not too long.
pub record Ask (total handles need at : ℕ) (c : Cursor) : Type 0 where
  pub short : total ≤ 65536
  pub few : handles ≤ 64
  pub inside : at + need ≤ total
  pub free : c.next ≤ total
  pub held : c.handles ≤ handles
  pub small : load total c + need ≤ 131072

-- What was done leads to the whole: whoever does the rest, from the cursor `e` on, has done it all.
abbrev pub Leads : (total handles grow rest : ℕ) (values values' objects objects' : List ℕ) (c e : Cursor) (whole left : Decoded) → Type 0
Leads total handles grow rest values values' objects objects' c e whole left =
    (v o : List ℕ) (r : Walked) → Did total handles rest values' v objects' o e r left → Did total handles grow values v objects o c r whole
