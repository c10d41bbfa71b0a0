-- The parts of the walk that one function each does, in the rules' own terms.
-- Assumes nothing.
use Rattle.std.specs.Prelude.{Bool, List, [], ◌∷◌, ℕ, zero, suc, ◌+◌, ◌-◌, ◌≤◌, leb, length}
use Rattle.rules.specs.declared.Place.TheVariants.{Byte}
use Rattle.rules.specs.Refusals.{fault, object_does_not_fit}
use Rattle.rules.specs.Bytes.{word, padded, ones32}
use Rattle.rules.specs.TypeTable.{TypeTable, a_in}
use Rattle.rules.specs.Trace.{claimed}
use Rattle.rules.specs.Decode as D
use Rattle.rules.specs.Decode.{Message, went, Decoder}
use Rattle.rules.specs.Records.{bool_pattern, read_number, read_presence}
use Rattle.rules.specs.Envelope.{decode_word}
use Rattle.rules.specs.Walk as W
use Rattle.strict.specs.Strict.{strict_pattern}
use Rattle.walk_leaves.specs.declared.cursor.Cursor.{Cursor}
use Rattle.walk_leaves.specs.Doing.{Walked}
use Rattle.walk_leaves.specs.Doing.{message, Did}

-- ---- in line

unfoldable pub bool_at : Message → Decoder
bool_at m = D.record_then 1 (read_number m 1 bool_pattern) (λ at v. D.nothing)

unfoldable pub handle_at : (optional : Bool) → Message → Decoder
handle_at optional m = D.record_then 4 (read_presence m 4 ones32 optional) (W.after_handle m)

unfoldable pub numbers_at : (width count : ℕ) → Message → Decoder
numbers_at width count m = D.elements width (λ i. decode_word m width) 0 count

-- A value of a strict enum or of strict bits.
unfoldable pub strict_at : (rows entries : List ℕ) (row : ℕ) → Message → Decoder
strict_at rows entries row m = D.record_then (a_in rows row) (read_number m (a_in rows row) (strict_pattern rows entries row)) (λ at v. D.nothing)

-- The numbers of one width that stand in line from a place on.
unfoldable pub words_from : (bytes : List ℕ) (width at count : ℕ) → List ℕ
words_from bytes width at zero = []
words_from bytes width at (suc count) = word bytes at width ∷ words_from bytes width (at + width) count

-- ---- objects

-- A claim alone: 6, then 7, and the object.
unfoldable pub claim_at : (kind row size : ℕ) → Message → Decoder
claim_at kind row size m at next used =
    let filled = D.require_zero m (next + size) (padded size - size) (went (next + padded size) used [] (claimed kind row next size ∷ [])) in
    D.require (leb (next + padded size) (length m.bytes)) (fault object_does_not_fit (Byte next)) filled

-- ---- functions that touch one of the lists, or none

-- Done under any type table, with any handle count from the one used on, and with the objects left alone;
abbrev pub DidValues : (bytes values values' : List ℕ) (grow at : ℕ) (c : Cursor) (r : Walked) → (Message → Decoder) → Type 0
DidValues bytes values values' grow at c r part =
    (t : TypeTable) (objects : List ℕ) (handles : ℕ) → c.next ≤ length bytes → c.handles ≤ handles
    → Did (length bytes) handles grow values values' objects objects c r (part (message t bytes handles) at c.next c.handles)

-- the same of a part that leaves the values alone.
abbrev pub DidObjects : (bytes objects objects' : List ℕ) (grow at : ℕ) (c : Cursor) (r : Walked) → (Message → Decoder) → Type 0
DidObjects bytes objects objects' grow at c r part =
    (t : TypeTable) (values : List ℕ) (handles : ℕ) → c.next ≤ length bytes → c.handles ≤ handles
    → Did (length bytes) handles grow values values objects objects' c r (part (message t bytes handles) at c.next c.handles)

-- The same with a handle count that the function knows, and of a part that leaves both lists alone.
abbrev pub DidHandles : (bytes values values' : List ℕ) (handles grow at : ℕ) (c : Cursor) (r : Walked) → (Message → Decoder) → Type 0
DidHandles bytes values values' handles grow at c r part =
    (t : TypeTable) (objects : List ℕ) → c.next ≤ length bytes
    → Did (length bytes) handles grow values values' objects objects c r (part (message t bytes handles) at c.next c.handles)

abbrev pub DidNeither : (bytes : List ℕ) (grow at : ℕ) (c : Cursor) (r : Walked) → (Message → Decoder) → Type 0
DidNeither bytes grow at c r part =
    (t : TypeTable) (values objects : List ℕ) (handles : ℕ) → c.next ≤ length bytes → c.handles ≤ handles
    → Did (length bytes) handles grow values values objects objects c r (part (message t bytes handles) at c.next c.handles)
