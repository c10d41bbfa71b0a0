-- What the functions of records.rt and envelopes.rt promise. Each holds under any type table in which the sizes handed in are the rows', and of
-- those that take no handles with any handle count; tables and unions where envelopes have eight bytes.
-- Assumes nothing.
use Rattle.std.specs.Prelude.{List, ◌≡◌, ℕ, ◌+◌, ◌-◌, ◌*◌, ◌/◌, ◌%◌, ◌≤◌, eqb, length, Err, Ok, Option, Result}
use Rattle.rules.specs.declared.Place.TheVariants.{Byte}
use Rattle.rules.specs.Refusals.{fault, text_not_utf8}
use Rattle.rules.specs.Bytes.{word}
use Rattle.rules.specs.TypeTable.{TypeTable, eight_byte_envelopes, Content, known, content_of}
use Rattle.rules.specs.Sizes.{size_of}
use Rattle.rules.specs.Text.{Text, text, broken}
use Rattle.rules.specs.Trace.{envelopes_object, unknown_content}
use Rattle.rules.specs.Decode as D
use Rattle.rules.specs.Decode.{Decoder}
use Rattle.rules.specs.Records.{read_count}
use Rattle.rules.specs.Envelope.{unknown_in_line, unknown_out_of_line, unknown_envelope, content_of_eight_bytes}
use Rattle.rules.specs.Walk as W
use Rattle.ordinals.specs.Ordinals.{ordinal_is, ContentIs}
use Rattle.walk_leaves.specs.declared.cursor.Cursor.{Cursor}
use Rattle.walk_leaves.specs.Doing.{Walked}
use Rattle.walk_records.specs.declared.records.Opened.{Opened}
use Rattle.walk_records.specs.declared.envelopes.Member.{Member}
use Rattle.walk_records.specs.declared.envelopes.Member.TheVariants.{Absent, Present}
use Rattle.walk_leaves.specs.Doing.{message, Did, Ask}
use Rattle.walk_records.specs.Opening.{count_of, Opens, OpensMember, counted_at, vector_at, string_at, box_at, table_at, union_at, elements_of, value_of, envelopes_of, raw_words, sealed_at, payload_of}
use Rattle.rules.specs.declared.Fault.{Fault}

abbrev pub CountAt : (bytes : List ℕ) (optional largest at : ℕ) → Result (Option ℕ) Fault → Type 0
CountAt bytes optional largest at r =
    (t : TypeTable) (handles : ℕ) → count_of r ≡ read_count (message t bytes handles) (eqb optional 1) largest at

module _ (bytes : List ℕ) (depth : ℕ) (values values' objects objects' : List ℕ) (at : ℕ) (c : Cursor) where
  -- A count's record and the object that it leads to, whatever is walked in it, as `fields` makes it of the count and of what lies deeper.
  abbrev pub CountedOpens : (row size largest optional : ℕ) → Result Opened Fault → Type 0
  CountedOpens row size largest optional r =
      (t : TypeTable) (handles : ℕ) (fields : (count : ℕ) → (ℕ → Decoder) → D.Deeper → Decoder) → Ask (length bytes) handles 16 at c
      → Opens (length bytes) handles 16 values values' objects objects' c
      (counted_at (message t bytes handles) depth row size largest (eqb optional 1) fields at c.next c.handles)
      (λ x. x.count * size)
      (λ x. fields x.count (W.decode_row (message t bytes handles) (W.levels (message t bytes handles) (depth - 1)))
      (W.levels (message t bytes handles) (depth - 1)) x.start x.cursor.next x.cursor.handles) r

  -- The same of a vector, whose elements are of a row of that size; it follows from the above.
  abbrev pub VectorOpens : (row size largest optional : ℕ) → Result Opened Fault → Type 0
  VectorOpens row size largest optional r =
      (t : TypeTable) (handles element : ℕ) → size_of t element ≡ size → Ask (length bytes) handles 16 at c
      → Opens (length bytes) handles 16 values values' objects objects' c
      (vector_at (message t bytes handles) depth row element largest (eqb optional 1) at c.next c.handles)
      (λ x. x.count * size) (elements_of (message t bytes handles) depth size element) r

  abbrev pub StringDid : (row largest optional : ℕ) → Walked → Type 0
  StringDid row largest optional r =
      (t : TypeTable) (handles : ℕ) → Ask (length bytes) handles 16 at c → Did (length bytes) handles 16 values values' objects objects' c r
      (string_at (message t bytes handles) depth row largest (eqb optional 1) at c.next c.handles)

  abbrev pub BoxOpens : (element size : ℕ) → Result Opened Fault → Type 0
  BoxOpens element size r =
      (t : TypeTable) (handles : ℕ) → size_of t element ≡ size → Ask (length bytes) handles 8 at c
      → Opens (length bytes) handles 8 values values' objects objects' c
      (box_at (message t bytes handles) depth element at c.next c.handles) (λ x. size) (value_of (message t bytes handles) depth element) r

  abbrev pub TableOpens : (row : ℕ) → Result Opened Fault → Type 0
  TableOpens row r =
      (t : TypeTable) (handles : ℕ) (content : ℕ → Content) → t.edition ≡ eight_byte_envelopes → Ask (length bytes) handles 16 at c
      → Opens (length bytes) handles 16 values values' objects objects' c
      (table_at (message t bytes handles) depth row content at c.next c.handles) (λ x. x.count * 8) (envelopes_of (message t bytes handles) depth row content) r

-- What comes of the walk of a text that starts at a byte of the message: it goes on from a cursor, or is refused where the text breaks.
abbrev pub text_judged : Text → (start : ℕ) → Cursor → Walked
text_judged text start c = Ok c
text_judged (broken offset) start c = Err (fault text_not_utf8 (Byte (start + offset)))

-- Unknown content takes handles, of so many that there are.
module _ (bytes : List ℕ) (handles depth : ℕ) (values values' objects objects' : List ℕ) (at : ℕ) (c : Cursor) where
  abbrev pub UnknownDid : (row : ℕ) → Walked → Type 0
  UnknownDid row r =
      (t : TypeTable) → Did (length bytes) handles 7 values values' objects objects' c r
      (unknown_envelope (message t bytes handles) (W.levels (message t bytes handles) depth) row at c.next c.handles)

  abbrev pub UnknownOutOfLineDid : (row : ℕ) → Walked → Type 0
  UnknownOutOfLineDid row r =
      (t : TypeTable) → Did (length bytes) handles 7 values values' objects objects' c r
      (unknown_out_of_line (message t bytes handles) (W.levels (message t bytes handles) depth) row at at c.next c.handles)

-- Unknown content in line. The objects are left alone.
abbrev pub UnknownInLineDid : (bytes : List ℕ) (handles depth : ℕ) (values values' : List ℕ) (at : ℕ) (c : Cursor) → Walked → Type 0
UnknownInLineDid bytes handles depth values values' at c r =
    (t : TypeTable) (objects : List ℕ) → Did (length bytes) handles 7 values values' objects objects c r
    (unknown_in_line (message t bytes handles) (W.levels (message t bytes handles) depth) at at c.next c.handles)

abbrev pub RawWordsDid : (bytes : List ℕ) (handles : ℕ) (values values' objects objects' : List ℕ) (at : ℕ) (c : Cursor) (row size number : ℕ) → Walked → Type 0
RawWordsDid bytes handles values values' objects objects' at c row size number r =
    (t : TypeTable) → Did (length bytes) handles 5 values values' objects objects' c r
    (raw_words (message t bytes handles) row size number at c.next c.handles)

-- The handles of unknown content are taken: both lists are left alone.
abbrev pub TakenDid : (handles number at : ℕ) (c : Cursor) → Walked → Type 0
TakenDid handles number at c r =
    (t : TypeTable) (bytes values objects : List ℕ) (content from : ℕ) → c.next ≤ length bytes
    → Did (length bytes) handles 0 values values objects objects c r
    (D.take_handles (message t bytes handles) at (unknown_content content number) from c.next c.handles)

-- A union whose members are so many from `first` on; `form` is 1 for optional, 2 for flexible, 3 for both. The objects are left alone.
abbrev pub UnionOpens : (members bytes values values' : List ℕ) (at : ℕ) (c : Cursor) (first count form : ℕ) → Result Member Fault → Type 0
UnionOpens members bytes values values' at c first count form r =
    (t : TypeTable) (objects : List ℕ) (handles depth row : ℕ) → t.edition ≡ eight_byte_envelopes → t.members ≡ members → Ask (length bytes) handles 16 at c
    → OpensMember (length bytes) handles 16 values values' objects objects c
    (union_at (message t bytes handles) depth row (content_of t first count) (eqb (form % 2) 1) (eqb (form / 2) 1) at c.next c.handles)
    (λ what e. content_of_eight_bytes (message t bytes handles) (W.levels (message t bytes handles) depth) row (ordinal_is what) (at + 8) e.next e.handles) r

-- A known payload's envelope, before its value. The values are left alone.
abbrev pub KnownOpens : (bytes : List ℕ) (depth : ℕ) (objects objects' : List ℕ) (at : ℕ) (c : Cursor) (payload size : ℕ) → Result Opened Fault → Type 0
KnownOpens bytes depth objects objects' at c payload size r =
    (t : TypeTable) (values : List ℕ) (handles row : ℕ) → size_of t payload ≡ size → Ask (length bytes) handles 7 at c
    → Opens (length bytes) handles 7 values values objects objects' c
    (content_of_eight_bytes (message t bytes handles) (W.levels (message t bytes handles) depth) row (known payload) at c.next c.handles)
    (λ x. size) (payload_of (message t bytes handles) depth payload size at c.next c.handles) r

-- One level deeper, and a claim there: whatever is walked in the object, as `fields` makes it of what lies deeper.
abbrev pub DeeperOpens : (bytes : List ℕ) (depth : ℕ) (objects objects' : List ℕ) (at : ℕ) (c : Cursor) (kind row size : ℕ) → Result Opened Fault → Type 0
DeeperOpens bytes depth objects objects' at c kind row size r =
    (t : TypeTable) (values : List ℕ) (handles : ℕ) (fields : (ℕ → Decoder) → D.Deeper → Decoder) → Ask (length bytes) handles 4 at c
    → Opens (length bytes) handles 4 values values objects objects' c
    (D.one_deeper (W.levels (message t bytes handles) depth) at (λ F b. D.claim (message t bytes handles) kind row size (fields F b)) at c.next c.handles)
    (λ x. size)
    (λ x. fields (W.decode_row (message t bytes handles) (W.levels (message t bytes handles) (depth - 1))) (W.levels (message t bytes handles) (depth - 1))
    x.start x.cursor.next x.cursor.handles) r

-- So many envelopes one level deeper, of which the last is judged before any is walked: `envelopes` makes them of what lies deeper.
abbrev pub EnvelopesOpen : (bytes : List ℕ) (depth : ℕ) (objects objects' : List ℕ) (at : ℕ) (c : Cursor) (row count : ℕ) → Result Opened Fault → Type 0
EnvelopesOpen bytes depth objects objects' at c row count r =
    (t : TypeTable) (values : List ℕ) (handles : ℕ) (envelopes : D.Deeper → Decoder) → Ask (length bytes) handles 4 at c
    → Opens (length bytes) handles 4 values values objects objects' c
    (D.one_deeper (W.levels (message t bytes handles) depth) at
    (λ F b. D.claim (message t bytes handles) envelopes_object row (count * 8) (D.last_present (message t bytes handles) 8 count (envelopes b))) at c.next c.handles)
    (λ x. count * 8)
    (λ x. envelopes (W.levels (message t bytes handles) (depth - 1)) x.start x.cursor.next x.cursor.handles) r

-- After a known payload: the cursor is the one after it, and `next` and `used` stood before it.
abbrev pub SealDid : (bytes : List ℕ) (size at next used : ℕ) (c : Cursor) → Walked → Type 0
SealDid bytes size at next used c r =
    (t : TypeTable) (values objects : List ℕ) (handles : ℕ) → c.next ≤ length bytes → c.handles ≤ handles
    → Did (length bytes) handles 0 values values objects objects c r (sealed_at (message t bytes handles) size at next used c.next c.handles)

-- The member that a union's ordinal stands for.
abbrev pub MemberIs : (bytes members : List ℕ) (first count at : ℕ) → Result Member Fault → Type 0
MemberIs bytes members first count at (Ok (Absent e)) = Unit {0}
MemberIs bytes members first count at (Err f) = Unit {0}
MemberIs bytes members first count at (Ok (Present what e)) = ContentIs members first count (word bytes at 8) what
