-- Records that lead to an object: what was done, and what is left to do.
-- Assumes nothing.
use Rattle.std.specs.Prelude.{Bool, true, List, [], ◌≡◌, ℕ, zero, suc, ◌+◌, ◌-◌, ◌*◌, ◌/◌, ◌<◌, leb, eqb, if◌then◌else◌, Err, None, Ok, Option, Result, Some}
use Rattle.rules.specs.declared.Place.TheVariants.{Byte}
use Rattle.rules.specs.Refusals.{fault, byte_number_wrong, handle_number_wrong}
use Rattle.rules.specs.Bytes.{ones64}
use Rattle.rules.specs.Trace.{vector_object, unknown_content, unknown_object}
use Rattle.rules.specs.TypeTable.{Content}
use Rattle.rules.specs.Decode as D
use Rattle.rules.specs.Decode.{Message, Decoded, went, Decoder, ReadRecord, got, wrong}
use Rattle.rules.specs.Records.{ordinal_pattern, read_number, read_presence, read_count, read_table}
use Rattle.rules.specs.Envelope.{decode_word, low_word, handle_number, content_of_eight_bytes}
use Rattle.rules.specs.Walk as W
use Rattle.walk_leaves.specs.declared.cursor.Cursor.{Cursor}
use Rattle.walk_leaves.specs.Doing.{Walked}
use Rattle.walk_records.specs.declared.records.Opening.{Opening}
use Rattle.walk_records.specs.declared.records.Opened.{Opened}
use Rattle.walk_records.specs.declared.records.Opened.TheVariants.{Closed, Open}
use Rattle.walk_records.specs.declared.envelopes.Member.{Member}
use Rattle.walk_records.specs.declared.envelopes.Member.TheVariants.{Absent, Present}
use Rattle.walk_leaves.specs.Doing.{Rises, Did, Ask, Leads}
use Rattle.rules.specs.declared.Fault.{Fault}

-- What a part is asked for that takes no handles: those that are used are enough.
abbrev pub AskBytes : (total need at : ℕ) (c : Cursor) → Type 0
AskBytes total need at c = Ask total c.handles need at c

-- ---- what the code's enums mean

abbrev pub count_of : Result (Option ℕ) Fault → ReadRecord
count_of (Ok None) = got 0
count_of (Ok (Some count)) = got (suc count)
count_of (Err f) = wrong f

-- Done already, or refused; or an object is open, and what is left of the whole is `left`, which takes `need` bytes of it.
abbrev pub Opens : (total handles grow : ℕ) (values values' objects objects' : List ℕ) (c : Cursor) (whole : Decoded)
    → (need : Opening → ℕ) (left : Opening → Decoded) → Result Opened Fault → Type 0
Opens total handles grow values values' objects objects' c whole need left (Ok (Closed e)) = Did total handles grow values values' objects objects' c (Ok e) whole
Opens total handles grow values values' objects objects' c whole need left (Err f) = Did total handles grow values values' objects objects' c (Err f) whole
Opens total handles grow values values' objects objects' c whole need left (Ok (Open x)) =
    Ask total handles (need x) x.start x.cursor × Leads total handles grow (need x) values values' objects objects' c x.cursor whole (left x)
    × Rises c (Ok x.cursor)

-- An object that is open has so many elements.
abbrev pub HasCount : (count : ℕ) → Result Opened Fault → Type 0
HasCount count (Ok (Closed e)) = Unit {0}
HasCount count (Err f) = Unit {0}
HasCount count (Ok (Open x)) = x.count ≡ count

-- An object is open only where a level is left.
abbrev pub Reaches : (depth : ℕ) → Result Opened Fault → Type 0
Reaches depth (Ok (Closed e)) = Unit {0}
Reaches depth (Err f) = Unit {0}
Reaches depth (Ok (Open x)) = 0 < depth

-- The same of a union's member, whose envelope is left.
abbrev pub OpensMember : (total handles grow : ℕ) (values values' objects objects' : List ℕ) (c : Cursor) (whole : Decoded)
    → (left : Option ℕ → Cursor → Decoded) → Result Member Fault → Type 0
OpensMember total handles grow values values' objects objects' c whole left (Ok (Absent e)) = Did total handles grow values values' objects objects' c (Ok e) whole
OpensMember total handles grow values values' objects objects' c whole left (Err f) = Did total handles grow values values' objects objects' c (Err f) whole
OpensMember total handles grow values values' objects objects' c whole left (Ok (Present what e)) =
    (gave : c.next ≡ e.next) × (c.handles ≡ e.handles) × (c.objects ≡ e.objects) × (e.values ≡ c.values + 1)
    × Leads total handles grow 8 values values' objects objects' c e whole (left what e)

-- ---- the records, with so much depth left

module _ (m : Message) (depth : ℕ) where
  -- A vector's or a string's: `fields` walks its object, given the count, of so many bytes for each counted.
  abbrev pub after_count : (row size : ℕ) (fields : (count : ℕ) (rows : ℕ → Decoder) → D.Deeper → Decoder) → (at value : ℕ) → Decoder
  after_count row size fields at zero = D.nothing
  after_count row size fields at (suc count) =
      D.one_deeper (W.levels m depth) at (λ rows below. D.claim m vector_object row (count * size) (fields count rows below))

  abbrev pub counted_at : (row size largest : ℕ) (optional : Bool) → ((count : ℕ) (rows : ℕ → Decoder) → D.Deeper → Decoder) → Decoder
  counted_at row size largest optional fields = D.record_then 16 (read_count m optional largest) (after_count row size fields)

  abbrev pub vector_at : (row element largest : ℕ) (optional : Bool) → Decoder
  vector_at row element largest optional = D.record_then 16 (read_count m optional largest) (W.after_vector m (W.levels m depth) row element)

  abbrev pub string_at : (row largest : ℕ) (optional : Bool) → Decoder
  string_at row largest optional = D.record_then 16 (read_count m optional largest) (W.after_string m (W.levels m depth) row)

  abbrev pub box_at : (element : ℕ) → Decoder
  box_at element = D.record_then 8 (read_presence m 8 ones64 true) (W.after_box m (W.levels m depth) element)

  abbrev pub table_at : (row : ℕ) → (ℕ → Content) → Decoder
  table_at row content = D.record_then 16 (read_table m) (W.after_table m (W.levels m depth) row content)

  abbrev pub union_at : (row : ℕ) → (ℕ → Content) → (optional flexible : Bool) → Decoder
  union_at row content optional flexible =
      D.record_then 8 (read_number m 8 (ordinal_pattern content optional flexible)) (W.after_union m (W.levels m depth) row content)

  -- what is left once a record's object is open, one level down
  abbrev pub elements_of : (size element : ℕ) → Opening → Decoded
  elements_of size element x = D.elements size (λ i. W.decode_row m (W.levels m (depth - 1)) element) 0 x.count x.start x.cursor.next x.cursor.handles

  abbrev pub value_of : (element : ℕ) → Opening → Decoded
  value_of element x = W.decode_row m (W.levels m (depth - 1)) element x.start x.cursor.next x.cursor.handles

  abbrev pub envelopes_of : (row : ℕ) → (ℕ → Content) → Opening → Decoded
  envelopes_of row content x =
      D.elements 8 (λ ordinal. D.optional_envelope m 8 (eqb ordinal x.count) (content_of_eight_bytes m (W.levels m (depth - 1)) row (content ordinal))) 1 x.count
      x.start x.cursor.next x.cursor.handles

-- ---- envelopes

-- Unknown content out of line, once its two numbers are given: 6, then 14, then its words.
abbrev pub raw_words : Message → (row size number at : ℕ) → (next used : ℕ) → Decoded
raw_words m row size number at next used =
    D.claim m unknown_object row size
    (D.sequence 0 (D.take_handles m at (unknown_content size number)) (D.elements 8 (λ i. decode_word m 8) 0 (size / 8))) at next used

-- The handle number against the handles taken since: 28.
abbrev pub handles_sealed : Message → (at used n u : ℕ) → Decoded
handles_sealed m at used n u = D.require (eqb (handle_number m at) (u - used)) (fault handle_number_wrong (Byte at)) (went n u [] [])

-- After a known payload of so many bytes: in line, its fill up to four (7); out of line, its byte number (16); then its handle number (28).
unfoldable pub sealed_at : Message → (size at next used n u : ℕ) → Decoded
sealed_at m size at next used n u =
    let filled = D.and_then (D.fill m (4 - size) (at + size) n u) (λ n₁ u₁. handles_sealed m at used n₁ u₁) in
    let covered = D.require (eqb (low_word m at) (n - next)) (fault byte_number_wrong (Byte at)) (handles_sealed m at used n u) in
    if leb size 4 then filled else covered

-- A known payload's value, and then the above.
abbrev pub payload_of : (m : Message) (depth payload size at next used : ℕ) → Opening → Decoded
payload_of m depth payload size at next used x =
    D.and_then (W.decode_row m (W.levels m (depth - 1)) payload x.start x.cursor.next x.cursor.handles) (λ n u. sealed_at m size at next used n u)
