-- What the walk is made of. Encode.antt has a twin for each part.
-- Assumes nothing.
use Rattle.std.specs.Prelude.{Bool, true, false, not, List, [], ◌∷◌, ◌++◌, ℕ, zero, suc, ◌+◌, ◌-◌, ◌*◌, leb, eqb, length, if◌then◌else◌}
use Rattle.rules.specs.declared.Place.TheVariants.{Byte}
use Rattle.rules.specs.declared.Fault.{Fault}
use Rattle.rules.specs.Refusals.{fault, too_deep, object_does_not_fit, fill_not_zero, absent_not_zero, too_few_handles, present_envelope_zero, last_envelope_zero}
use Rattle.rules.specs.Bytes.{part, leading_zeros, padded}
use Rattle.rules.specs.TypeTable.{TypeTable}
use Rattle.rules.specs.Trace.{Event, claimed, handles_of}

-- What is walked: a message's bytes and its handle count, under a type table.
pub record Message : Type 0 where
  pub table : TypeTable
  pub bytes : List ℕ
  pub handles : ℕ

-- A part of the walk went on, to a next free place with so many handles used; or it was stopped. Either way with the
-- value numbers that it gave and the events that it met.
pub data Decoded : Type 0 where
  went : (next used : ℕ) (values : List ℕ) (trace : List Event) → Decoded
  stopped : Fault → (values : List ℕ) (trace : List Event) → Decoded

abbrev pub values_of : Decoded → List ℕ
values_of (went next used values trace) = values
values_of (stopped f values trace) = values

abbrev pub trace_of : Decoded → List Event
trace_of (went next used values trace) = trace
trace_of (stopped f values trace) = trace

-- A part of the walk: what it decodes stands in line at a place; objects are claimed from the next free place on.
abbrev pub Decoder : Type 0
Decoder = (at next used : ℕ) → Decoded

-- ---- results

-- What came before a result stands in front of it.
abbrev pub after : List ℕ → List Event → Decoded → Decoded
after vs t (went next used values trace) = went next used (vs ++ values) (t ++ trace)
after vs t (stopped f values trace) = stopped f (vs ++ values) (t ++ trace)

abbrev pub and_then : Decoded → (ℕ → ℕ → Decoded) → Decoded
and_then (went next used values trace) k = after values trace (k next used)
and_then (stopped f values trace) k = stopped f values trace

-- "In the walk the first failed test decides": a test before a part,
abbrev pub require : Bool → Fault → Decoded → Decoded
require true f result = result
require false f result = stopped f [] []

-- and one after it, of what it came to.
abbrev pub require_after : ((next used : ℕ) (values : List ℕ) → Bool) → Fault → Decoded → Decoded
require_after holds f (went next used values trace) =
    if holds next used values then went next used values trace else stopped f values trace
require_after holds f (stopped g values trace) = stopped g values trace

-- ---- parts in turn

abbrev pub nothing : Decoder
nothing at next used = went next used [] []

abbrev pub refuse : Fault → Decoder
refuse f at next used = stopped f [] []

-- One part, of so many bytes in line, then another.
unfoldable pub sequence : (size : ℕ) → Decoder → Decoder → Decoder
sequence size first second at next used = and_then (first at next used) (λ n u. second (at + size) n u)

-- Parts number `index`, `index` + 1, .., each of so many bytes in line.
unfoldable pub elements : (size : ℕ) → (ℕ → Decoder) → (index count : ℕ) → Decoder
elements size parts index zero = nothing
elements size parts index (suc count) = sequence size (parts index) (elements size parts (suc index) count)

-- A part that needs to know its place.
abbrev pub here : (ℕ → Decoder) → Decoder
here part at = part at at

-- Values that are given before a part.
abbrev pub emit : List ℕ → Decoder → Decoder
emit values part at next used = after values [] (part at next used)

-- ---- records: so many bytes in line that hold one value number

pub data ReadRecord : Type 0 where
  got : (value : ℕ) → ReadRecord
  wrong : Fault → ReadRecord

abbrev pub record_goes : ReadRecord → (ℕ → Decoded) → Decoded
record_goes (got v) k = after (v ∷ []) [] (k v)
record_goes (wrong f) k = stopped f [] []

-- A record, then what its value leads to, given the record's place.
unfoldable pub record_then : (size : ℕ) → (read : ℕ → ReadRecord) → ((record_at value : ℕ) → Decoder) → Decoder
record_then size read continue at next used = record_goes (read at) (λ v. continue at v (at + size) next used)

-- A test of the values that a part gave, after it. Its refusal may name a place among them.
unfoldable pub checked : (List ℕ → Bool) → ((at : ℕ) (values : List ℕ) → Fault) → Decoder → Decoder
checked holds f part at next used =
    require_after (λ n u values. holds values) (f at (values_of (part at next used))) (part at next used)

-- ---- depth

-- What lies deeper: nothing, or the walk of any row one level down and what lies deeper than that.
pub data Deeper : Type 0 where
  spent : Deeper
  deeper : (rows : ℕ → Decoder) → Deeper → Deeper

-- 5: at the record or envelope that would go deeper.
abbrev pub one_deeper : Deeper → (record_at : ℕ) → ((rows : ℕ → Decoder) → Deeper → Decoder) → Decoder
one_deeper spent record_at k = refuse (fault too_deep (Byte record_at))
one_deeper (deeper rows below) record_at k = k rows below

-- ---- the message

module _ (m : Message) where
  abbrev pub is_zero : (at count : ℕ) → Bool
  is_zero at count = eqb (leading_zeros (part m.bytes at count)) count

  -- 7: at the first byte of the fill that is not zero.
  abbrev pub require_zero : (at count : ℕ) → Decoded → Decoded
  require_zero at count result = require (is_zero at count) (fault fill_not_zero (Byte (at + leading_zeros (part m.bytes at count)))) result

  unfoldable pub fill : (count : ℕ) → Decoder
  fill count at next used = require_zero at count (went next used [] [])

  -- "Claiming an object tests first that it and its fill up to eight lie in the message (6), then the fill (7). Then its
  -- fields go in order."
  unfoldable pub claim : (kind row size : ℕ) → Decoder → Decoder
  claim kind row size fields at next used =
      let walked = after [] (claimed kind row next size ∷ []) (fields next (next + padded size) used) in
      let filled = require_zero (next + size) (padded size - size) walked in
      require (leb (next + padded size) (length m.bytes)) (fault object_does_not_fit (Byte next)) filled

  -- 14: at the handle's word or at the envelope; an event that takes handles.
  unfoldable pub take_handles : (word_at : ℕ) → Event → Decoder
  take_handles word_at event at next used =
      require (leb (used + handles_of event) m.handles) (fault too_few_handles (Byte word_at)) (went next (used + handles_of event) [] (event ∷ []))

  -- ---- envelopes of any edition, `size` bytes each

  -- 19: a table's last envelope is present; at that envelope.
  abbrev pub require_last : (present : Bool) (at : ℕ) → Decoded → Decoded
  require_last present at result = require present (fault last_envelope_zero (Byte at)) result

  -- An envelope in a table: absent, which the last may not be, or its content.
  unfoldable pub optional_envelope : (size : ℕ) → (last : Bool) → Decoder → Decoder
  optional_envelope size last content at next used =
      let present = after (1 ∷ []) [] (content at next used) in
      let absent = require_last (not last) at (went next used (0 ∷ []) []) in
      if is_zero at size then absent else present

  -- The last of a table's `count` envelopes is judged before any of them is walked.
  unfoldable pub last_present : (size count : ℕ) → Decoder → Decoder
  last_present size zero envelopes at next used = envelopes at next used
  last_present size (suc count) envelopes at next used =
      let walked = envelopes at next used in
      require_last (not (is_zero (at + count * size) size)) (at + count * size) walked

  -- 11: the envelope of a union without a member is all zero; at the union.
  unfoldable pub zero_envelope : (size union-at : ℕ) → Decoder
  zero_envelope size union-at at next used = require (is_zero at size) (fault absent_not_zero (Byte union-at)) (went next used [] [])

  -- 18: the envelope of a union with a member is not zero; at the envelope.
  unfoldable pub present_envelope : (size : ℕ) → Decoder → Decoder
  present_envelope size content at next used =
      let walked = content at next used in
      require (not (is_zero at size)) (fault present_envelope_zero (Byte at)) walked
