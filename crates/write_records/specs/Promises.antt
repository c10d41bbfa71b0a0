-- What the functions of records.rt and envelopes.rt promise. Each holds under any type table in which the sizes handed in are the
-- rows', wherever the output starts; tables and unions where envelopes have eight bytes.
-- Assumes nothing.
use Rattle.std.specs.Prelude.{true, List, ◌++◌, ◌≡◌, ℕ, zero, suc, ◌+◌, ◌-◌, ◌*◌, ◌/◌, ◌%◌, ◌<◌, eqb, leb, length, drop, get_or, if◌then◌else◌, Err, Ok, Option, Result}
use Rattle.std.proofs.lemmas.List.Edits.{sets}
use Rattle.rules.specs.Bytes.{ones64, zeros, bytes_of}
use Rattle.rules.specs.TypeTable.{TypeTable, eight_byte_envelopes, Content, content_of}
use Rattle.rules.specs.Sizes.{size_of}
use Rattle.rules.specs.Encode as E
use Rattle.rules.specs.Encode.{Encoder}
use Rattle.rules.specs.Records.{ordinal_pattern, write_number, write_presence, write_count, write_table}
use Rattle.rules.specs.Envelope.{in_line, out_of_line, envelope_bytes, write_content_of_eight_bytes, write_unknown}
use Rattle.rules.specs.Writer as R
use Rattle.ordinals.specs.Ordinals.{ordinal_is, ContentIs}
use Rattle.write_leaves.specs.declared.cursor.Cursor.{Cursor}
use Rattle.write_leaves.specs.Putting.{Wrote, Put, Puts, took_one, Ask}
use Rattle.write_records.specs.declared.records.Opening.{Opening}
use Rattle.write_records.specs.declared.records.Opened.{Opened}
use Rattle.write_records.specs.declared.records.Opened.TheVariants.{Closed, Open}
use Rattle.write_records.specs.declared.envelopes.Member.{Member}
use Rattle.write_records.specs.declared.envelopes.Member.TheVariants.{Absent, Present}
use Rattle.write_leaves.specs.InLine.{numbers_as}
use Rattle.write_records.specs.Opening.{claimed_from, to_open, ObjectPut, Opens}
use Rattle.rules.specs.declared.Fault.{Fault}

-- For an object that is open a level of depth was left.
abbrev pub Reaches : (depth : ℕ) → Result Opened Fault → Type 0
Reaches depth (Ok (Closed d)) = Unit {0}
Reaches depth (Err f) = Unit {0}
Reaches depth (Ok (Open x)) = 0 < depth

-- A claim, whatever is written in it: 3. The output is left alone.
abbrev pub ClaimOpens : (size : ℕ) (c : Cursor) → Result Opening Fault → Type 0
ClaimOpens size c r =
    (values out : List ℕ) (at base : ℕ) (fields : Encoder) → Ask values 0 at base c
    → Opens values out out 0 at base c (E.claim size fields (drop c.index values) c.next c.handles) (λ x. size) (λ x. fields) (to_open r)

-- One level deeper, and a claim there: 5, 3.
abbrev pub DeeperOpens : (depth size : ℕ) (c : Cursor) → Result Opening Fault → Type 0
DeeperOpens depth size c r =
    (t : TypeTable) (values out : List ℕ) (at base : ℕ) (fields : (ℕ → Encoder) → E.Deeper → Encoder) → Ask values 0 at base c
    → Opens values out out 0 at base c
    (E.one_deeper (R.levels t depth) (λ rows b. E.claim size (fields rows b)) (drop c.index values) c.next c.handles) (λ x. size)
    (λ x. fields (R.encode_row t (R.levels t (depth - 1))) (R.levels t (depth - 1))) (to_open r)

-- An object of an opening's count of numbers of a width, from its claim on.
abbrev pub NumbersPut : (values out out' : List ℕ) (base width : ℕ) (x : Opening) → Wrote → Type 0
NumbersPut values out out' base width x r = ObjectPut values out out' (x.count * width) base (claimed_from x) r (numbers_as width x.count)

-- What a count leads to, whatever is written in the object, as `fields` makes it of the count and of what lies deeper.
abbrev pub after_count : E.Deeper → (size : ℕ) (fields : (count : ℕ) → (ℕ → Encoder) → E.Deeper → Encoder) (value : ℕ) → Encoder
after_count below size fields zero = E.nothing
after_count below size fields (suc count) = E.one_deeper below (λ rows b. E.claim (count * size) (fields count rows b))

module _ (values out out' : List ℕ) (depth at : ℕ) (c : Cursor) where
  -- A count's record, and the object that it leads to.
  abbrev pub CountedOpens : (size largest optional : ℕ) → Result Opened Fault → Type 0
  CountedOpens size largest optional r =
      (t : TypeTable) (base : ℕ) (fields : (count : ℕ) → (ℕ → Encoder) → E.Deeper → Encoder) → Ask values 16 at base c
      → Opens values out out' 16 at base c
      (E.record_then (write_count (eqb optional 1) largest) (after_count (R.levels t depth) size fields) (drop c.index values) c.next c.handles)
      (λ x. x.count * size) (λ x. fields x.count (R.encode_row t (R.levels t (depth - 1))) (R.levels t (depth - 1))) r

  -- The same of a vector, whose elements are of a row of that size; it follows from the above.
  abbrev pub VectorOpens : (size largest optional : ℕ) → Result Opened Fault → Type 0
  VectorOpens size largest optional r =
      (t : TypeTable) (element base : ℕ) → size_of t element ≡ size → Ask values 16 at base c
      → Opens values out out' 16 at base c
      (E.record_then (write_count (eqb optional 1) largest) (R.after_vector t (R.levels t depth) element) (drop c.index values) c.next c.handles)
      (λ x. x.count * size) (λ x. E.elements (λ i. R.encode_row t (R.levels t (depth - 1)) element) 0 x.count) r

  abbrev pub StringPuts : (base largest optional : ℕ) → Wrote → Type 0
  StringPuts base largest optional r =
      (t : TypeTable) → Puts values out out' 16 at base c r (E.record_then (write_count (eqb optional 1) largest) (R.after_string t (R.levels t depth)))

  abbrev pub BoxOpens : (size : ℕ) → Result Opened Fault → Type 0
  BoxOpens size r =
      (t : TypeTable) (element base : ℕ) → size_of t element ≡ size → Ask values 8 at base c
      → Opens values out out' 8 at base c
      (E.record_then (write_presence 8 ones64 true) (R.after_box t (R.levels t depth) element) (drop c.index values) c.next c.handles)
      (λ x. size) (λ x. R.encode_row t (R.levels t (depth - 1)) element) r

  abbrev pub TableOpens : Result Opened Fault → Type 0
  TableOpens r =
      (t : TypeTable) (content : ℕ → Content) (base : ℕ) → t.edition ≡ eight_byte_envelopes → Ask values 16 at base c
      → Opens values out out' 16 at base c
      (E.record_then write_table (R.after_table t (R.levels t depth) content) (drop c.index values) c.next c.handles)
      (λ x. x.count * 8)
      (λ x. E.elements (λ ordinal. E.optional_envelope 8 (eqb ordinal x.count) (write_content_of_eight_bytes t (R.levels t (depth - 1)) (content ordinal))) 1 x.count) r

  -- An envelope with content of an unknown ordinal.
  abbrev pub UnknownPuts : (base : ℕ) → Wrote → Type 0
  UnknownPuts base r = (t : TypeTable) → Puts values out out' 8 at base c r (write_unknown (R.levels t depth))

-- The fields of an envelope that a known payload of `size` bytes fills: in line, its fill up to four, and then the handle number and the
-- flags; out of line, the byte number as well.
abbrev pub sealed_out : (out : List ℕ) (size at bytes handles : ℕ) → List ℕ
sealed_out out size at bytes handles =
    if leb size 4 then sets (sets out (at + size) (zeros (4 - size))) (at + 4) (bytes_of 2 handles ++ bytes_of 2 in_line)
    else sets out at (envelope_bytes bytes handles out_of_line)

-- ---- a union

-- Put already, or refused; or whoever writes the member's content in the envelope after the ordinal has put the whole.
abbrev pub OpensMember : (values out out' : List ℕ) (inline at base : ℕ) (c : Cursor) (whole : E.Encoded) (content : Option ℕ → Encoder) → Result Member Fault → Type 0
OpensMember values out out' inline at base c whole content (Ok (Absent d)) = Put values out out' inline at base c (Ok d) whole
OpensMember values out out' inline at base c whole content (Err f) = Put values out out' inline at base c (Err f) whole
OpensMember values out out' inline at base c whole content (Ok (Present what d)) =
    (d ≡ took_one c) × (c.index < length values)
    × ((out'' : List ℕ) (r : Wrote) → Puts values out' out'' 8 (at + 8) base d r (content what) → Put values out out'' inline at base c r whole)

-- A union whose members are so many from `first` on; `form` is 1 for optional, 2 for flexible, 3 for both.
abbrev pub UnionOpens : (members values out out' : List ℕ) (at : ℕ) (c : Cursor) (first count form : ℕ) → Result Member Fault → Type 0
UnionOpens members values out out' at c first count form r =
    (t : TypeTable) (depth base : ℕ) → t.edition ≡ eight_byte_envelopes → t.members ≡ members → Ask values 16 at base c
    → OpensMember values out out' 16 at base c
    (E.record_then (write_number 8 (ordinal_pattern (content_of t first count) (eqb (form % 2) 1) (eqb (form / 2) 1)))
    (R.after_union t (R.levels t depth) (content_of t first count)) (drop c.index values) c.next c.handles)
    (λ what. write_content_of_eight_bytes t (R.levels t depth) (ordinal_is what)) r

-- The member that a union's number stands for.
abbrev pub MemberIs : (members values : List ℕ) (c : Cursor) (first count : ℕ) → Result Member Fault → Type 0
MemberIs members values c first count (Ok (Absent d)) = Unit {0}
MemberIs members values c first count (Err f) = Unit {0}
MemberIs members values c first count (Ok (Present what d)) = ContentIs members first count (get_or values c.index 0) what
