-- What layout calculator, header, text, listing and round trip promise, each as its `ensures` says it: of what is handed in, the lists lent
-- before and after, and the answer. That these are the functions' own promises: proofs/OtherPromises.antt.
use Rattle.std.specs.Prelude.{Bool, List, ◌≡◌, ℕ, ℤ, length, Result}
use Rattle.std.proofs.lemmas.List.Edits.{sets}
use Rattle.rules.specs.Refusals.{lent_after}
use Rattle.rules.specs.Bytes.{part}
use Rattle.rules.specs.TypeTable.{type_table}
use Rattle.rules.specs.Sound.{soundness}
use Rattle.rules.specs.Text.{utf8, is_utf8}
use Rattle.rules.specs.Answers.{layout_answer, text_answer, output_after, numbers_of, nothing, laid, counted, answer_of, result_numbers}
use Rattle.rules.specs.Header as Rules
use Rattle.layout.specs.Answers as Layouts
use Rattle.header.specs.declared.Header.{Header}
use Rattle.header.specs.Meaning as Meaning
use Rattle.text.specs.Answers.{text_of, text_numbers}
use Rattle.walk_leaves.specs.Doing as Doing
use Rattle.listing.specs.Listing.{listing}
use Rattle.demands.specs.declared.Trip.{Trip}
use Rattle.demands.specs.Trips.{trip, trip_values, trip_of}
use Rattle.rules.specs.declared.Fault.{Fault}
use Rattle.header.specs.declared.Received.{Received}
use Rattle.rules.specs.declared.Layout.{Layout}

-- layout::prepare
pub record Prepares (rows members entries sizes sizes' alignments alignments' : List ℕ) (r : Result (Unit {0}) Fault) : Type 0 where
  pub answer : answer_of r ≡ soundness (type_table rows members entries)
  pub sizes_list : sizes' ≡ Layouts.given_if_sound (type_table rows members entries) (Layouts.kept_sizes (type_table rows members entries)) sizes
  pub alignments_list : alignments' ≡ Layouts.given_if_sound (type_table rows members entries) (Layouts.kept_alignments (type_table rows members entries)) alignments
  pub numbers : result_numbers 0 nothing r ≡ numbers_of 0 nothing (soundness (type_table rows members entries))

-- layout::layout_of
pub record LaysOut (rows members entries : List ℕ) (row : ℕ) (r : Result Layout Fault) : Type 0 where
  pub answer : answer_of r ≡ layout_answer (type_table rows members entries) row
  pub numbers : result_numbers 2 laid r ≡ numbers_of 2 laid (layout_answer (type_table rows members entries) row)

-- layout::root_allowed
pub record AllowsRoot (rows : List ℕ) (root : ℕ) (r : Bool) : Type 0 where
  pub answer : Layouts.RootIs rows root r

-- header::read_header
pub record ReadsHeader (message : List ℕ) (r : Result Received Fault) : Type 0 where
  pub answer : Meaning.header_answer (answer_of r) ≡ Rules.read_header message
  pub numbers : result_numbers 5 Meaning.received_fields r ≡ numbers_of 5 Rules.fields (Rules.read_header message)
  pub status : Meaning.status_of r ≡ Rules.status message

-- header::body: the part that is handed back, and by block and offset where message and part start
pub record HandsBody (message : List ℕ) (at : ℕ × ℕ) (body : List ℕ) (body_at : ℕ × ℕ) : Type 0 where
  pub bytes : body ≡ Rules.body message
  pub start : body_at ≡ Meaning.body_start (Rules.read_header message) at

-- header::write_header
pub record WritesHeader (header : Header) (out out' : List ℕ) (r : Result ℕ Fault) : Type 0 where
  pub answer : answer_of r ≡ Meaning.byte_count (Rules.write_header (Meaning.header_of header) (length out))
  pub output : out' ≡ lent_after (Rules.write_header (Meaning.header_of header) (length out)) out
  pub numbers : result_numbers 1 Meaning.one r ≡ numbers_of 1 counted (Rules.write_header (Meaning.header_of header) (length out))

-- header::write_epitaph
pub record WritesEpitaph (flag0 flag1 flag2 : ℕ) (status : ℤ) (out out' : List ℕ) (r : Result ℕ Fault) : Type 0 where
  pub answer : answer_of r ≡ Meaning.byte_count (Rules.write_epitaph flag0 flag1 flag2 status (length out))
  pub output : out' ≡ lent_after (Rules.write_epitaph flag0 flag1 flag2 status (length out)) out
  pub numbers : result_numbers 1 Meaning.one r ≡ numbers_of 1 counted (Rules.write_epitaph flag0 flag1 flag2 status (length out))

-- text::judge
pub record JudgesText (text : List ℕ) (r : Result (Unit {0}) ℕ) : Type 0 where
  pub answer : text_of r ≡ utf8 text
  pub numbers : text_numbers r ≡ numbers_of 0 nothing (text_answer text)

-- text::judge_part
pub record JudgesPart (bytes : List ℕ) (at count : ℕ) (r : Result (Unit {0}) ℕ) : Type 0 where
  pub answer : text_of r ≡ utf8 (part bytes at count)
  pub numbers : text_numbers r ≡ numbers_of 0 nothing (text_answer (part bytes at count))

-- text::is_utf8
pub record IsText (bytes : List ℕ) (at count : ℕ) (r : Bool) : Type 0 where
  pub answer : r ≡ is_utf8 (part bytes at count)

-- text::are_utf8
pub record AreText (numbers : List ℕ) (r : Bool) : Type 0 where
  pub answer : r ≡ is_utf8 numbers

-- listing::listing
pub record Lists (message out out' : List ℕ) (count : ℕ) : Type 0 where
  pub answer : count ≡ length (listing message)
  pub output : out' ≡ sets out 0 (listing message)

-- demands::round_trip
pub record RoundTrips (rows members entries : List ℕ) (root : ℕ) (message : List ℕ) (handles : ℕ) (values values' out out' : List ℕ) (r : Result Trip Fault) : Type 0 where
  pub answer : r ≡ trip_of (trip (Doing.message (type_table rows members entries) message handles) root (length values) (length out))
  pub values_list : values' ≡ lent_after (trip_values (Doing.message (type_table rows members entries) message handles) root (length values) (length out)) values
  pub output : out' ≡ output_after (trip (Doing.message (type_table rows members entries) message handles) root (length values) (length out)) out
