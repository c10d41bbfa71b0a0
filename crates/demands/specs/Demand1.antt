-- The customer's demand 1: "Any type table, message, handle count, value list and room gets an answer; nothing is left for the caller
-- to check. A refusal gives the number and place that document 01 fixes and leaves every lent buffer as it was." It is stated of
-- every function that a host calls, as its promise stands (Promises.antt, OtherPromises.antt). That none asks anything of its caller:
-- proofs/Promises.antt and proofs/OtherPromises.antt. The face to C: crate `ratlinery`. The proof: proofs/Demand1.antt.
use Rattle.std.specs.Prelude.{List, [], ◌↔◌, ◌≡◌, ℕ, ℤ, pos, length, drop, Err, Result}
use Rattle.rules.specs.declared.Fault.{Fault}
use Rattle.rules.specs.Refusals.{place_number, Answer, accepted, refused, and_then}
use Rattle.rules.specs.Bytes.{part}
use Rattle.rules.specs.TypeTable.{type_table}
use Rattle.rules.specs.Sound.{soundness}
use Rattle.rules.specs.Answers as Rules
use Rattle.rules.specs.Header as HeaderRules
use Rattle.rules.specs.Answers.{answer_of}
use Rattle.layout.specs.Answers as Layouts
use Rattle.header.specs.declared.Header.{Header}
use Rattle.header.specs.Meaning as Meaning
use Rattle.text.specs.Answers as Texts
use Rattle.walk_leaves.specs.Doing as Doing
use Rattle.listing.specs.Listing.{head, answered, listing}
use Rattle.demands.specs.declared.Trip.{Trip}
use Rattle.demands.specs.Promises.{Checks, ReadsValues, ReadsObjects, Reads, Writes}
use Rattle.demands.specs.Trips.{trip, trip_values}
use Rattle.demands.specs.OtherPromises.{Prepares, LaysOut, ReadsHeader, HandsBody, WritesHeader, WritesEpitaph, JudgesText, JudgesPart, Lists, RoundTrips}
use Rattle.reader.specs.declared.Lengths.{Lengths}
use Rattle.writer.specs.declared.Sizes.{Sizes}
use Rattle.header.specs.declared.Received.{Received}
use Rattle.rules.specs.declared.Layout.{Layout}

-- A refusal that is answered is the one that the rules give, number and place, and theirs is answered.
abbrev pub Refuses : {A B : Type 0} → (answered : Answer A) (ruled : Answer B) → Type 0
Refuses answered ruled = (f : Fault) → (answered ≡ refused f) ↔ (ruled ≡ refused f)

-- A lent list after an operation: "Past a written message or list all keeps what it held"; on a refusal everything does.
abbrev pub Keeps : (given : Answer ℕ) (lent after : List ℕ) → Type 0
Keeps (accepted count) lent after = drop count after ≡ drop count lent
Keeps (refused f) lent after = after ≡ lent

-- `root_allowed`, `is_utf8` and `are_utf8` refuse nothing and are lent nothing: their promise is all there is to say.
pub record Demand1 : Type 0 where
  pub check : {rows members entries message : List ℕ} {root handles : ℕ} (r : Result (Unit {0}) Fault) → Checks rows members entries root message handles r
      → Refuses (answer_of r) (Rules.check (Doing.message (type_table rows members entries) message handles) root)
  pub read_values : {rows members entries message values values' : List ℕ} {root handles : ℕ} (r : Result ℕ Fault) → ReadsValues rows members entries root message handles values values' r
      → Refuses (answer_of r) (Rules.read_values (Doing.message (type_table rows members entries) message handles) root (length values)) × Keeps (answer_of r) values values'
  pub read_objects : {rows members entries message objects objects' : List ℕ} {root handles : ℕ} (r : Result ℕ Fault) → ReadsObjects rows members entries root message handles objects objects' r
      → Refuses (answer_of r) (Rules.read_objects (Doing.message (type_table rows members entries) message handles) root (length objects)) × Keeps (answer_of r) objects objects'
  pub read : {rows members entries message values values' objects objects' : List ℕ} {root handles : ℕ} (r : Result Lengths Fault) → Reads rows members entries root message handles values values' objects objects' r
      → Refuses (answer_of r) (Rules.read (Doing.message (type_table rows members entries) message handles) root (length values) (length objects))
      × Keeps (and_then (answer_of r) (λ n. accepted n.values)) values values' × Keeps (and_then (answer_of r) (λ n. accepted n.objects)) objects objects'
  pub write : {rows members entries values out out' : List ℕ} {root : ℕ} (r : Result Sizes Fault) → Writes rows members entries root values out out' r
      → Refuses (answer_of r) (Rules.write (type_table rows members entries) root values (length out)) × Keeps (and_then (answer_of r) (λ n. accepted n.bytes)) out out'
  pub prepare : {rows members entries sizes sizes' alignments alignments' : List ℕ} (r : Result (Unit {0}) Fault) → Prepares rows members entries sizes sizes' alignments alignments' r
      → Refuses (answer_of r) (soundness (type_table rows members entries))
      × ((f : Fault) → answer_of r ≡ refused f → (sizes' ≡ sizes) × (alignments' ≡ alignments))
  pub layout_of : {rows members entries : List ℕ} {row : ℕ} (r : Result Layout Fault) → LaysOut rows members entries row r → Refuses (answer_of r) (Rules.layout_answer (type_table rows members entries) row)
  -- Where the header is refused, the status is 0.
  pub read_header : {message : List ℕ} (r : Result Received Fault) → ReadsHeader message r
      → Refuses (Meaning.header_answer (answer_of r)) (HeaderRules.read_header message) × ((f : Fault) → HeaderRules.read_header message ≡ refused f → Meaning.status_of r ≡ pos 0)
  -- Where the header is refused, the part handed back is the empty one at the message's start.
  pub body : {message body : List ℕ} {at body_at : ℕ × ℕ} → HandsBody message at body body_at → (f : Fault) → HeaderRules.read_header message ≡ refused f → (body ≡ []) × (body_at ≡ at)
  pub write_header : {out out' : List ℕ} (header : Header) (r : Result ℕ Fault) → WritesHeader header out out' r
      → Refuses (answer_of r) (HeaderRules.write_header (Meaning.header_of header) (length out)) × Keeps (answer_of r) out out'
  pub write_epitaph : {out out' : List ℕ} (flag0 flag1 flag2 : ℕ) (status : ℤ) (r : Result ℕ Fault) → WritesEpitaph flag0 flag1 flag2 status out out' r
      → Refuses (answer_of r) (HeaderRules.write_epitaph flag0 flag1 flag2 status (length out)) × Keeps (answer_of r) out out'
  pub judge_text : {text : List ℕ} (r : Result (Unit {0}) ℕ) → JudgesText text r → Refuses (Texts.answer_of r) (Rules.text_answer text)
  pub judge_part : {bytes : List ℕ} {at count : ℕ} (r : Result (Unit {0}) ℕ) → JudgesPart bytes at count r → Refuses (Texts.answer_of r) (Rules.text_answer (part bytes at count))
  -- A listing tells a refusal, in its two lines, and nothing past it changes.
  pub listed : {message out out' : List ℕ} {count : ℕ} → Lists message out out' count
      → ((f : Fault) → answered message ≡ refused f → listing message ≡ head f.number (place_number f.place)) × (drop count out' ≡ drop count out)
  pub round_trip : {rows members entries message values values' out out' : List ℕ} {root handles : ℕ} (r : Result Trip Fault) → RoundTrips rows members entries root message handles values values' out out' r
      → ((f : Fault) → (r ≡ Err f) ↔ (trip (Doing.message (type_table rows members entries) message handles) root (length values) (length out) ≡ refused f))
      × Keeps (and_then (trip_values (Doing.message (type_table rows members entries) message handles) root (length values) (length out)) (λ list. accepted (length list))) values values'
      × Keeps (and_then (trip (Doing.message (type_table rows members entries) message handles) root (length values) (length out)) (λ w. accepted (length w.bytes))) out out'
