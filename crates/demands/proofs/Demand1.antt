-- Demand 1 of specs/Demand1.antt, proved: an answer is that of the rules with its list counted, so that a refusal is theirs; and what
-- is lent has the list that the rules give, or is as it was.
-- Assumes nothing.
use Rattle.std.specs.Prelude.{Err, Result}
use mathlib.Core.Path.{◌≡◌, refl, sym, ◌∙◌}
use mathlib.Core.Logic.{◌↔◌}
use mathlib.Core.List.{List, [], ◌∷◌, append-nil}
use Prim.Native.Nat.{ℕ, suc, ◌+◌, ◌≤◌}
use native.Mathlib.Omega.{arith}
use lib.ListN.{length, drop, set}
use lib.Seq.{drop_at, drop-set-lt, sets}
use Rattle.rules.specs.declared.Fault.{Fault}
use Rattle.rules.specs.Refusals.{place_number, Answer, accepted, refused, and_then, lent_after}
use Rattle.rules.specs.Bytes.{part}
use Rattle.rules.specs.TypeTable.{type_table}
use Rattle.rules.specs.Answers as Rules
use Rattle.rules.specs.Answers.{Lists, answer_of}
use Rattle.rules.specs.Header as HeaderRules
use Rattle.header.specs.Meaning as Meaning
use Rattle.text.proofs.Numbers.{text_answer_lem}
use Rattle.walk_leaves.specs.Doing as Doing
use Rattle.reader.specs.Answers.{length_of, lengths_of, values_in, objects_in}
use Rattle.writer.specs.Answers.{sizes_of}
use Rattle.listing.specs.Listing.{head, listing_of, listing}
use Rattle.demands.specs.declared.Trip.{Trip}
use Rattle.demands.specs.Trips.{trip, trip_values, trip_of}
use Rattle.demands.specs.Demand1.{Refuses, Keeps, Demand1}

-- ---- refusals

refuses_same : {A : Type 0} (answered ruled : Answer A) → answered ≡ ruled → Refuses answered ruled
refuses_same answered ruled e f = (λ q. sym e ∙ q, λ q. e ∙ q)

-- What the rules give is told by something of it.
refuses_told : {A B : Type 0} (answered : Answer A) (ruled : Answer B) (tell : B → A) → answered ≡ and_then ruled (λ b. accepted (tell b)) → Refuses answered ruled
refuses_told {B = B} answered ruled tell e f = (λ q. go ruled (sym q ∙ e), λ q. e ∙ rw q)
  where
    go : (ruled : Answer B) → refused f ≡ and_then ruled (λ b. accepted (tell b)) → ruled ≡ refused f
    go (accepted b) z = absurd (let y : ◌≡◌ {A = ℕ} 0 1 = cc in omega arith)
    go (refused h) z = let y : f ≡ h = cc in rw y

trip_refused : (r : Result Trip Fault) (ruled : Answer Rules.Written) → r ≡ trip_of ruled → (f : Fault) → (r ≡ Err f) ↔ (ruled ≡ refused f)
trip_refused r ruled e f = (λ q. go ruled (sym q ∙ e), λ q. e ∙ rw q)
  where
    go : (ruled : Answer Rules.Written) → Err f ≡ trip_of ruled → ruled ≡ refused f
    go (accepted w) z = absurd (let y : ◌≡◌ {A = ℕ} 0 1 = cc in omega arith)
    go (refused h) z = let y : f ≡ h = cc in rw y

listing_refused : (bytes : ℕ) {answer : Answer Lists} {f : Fault} → answer ≡ refused f → listing_of bytes answer ≡ head f.number (place_number f.place)
listing_refused bytes {f = f} e = rw e (append-nil (head f.number (place_number f.place)))

-- ---- lent lists

keeps : (answer : Answer ℕ) (given : Answer (List ℕ)) (lent after : List ℕ) → answer ≡ length_of given → after ≡ lent_after given lent → Keeps answer lent after
keeps answer (accepted list) lent after e l = rw (e, l) (drop_at list (drop (length list) lent) (length list) refl)
keeps answer (refused f) lent after e l = rw e l

value_count : (read : Answer Lists) → and_then (lengths_of read) (λ n. accepted n.values) ≡ length_of (values_in read)
value_count (accepted lists) = refl
value_count (refused f) = refl

object_count : (read : Answer Lists) → and_then (lengths_of read) (λ n. accepted n.objects) ≡ length_of (objects_in read)
object_count (accepted lists) = refl
object_count (refused f) = refl

byte_count_lem : (write : Answer Rules.Written) → and_then (sizes_of write) (λ n. accepted n.bytes) ≡ length_of (and_then write (λ w. accepted w.bytes))
byte_count_lem (accepted w) = refl
byte_count_lem (refused f) = refl

output_count : (write : Answer Rules.Written) → and_then write (λ w. accepted (length w.bytes)) ≡ length_of (and_then write (λ w. accepted w.bytes))
output_count (accepted w) = refl
output_count (refused f) = refl

-- Past numbers that are stored nothing changes, whether there is room for them or not.
past_stored : (list lent : List ℕ) (at count : ℕ) → at + length list ≤ count → drop count (sets lent at list) ≡ drop count lent
past_stored [] lent at count h = refl
past_stored (x ∷ list) lent at count h = past_stored list (set lent at x) (suc at) count (omega arith) ∙ drop-set-lt count lent at x (omega arith)

-- ---- the demand

pub demand1 : Demand1
unfolding HeaderRules.body HeaderRules.status listing
demand1 = record {
  check = λ {rows} {members} {entries} {message} {root} {handles} r p. refuses_same _ _ p.answer;
  read_values = λ {rows} {members} {entries} {message} {values} {values'} {root} {handles} r p.
      let read = Rules.read_values (Doing.message (type_table rows members entries) message handles) root (length values) in
      (refuses_told (answer_of r) read length p.answer, keeps (answer_of r) read values values' p.answer p.list);
  read_objects = λ {rows} {members} {entries} {message} {objects} {objects'} {root} {handles} r p.
      let read = Rules.read_objects (Doing.message (type_table rows members entries) message handles) root (length objects) in
      (refuses_told (answer_of r) read length p.answer, keeps (answer_of r) read objects objects' p.answer p.list);
  read = λ {rows} {members} {entries} {message} {values} {values'} {objects} {objects'} {root} {handles} r p.
      let read = Rules.read (Doing.message (type_table rows members entries) message handles) root (length values) (length objects) in (
        refuses_told (answer_of r) read (λ lists. record { values = length lists.values; objects = length lists.objects }) p.answer,
        keeps (and_then (answer_of r) (λ n. accepted n.values)) (values_in read) values values' (rw p.answer (value_count read)) p.values_list,
        keeps (and_then (answer_of r) (λ n. accepted n.objects)) (objects_in read) objects objects' (rw p.answer (object_count read)) p.objects_list,
      );
  write = λ {rows} {members} {entries} {values} {out} {out'} {root} r p.
      let write = Rules.write (type_table rows members entries) root values (length out) in (
        refuses_told (answer_of r) write (λ w. record { bytes = length w.bytes; handles = w.handles }) p.answer,
        keeps (and_then (answer_of r) (λ n. accepted n.bytes)) (and_then write (λ w. accepted w.bytes)) out out' (rw p.answer (byte_count_lem write)) p.output,
      );
  prepare = λ r p. (refuses_same _ _ p.answer, λ f q. let e = sym p.answer ∙ q in (p.sizes_list ∙ rw e, p.alignments_list ∙ rw e));
  layout_of = λ r p. refuses_same _ _ p.answer;
  read_header = λ r p. (refuses_same _ _ p.answer, λ f e. p.status ∙ rw e);
  body = λ p f e. (p.bytes ∙ rw e, p.start ∙ rw e);
  write_header = λ {out} {out'} header r p.
      let write = HeaderRules.write_header (Meaning.header_of header) (length out) in
      (refuses_told (answer_of r) write length p.answer, keeps (answer_of r) write out out' p.answer p.output);
  write_epitaph = λ {out} {out'} flag0 flag1 flag2 status r p.
      let write = HeaderRules.write_epitaph flag0 flag1 flag2 status (length out) in
      (refuses_told (answer_of r) write length p.answer, keeps (answer_of r) write out out' p.answer p.output);
  judge_text = λ {text} r p. refuses_same _ _ (text_answer_lem text r p.answer);
  judge_part = λ {bytes} {at} {count} r p. refuses_same _ _ (text_answer_lem (part bytes at count) r p.answer);
  listed = λ {message} {out} {out'} {count} p.
      (λ f e. listing_refused (length message) e, rw p.output (past_stored (listing message) out 0 count (omega (arith, p.answer))));
  round_trip = λ {rows} {members} {entries} {message} {values} {values'} {out} {out'} {root} {handles} r p.
      let m = Doing.message (type_table rows members entries) message handles in
      let whole = trip m root (length values) (length out) in (
        trip_refused r whole p.answer,
        keeps _ (trip_values m root (length values) (length out)) values values' refl p.values_list,
        keeps _ (and_then whole (λ w. accepted w.bytes)) out out' (output_count whole) p.output,
      );
}
