-- Demands 2 and 3 of specs/Demands.antt, proved: from those of the rules, by the promises of the public functions.
-- Assumes nothing.
use Rattle.std.specs.Prelude.{Err, Ok, Result}
use mathlib.Core.Path.{◌≡◌, refl, sym, ap, ◌∙◌}
use mathlib.Core.List.{List, ◌++◌, append-nil}
use Prim.Native.Nat.{ℕ}
use native.Mathlib.Omega.{arith}
use lib.ListN.{length, take, drop}
use lib.Seq.{drop-length, take_at}
use Rattle.rules.specs.Refusals.{Answer, accepted, refused, lent_after}
use Rattle.rules.specs.Bytes.{Octets}
use Rattle.rules.specs.TypeTable.{TypeTable, type_table}
use Rattle.rules.specs.Answers as Rules
use Rattle.rules.specs.Answers.{Lists, output_after, answer_of}
use Rattle.rules.specs.Demands as Of
use Rattle.rules.specs.Demands.{HasValue, HasObjects, HasBoth, IsWrittenTo}
use Rattle.rules.proofs.Demands as Proved
use Rattle.reader.specs.declared.Lengths.{Lengths}
use Rattle.walk_leaves.specs.Doing as Doing
use Rattle.reader.specs.Answers.{length_of, lengths_of, values_in, objects_in}
use Rattle.reader.proofs.Numbers.{given_numbers, reading_numbers}
use Rattle.writer.specs.declared.Sizes.{Sizes}
use Rattle.writer.specs.Answers.{sizes_of}
use Rattle.writer.proofs.Numbers.{written_numbers}
use Rattle.demands.specs.Demands.{IsReadAs, IsListedAs, IsReadBothAs, IsWrittenAs, Demand2, Canonical, Demand3}
use Rattle.demands.proofs.More.{values_more, objects_more, write_more, each_of}
use Rattle.rules.specs.declared.Fault.{Fault}

-- ---- answers

verdict_accepted : (r : Result (Unit {0}) Fault) → answer_of r ≡ accepted tt → r ≡ (Ok tt)
verdict_accepted (Ok u) e = refl
verdict_accepted (Err f) e = absurd (let z : ◌≡◌ {A = ℕ} 0 1 = cc in omega arith)

given_accepted : (r : Result ℕ Fault) {count : ℕ} → answer_of r ≡ accepted count → r ≡ Ok count
given_accepted (Ok n) e = cc
given_accepted (Err f) e = absurd (let z : ◌≡◌ {A = ℕ} 0 1 = cc in omega arith)

reading_accepted : (r : Result Lengths Fault) {counts : Lengths} → answer_of r ≡ accepted counts → r ≡ Ok counts
reading_accepted (Ok n) e = cc
reading_accepted (Err f) e = absurd (let z : ◌≡◌ {A = ℕ} 0 1 = cc in omega arith)

written_accepted : (r : Result Sizes Fault) {sizes : Sizes} → answer_of r ≡ accepted sizes → r ≡ Ok sizes
written_accepted (Ok n) e = cc
written_accepted (Err f) e = absurd (let z : ◌≡◌ {A = ℕ} 0 1 = cc in omega arith)

-- Each answer of the rules is one of the code.
abbrev given_as : Answer ℕ → Result ℕ Fault
given_as (accepted count) = Ok count
given_as (refused f) = Err f

given_as_lem : (a : Answer ℕ) → answer_of (given_as a) ≡ a
given_as_lem (accepted count) = refl
given_as_lem (refused f) = refl

abbrev reading_as : Answer Lengths → Result Lengths Fault
reading_as (accepted counts) = Ok counts
reading_as (refused f) = Err f

reading_as_lem : (a : Answer Lengths) → answer_of (reading_as a) ≡ a
reading_as_lem (accepted counts) = refl
reading_as_lem (refused f) = refl

abbrev written_as : Answer Sizes → Result Sizes Fault
written_as (accepted sizes) = Ok sizes
written_as (refused f) = Err f

written_as_lem : (a : Answer Sizes) → answer_of (written_as a) ≡ a
written_as_lem (accepted sizes) = refl
written_as_lem (refused f) = refl

-- ---- given room

-- What fills a list of its own length is that list.
fills : (xs list : List ℕ) → length xs ≡ length list → xs ++ drop (length xs) list ≡ list ++ drop (length list) list → xs ≡ list
fills xs list n e = simp (n, drop-length, append-nil) at e

just_list : (given : Answer (List ℕ)) (list : List ℕ) → given_as (length_of given) ≡ Ok (length list) → lent_after given list ≡ list ++ drop (length list) list
    → given ≡ accepted list
just_list (accepted xs) list e l = let n : length xs ≡ length list = cc in ap accepted (fills xs list n l)
just_list (refused f) list e l = absurd (let z : ◌≡◌ {A = ℕ} 0 1 = cc in omega arith)

just_lists : (given : Answer Lists) (values objects : List ℕ) → reading_as (lengths_of given) ≡ Ok (record { values = length values; objects = length objects })
    → lent_after (values_in given) values ≡ values ++ drop (length values) values → lent_after (objects_in given) objects ≡ objects ++ drop (length objects) objects
    → given ≡ accepted (record { values = values; objects = objects })
just_lists (accepted lists) values objects e l k =
    let s : ◌≡◌ {A = Lengths} (record { values = length lists.values; objects = length lists.objects }) (record { values = length values; objects = length objects }) = cc in
    let v : lists.values ≡ values = fills lists.values values (ap (λ (z : Lengths). z.values) s) l in
    let o : lists.objects ≡ objects = fills lists.objects objects (ap (λ (z : Lengths). z.objects) s) k in
    rw (← v, ← o)
just_lists (refused f) values objects e l k = absurd (let z : ◌≡◌ {A = ℕ} 0 1 = cc in omega arith)

just_message : (given : Answer Rules.Written) (message : List ℕ) (handles : ℕ) → written_as (sizes_of given) ≡ Ok (record { bytes = length message; handles = handles })
    → output_after given message ≡ message ++ drop (length message) message → given ≡ accepted (record { bytes = message; handles = handles })
just_message (accepted w) message handles e l =
    let s : ◌≡◌ {A = Sizes} (record { bytes = length w.bytes; handles = w.handles }) (record { bytes = length message; handles = handles }) = cc in
    let n : length w.bytes ≡ length message = ap (λ (z : Sizes). z.bytes) s in
    let h : w.handles ≡ handles = ap (λ (z : Sizes). z.handles) s in
    let b : w.bytes ≡ message = fills w.bytes message n l in
    rw (← h, ← b)
just_message (refused f) message handles e l = absurd (let z : ◌≡◌ {A = ℕ} 0 1 = cc in omega arith)

module _ (rows members entries : List ℕ) (root : ℕ) where
  abbrev table : TypeTable
  table = type_table rows members entries

  is_read_as : {message values : List ℕ} {handles : ℕ} → HasValue table root message handles values → IsReadAs rows members entries root message handles values
  is_read_as v lent lent' r room p = let e = v (length lent) room in (given_accepted r (p.answer ∙ rw e), p.list ∙ rw e)

  is_listed_as : {message objects : List ℕ} {handles : ℕ} → HasObjects table root message handles objects → IsListedAs rows members entries root message handles objects
  is_listed_as v lent lent' r room p = let e = v (length lent) room in (given_accepted r (p.answer ∙ rw e), p.list ∙ rw e)

  is_read_both_as : {message values objects : List ℕ} {handles : ℕ} → HasBoth table root message handles values objects → IsReadBothAs rows members entries root message handles values objects
  is_read_both_as b lent lent' lent_objects lent_objects' r room room₂ p =
      let e = b (length lent) (length lent_objects) room room₂ in
      (reading_accepted r (p.answer ∙ rw e), p.values_list ∙ rw e, p.objects_list ∙ rw e)

  is_written_as : {message values : List ℕ} {handles : ℕ} → IsWrittenTo table root values message handles → IsWrittenAs rows members entries root values message handles
  is_written_as w out out' r room p = let e = w (length out) room in (written_accepted r (p.answer ∙ rw e), p.output ∙ rw e)

  -- And back: a call with just the room that is needed tells.

  has_value_lem : (message : List ℕ) (handles : ℕ) (values : List ℕ) → IsReadAs rows members entries root message handles values → HasValue table root message handles values
  has_value_lem message handles values i room fits =
      let m = Doing.message (type_table rows members entries) message handles in
      let given = Rules.read_values m root (length values) in
      let e = given_as_lem (length_of given) in
      let q = i values (lent_after given values) (given_as (length_of given)) (omega arith) (record { answer = e; list = refl; numbers = given_numbers (given_as (length_of given)) given e }) in
      values_more m root (length values) room (just_list given values q.0 q.1) fits

  both_given : (message : List ℕ) (handles : ℕ) (values objects : List ℕ) → IsReadBothAs rows members entries root message handles values objects
      → HasValue table root message handles values × HasObjects table root message handles objects
  both_given message handles values objects i =
      let m = Doing.message (type_table rows members entries) message handles in
      let given = Rules.read m root (length values) (length objects) in
      let e = reading_as_lem (lengths_of given) in
      let q = i values (lent_after (values_in given) values) objects (lent_after (objects_in given) objects) (reading_as (lengths_of given)) (omega arith) (omega arith)
      (record { answer = e; values_list = refl; objects_list = refl; numbers = reading_numbers (reading_as (lengths_of given)) given e }) in
      let each = each_of m root (length values) (length objects) (just_lists given values objects q.0 q.1 q.2) in
      (λ room fits. values_more m root (length values) room each.values fits, λ room fits. objects_more m root (length objects) room each.objects fits)

  is_written_to : (message : List ℕ) (handles : ℕ) (values : List ℕ) → IsWrittenAs rows members entries root values message handles → IsWrittenTo table root values message handles
  is_written_to message handles values i room fits =
      let given = Rules.write table root values (length message) in
      let e = written_as_lem (sizes_of given) in
      let q = i message (output_after given message) (written_as (sizes_of given)) (omega arith) (record { answer = e; output = refl; numbers = written_numbers (written_as (sizes_of given)) given e }) in
      write_more table root values (length message) room (just_message given message handles q.0 q.1) fits

  -- ---- demands 2 and 3

  abbrev two : Of.Demand2 table root
  two = Proved.demand2 table root

  abbrev three : Of.Demand3 table root
  three = Proved.demand3 table root

  pub demand2 : Demand2 rows members entries root
  demand2 = record {
    accepted_exactly_when_encoded = λ message handles oct r p.
        let exactly = two.accepted_exactly_when_encoded message handles oct in (
          λ q. let w = exactly.0 (sym p.answer ∙ ap answer_of q) in (w.0, is_written_as w.1),
          λ w. verdict_accepted r (p.answer ∙ exactly.1 (w.0, is_written_to message handles w.0 w.1)),
        );
    reading_gives_the_value = λ message handles values w.
        let given = two.reading_gives_the_value message handles values (is_written_to message handles values w) in
        (is_read_as given.0, (given.1.0, is_read_both_as given.1.1));
    readers_agree = λ message handles values objects b. let each = both_given message handles values objects b in (is_read_as each.0, is_listed_as each.1);
    writing_gives_the_message = λ message handles values oct v. is_written_as (two.writing_gives_the_message message handles values oct (has_value_lem message handles values v));
  }

  canonical_of : (message : List ℕ) (handles : ℕ) → Of.Canonical table root message handles → Canonical rows members entries root message handles
  canonical_of message handles c =
      record {
        values = c.values;
        objects = c.objects;
        trace = c.trace;
        trace_is_the_walks = c.trace_is_the_walks;
        values_are_read = is_read_as c.has_value;
        objects_are_listed = is_listed_as c.has_objects;
        both_are_read = is_read_both_as c.has_both;
        round_trip = is_written_as c.round_trip;
        objects_are_claims = c.objects_are_claims;
        unknown_content_is_an_object = c.unknown_content_is_an_object;
        objects_tile = c.objects_tile;
        fills_are_zero = c.fills_are_zero;
        handles_add_up = c.handles_add_up;
        present_handles_are_ones = c.present_handles_are_ones;
        unknown_claims_fit = c.unknown_claims_fit;
      }

  -- What was given into a list is written to the message.
  written_back : (message : List ℕ) (handles : ℕ) → Octets message → (lent lent' list : List ℕ) (count : ℕ)
      → Rules.read_values (Doing.message (type_table rows members entries) message handles) root (length lent) ≡ accepted list → length list ≡ count → lent' ≡ list ++ drop (length list) lent
      → IsWrittenAs rows members entries root (take count lent') message handles
  written_back message handles oct lent lent' list count e long l =
      let read : take count lent' ≡ list = rw l (take_at list (drop (length list) lent) count long) in
      rw read
      (is_written_as (two.writing_gives_the_message message handles list oct
      (λ room fits. values_more (Doing.message (type_table rows members entries) message handles) root (length lent) room e fits)))

  values_back : (message : List ℕ) (handles : ℕ) → Octets message → (lent lent' : List ℕ) (count : ℕ) (given : Answer (List ℕ))
      → Rules.read_values (Doing.message (type_table rows members entries) message handles) root (length lent) ≡ given → accepted count ≡ length_of given → lent' ≡ lent_after given lent
      → IsWrittenAs rows members entries root (take count lent') message handles
  values_back message handles oct lent lent' count (accepted list) e n l = let long : length list ≡ count = cc in written_back message handles oct lent lent' list count e long l
  values_back message handles oct lent lent' count (refused f) e n l = absurd (let z : ◌≡◌ {A = ℕ} 0 1 = cc in omega arith)

  both_back : (message : List ℕ) (handles : ℕ) → Octets message → (lent lent' : List ℕ) (room : ℕ) (counts : Lengths) (given : Answer Lists)
      → Rules.read (Doing.message (type_table rows members entries) message handles) root (length lent) room ≡ given → accepted counts ≡ lengths_of given → lent' ≡ lent_after (values_in given) lent
      → IsWrittenAs rows members entries root (take counts.values lent') message handles
  both_back message handles oct lent lent' room counts (accepted lists) e n l =
      let long : ◌≡◌ {A = Lengths} (record { values = length lists.values; objects = length lists.objects }) counts = cc in
      written_back message handles oct lent lent' lists.values counts.values (each_of (Doing.message (type_table rows members entries) message handles) root (length lent) room e).values
      (ap (λ (z : Lengths). z.values) long) l
  both_back message handles oct lent lent' room counts (refused f) e n l = absurd (let z : ◌≡◌ {A = ℕ} 0 1 = cc in omega arith)

  pub demand3 : Demand3 rows members entries root
  demand3 = record {
    equal_values_exactly_when_equal = λ message message₂ handles handles₂ values values₂ oct oct₂ v v₂.
        three.equal_values_exactly_when_equal message message₂ handles handles₂ values values₂ oct oct₂ (has_value_lem message handles values v) (has_value_lem message₂ handles₂ values₂ v₂);
    canonical = λ message handles oct p. canonical_of message handles (three.canonical message handles oct (sym p.answer));
    round_trip = λ message handles oct lent lent' count p. values_back message handles oct lent lent' count _ refl p.answer p.list;
    round_trip_of_both = λ message handles oct lent lent' lent_objects lent_objects' counts p. both_back message handles oct lent lent' (length lent_objects) counts _ refl p.answer p.values_list;
  }
