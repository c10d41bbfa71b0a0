-- Reading, as an algebra of parts: a part of the walk is lent the values and the objects, and takes its bytes in line at a place.
-- Assumes nothing.
use Rattle.std.specs.Prelude.{Err, Ok}
use mathlib.Core.List.{List, [], ◌∷◌}
use mathlib.Core.Path.{◌≡◌, refl, sym, ap, fun_ext}
use Prim.Native.Nat.{ℕ, ◌+◌}
use native.Mathlib.Nat.{add_assoc, add-zero}
use native.Mathlib.Omega.{arith}
use lib.ListN.{length}
use Rattle.rules.specs.declared.Layout.{Layout}
use Rattle.rules.specs.Bytes.{part, leading_zeros}
use Rattle.rules.specs.TypeTable.{TypeTable}
use Rattle.rules.specs.Sizes.{Field, field}
use Rattle.rules.specs.Decode as D
use Rattle.rules.specs.Decode.{Message, Decoder}
use Rattle.rules.specs.Walk as W
use Rattle.plans.specs.Plans.{width_layout}
use Rattle.layout.specs.Ready.{some_table}
use Rattle.nesting.proofs.Algebra.{Grouping, Algebra, Leading, Doing}
use Rattle.nesting.proofs.Items.{items_of}
use Rattle.nesting.proofs.Work.{run}
use Rattle.walk_leaves.specs.declared.cursor.Cursor.{Cursor}
use Rattle.walk_leaves.specs.Doing.{Walked}
use Rattle.walk_leaves.specs.Doing.{message, Did, Ask}
use Rattle.walk_leaves.specs.Planning.{width_at, DidAsked}
use Rattle.walk_leaves.proofs.Steps.{did_nothing, did_then, did_halt, went_on}
use Rattle.walk_leaves.proofs.Results.{after_none, then_nothing, then_then}

-- ---- the rules' parts

decoders_same : {p q : Decoder} → ((at n u : ℕ) → p at n u ≡ q at n u) → p ≡ q
decoders_same e = fun_ext (λ at. fun_ext (λ n. fun_ext (λ u. e at n u)))

pub decoders_grouped : (m : Message) → Grouping Decoder D.nothing (D.fill m) D.sequence D.elements
unfolding D.fill D.sequence D.elements part leading_zeros
decoders_grouped m = record {
  no_fill = refl;
  nothing_first = λ p. decoders_same (λ at n u. rw (add-zero at) (after_none (p at n u)));
  nothing_last = λ size p. decoders_same (λ at n u. then_nothing (p at n u));
  grouped = λ a b p q r. decoders_same (λ at n u. rw (← (add_assoc at a b)) (sym (then_then (p at n u) (λ n₁ u₁. q (at + a) n₁ u₁) (λ n₂ u₂. r (at + a + b) n₂ u₂))));
  no_elements = λ size parts i. refl;
  next_element = λ size parts i count. refl;
}

abbrev pub decoders : Message → Algebra
decoders m = record { Part = Decoder; nothing = D.nothing; fill = D.fill m; sequence = D.sequence; elements = D.elements; laws = decoders_grouped m }

-- A struct's fields, in order.
pub run_fields : (m : Message) (layouts : ℕ → Layout) (inner : ℕ → Decoder) (fs : List Field) → W.fields m layouts inner fs ≡ run (decoders m) layouts inner (items_of fs)
unfolding W.fields run items_of
run_fields m layouts inner [] = refl
run_fields m layouts inner (field row fill ∷ fs) = rw (run_fields m layouts inner fs)

-- ---- doing them

abbrev pub DidPart : (m : Message) (size place : ℕ) (l l' : List ℕ × List ℕ) → Cursor → Walked → Decoder → Type 0
DidPart m size place l l' c r p = Did (length m.bytes) m.handles size l.0 l'.0 l.1 l'.1 c r (p place c.next c.handles)

pub did_leads : (m : Message) → Leading (decoders m) Cursor (List ℕ × List ℕ) Walked Ok Err (Ask (length m.bytes) m.handles) (DidPart m)
unfolding D.sequence
did_leads m = record {
  ask_first = λ first rest a. record { short = a.short; few = a.few; inside = omega (arith, a.inside); free = a.free; held = a.held; small = omega (arith, a.small) };
  ask_rest = λ first rest place p a did.
      let w = went_on did refl in
      record { short = a.short; few = a.few; inside = omega (arith, a.inside); free = w.0; held = w.1; small = omega (arith, a.small, w.2) };
  did_nothing = λ a. did_nothing a.free a.held;
  did_then = λ first rest place p q a did later. did_then (first + rest) (λ n u. q (place + first) n u) did later (omega (arith, (went_on did refl).2));
  did_halt = λ first rest place p q did. did_halt (first + rest) (λ n u. q (place + first) n u) did;
}

abbrev pub reading : (m : Message) → Doing (decoders m)
reading m = record { Cursor = Cursor; Lent = List ℕ × List ℕ; Answer = Walked; on = Ok; refused = Err; Ask = Ask (length m.bytes) m.handles; Did = DidPart m; laws = did_leads m }

-- ---- under any type table, with any handle count, wherever it is asked for; the objects are left alone

pub any_grouped : Grouping (Message → Decoder) (λ m. D.nothing) (λ count m. D.fill m count) (λ size p q m. D.sequence size (p m) (q m)) (λ size parts i count m. D.elements size (λ k. parts k m) i count)
any_grouped = record {
  no_fill = fun_ext (λ m. (decoders_grouped m).no_fill);
  nothing_first = λ p. fun_ext (λ m. (decoders_grouped m).nothing_first (p m));
  nothing_last = λ size p. fun_ext (λ m. (decoders_grouped m).nothing_last size (p m));
  grouped = λ a b p q r. fun_ext (λ m. (decoders_grouped m).grouped a b (p m) (q m) (r m));
  no_elements = λ size parts i. fun_ext (λ m. (decoders_grouped m).no_elements size (λ k. parts k m) i);
  next_element = λ size parts i count. fun_ext (λ m. (decoders_grouped m).next_element size (λ k. parts k m) i count);
}

abbrev pub any_decoders : Algebra
any_decoders = record {
  Part = Message → Decoder;
  nothing = λ m. D.nothing;
  fill = λ count m. D.fill m count;
  sequence = λ size p q m. D.sequence size (p m) (q m);
  elements = λ size parts i count m. D.elements size (λ k. parts k m) i count;
  laws = any_grouped;
}

-- The parts of a plan, in order.
pub run_parts : (fs : List Field) → (λ m. W.fields m width_layout (width_at m) fs) ≡ run any_decoders width_layout (λ width m. width_at m width) (items_of fs)
unfolding W.fields run items_of
run_parts [] = refl
run_parts (field width fill ∷ fs) =
    ap {B = Message → Decoder} (λ (rest : Message → Decoder) (m : Message). D.sequence (width_layout width).size (width_at m width) (D.sequence fill (D.fill m fill) (rest m))) (run_parts fs)

abbrev pub DidAny : (bytes : List ℕ) (size place : ℕ) (v v' : List ℕ) → Cursor → Walked → (Message → Decoder) → Type 0
DidAny bytes size place v v' c r p = DidAsked bytes v v' size place c r p

pub any_leads : (bytes : List ℕ) → Leading any_decoders Cursor (List ℕ) Walked Ok Err (Ask (length bytes) 64) (DidAny bytes)
any_leads bytes = record {
  ask_first = λ first rest a. (at some_table 64).ask_first first rest a;
  ask_rest = λ first rest place p a did. (at some_table 64).ask_rest first rest place (p (message some_table bytes 64)) a (did some_table [] 64 ((at some_table 64).ask_first first rest a));
  did_nothing = λ a t objects handles asked. (at t handles).did_nothing asked;
  did_then = λ first rest place p q a did later t objects handles asked.
      let m = message t bytes handles in
      let done = did t objects handles ((at t handles).ask_first first rest asked) in
      (at t handles).did_then first rest place (p m) (q m) asked done (later t objects handles ((at t handles).ask_rest first rest place (p m) asked done));
  did_halt = λ first rest place p q did t objects handles asked.
      let m = message t bytes handles in
      (at t handles).did_halt first rest place (p m) (q m) (did t objects handles ((at t handles).ask_first first rest asked));
}
  where
    at : (t : TypeTable) (handles : ℕ) → Leading (decoders (message t bytes handles)) Cursor (List ℕ × List ℕ) Walked Ok Err (Ask (length bytes) handles) (DidPart (message t bytes handles))
    at t handles = did_leads (message t bytes handles)

abbrev pub reading_any : (bytes : List ℕ) → Doing any_decoders
reading_any bytes = record { Cursor = Cursor; Lent = List ℕ; Answer = Walked; on = Ok; refused = Err; Ask = Ask (length bytes) 64; Did = DidAny bytes; laws = any_leads bytes }
