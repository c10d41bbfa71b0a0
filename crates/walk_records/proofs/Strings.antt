-- A string: its text's numbers are the bytes, judged once they are given.
-- Assumes nothing.
use Rattle.std.specs.Prelude.{Err, Ok, Result}
use mathlib.Core.Path.{◌≡◌, refl, sym, ◌∙◌, ap}
use mathlib.Core.Bool.{Bool}
use mathlib.Core.List.{List, []}
use Prim.Native.Nat.{ℕ, zero, suc, ◌+◌, ◌*◌, ◌≤◌, ◌<◌}
use native.Mathlib.Numerals.{add-one}
use native.Mathlib.Omega.{arith}
use lib.Dec.{eqb}
use lib.ListN.{length, length-take, length-drop}
use Rattle.rules.specs.declared.Fault.{Fault}
use Rattle.rules.specs.declared.Place.TheVariants.{Byte}
use Rattle.rules.specs.Refusals.{fault, text_not_utf8}
use Rattle.rules.specs.Bytes.{part}
use Rattle.rules.specs.Text.{Text, text, broken, utf8, is_utf8, broken_at}
use Rattle.rules.specs.Trace.{Event}
use Rattle.rules.specs.Decode as D
use Rattle.rules.specs.Decode.{Message, Decoded, went, Decoder}
use Rattle.rules.specs.Records.{read_number, read_count}
use Rattle.rules.specs.Envelope.{decode_word}
use Rattle.rules.specs.Walk as W
use Rattle.rules.proofs.Text.{broken_inside}
use Rattle.text.specs.Answers.{text_of}
use Rattle.words.proofs.Loads.{part_cons, word_byte}
use Rattle.walk_leaves.specs.declared.cursor.Cursor.{Cursor}
use Rattle.walk_leaves.specs.Doing.{Walked}
use Rattle.walk_records.specs.declared.records.Opening.{Opening}
use Rattle.walk_records.specs.declared.records.Opened.{Opened}
use Rattle.walk_records.specs.declared.records.Opened.TheVariants.{Closed, Open}
use Rattle.walk_leaves.specs.Doing.{message, Did}
use Rattle.walk_leaves.specs.Parts.{numbers_at, DidValues}
use Rattle.walk_records.specs.Opening.{AskBytes, after_count, counted_at, string_at}
use Rattle.walk_records.specs.Promises.{CountedOpens, StringDid, text_judged}
use Rattle.walk_leaves.proofs.Steps.{did_more}
use Rattle.walk_records.proofs.Openings.{record_same}
use Rattle.walk_records.proofs.Counts.{counted_ask}

-- ---- the text

-- Numbers of one byte each are the bytes.
numbers_bytes : (m : Message) (index count at n u : ℕ) → at + count ≤ length m.bytes → D.elements 1 (λ i. decode_word m 1) index count at n u ≡ went n u (part m.bytes at count) []
unfolding D.elements D.sequence decode_word D.record_then read_number part
numbers_bytes m index zero at n u h = refl
numbers_bytes m index (suc count) at n u h =
    rw (numbers_bytes m (suc index) count (at + 1) n u (omega arith), word_byte, part_cons m.bytes at count (omega arith), add-one)

-- A text is judged once its numbers are given.
did_judged : {total handles g : ℕ} {v v' o o' : List ℕ} {c e : Cursor} {d : Decoded} (start : ℕ) (r : Text) {n u : ℕ} {vs : List ℕ} {t : List Event}
    → d ≡ went n u vs t → r ≡ utf8 vs → Did total handles g v v' o o' c (Ok e) d
    → Did total handles g v v' o o' c (text_judged r start e) (D.require_after (λ n₁ u₁ values. is_utf8 values) (W.bad_text start (D.values_of d)) d)
unfolding is_utf8 broken_at
did_judged start text y h p = rw (y, ← h) (rw y at p)
did_judged {total} {handles} {g} {v} {v'} {o} {o'} {c} {e} start (broken offset) {n} {u} {vs} {t} y h p =
    let q : Did total handles g v v' o o' c (Ok e) (went n u vs t) = rw y at p in
    rw (y, ← h) (record { says = refl; valued = q.valued; listed = q.listed; within = tt; rises = tt })

-- What the test of a text says of it, as the code has it.
module _ (bytes : List ℕ) (start count : ℕ) {judgement : Result (Unit {0}) ℕ} (is : text_of judgement ≡ utf8 (part bytes start count)) where
  pub valid_judged : (c : Cursor) → judgement ≡ (Ok tt) → Ok c ≡ text_judged (utf8 (part bytes start count)) start c
  valid_judged c h = rw (← is, h)

  pub broken_judged : {w : Walked} (c : Cursor) {offset : ℕ} → judgement ≡ Err offset → w ≡ Err (fault text_not_utf8 (Byte (start + offset)))
      → w ≡ text_judged (utf8 (part bytes start count)) start c
  broken_judged c h y = rw (← is, h) y

  pub broken_place : {offset : ℕ} → judgement ≡ Err offset → start + offset < length bytes
  unfolding part
  broken_place h = omega (arith, simp (length-take, length-drop) at (broken_inside (part bytes start count) (sym is ∙ ap text_of h)))

-- ---- the record and its text

checked_text : Message → (count : ℕ) (rows : ℕ → Decoder) → D.Deeper → Decoder
checked_text m count rows below = D.checked is_utf8 W.bad_text (D.elements 1 (λ i. decode_word m 1) 0 count)

after_string_lem : (m : Message) (depth row at p n u v : ℕ) → W.after_string m (W.levels m depth) row at v p n u ≡ after_count m depth row 1 (checked_text m) at v p n u
unfolding checked_text
after_string_lem m depth row at p n u zero = refl
after_string_lem m depth row at p n u (suc count) = refl

string_counted : (m : Message) (depth row largest : ℕ) (optional : Bool) (at n u : ℕ) → string_at m depth row largest optional at n u ≡ counted_at m depth row 1 largest optional (checked_text m) at n u
string_counted m depth row largest optional at n u =
    record_same 16 (read_count m optional largest) (W.after_string m (W.levels m depth) row) at n u _ (after_string_lem m depth row at (at + 16) n u)

module _ (bytes : List ℕ) (depth : ℕ) (values values' objects objects' : List ℕ) (at : ℕ) (c : Cursor) (row largest optional : ℕ) (r : Result Opened Fault)
    (opens : CountedOpens bytes depth values values' objects objects' at c row 1 largest optional r) where
  pub string_closed : {e : Cursor} → r ≡ Ok (Closed e) → StringDid bytes depth values values' objects objects' at c row largest optional (Ok e)
  string_closed h t handles ask =
      let m = message t bytes handles in
      rw (string_counted m depth row largest (eqb optional 1) at) (rw h at (opens t handles (checked_text m) ask))

  pub string_refused : {f : Fault} → r ≡ Err f → StringDid bytes depth values values' objects objects' at c row largest optional (Err f)
  string_refused h t handles ask =
      let m = message t bytes handles in
      rw (string_counted m depth row largest (eqb optional 1) at) (rw h at (opens t handles (checked_text m) ask))

  -- What the text's numbers ask for.
  module _ {x : Opening} (opened : r ≡ Ok (Open x)) where
    pub string_inside : AskBytes (length bytes) 16 at c → x.start + x.count * 1 ≤ 65536
    string_inside asked = let ask = counted_ask bytes depth values values' objects objects' at c row 1 largest optional r opens asked opened in omega arith

    pub string_room : AskBytes (length bytes) 16 at c → x.cursor.values < 4294967296
    string_room asked = let ask = counted_ask bytes depth values values' objects objects' at c row 1 largest optional r opens asked opened in omega arith

  module _ {x : Opening} (opened : r ≡ Ok (Open x)) {values'' : List ℕ} {e : Cursor} (given : DidValues bytes values' values'' x.count x.start x.cursor (Ok e) (numbers_at 1 x.count)) where
    pub string_judged : {w : Walked} → w ≡ text_judged (utf8 (part bytes x.start x.count)) x.start e → StringDid bytes depth values values'' objects objects' at c row largest optional w
    unfolding numbers_at checked_text D.checked
    string_judged y t handles ask =
        let m = message t bytes handles in
        let o = rw opened at (opens t handles (checked_text m) ask) in
        let inside : x.start + x.count ≤ length bytes = omega (arith, o.0.inside) in
        rw (y, string_counted m depth row largest (eqb optional 1) at)
        (o.1 values'' objects' _
        (did_more (x.count * 1) (omega arith)
        (did_judged x.start (utf8 (part bytes x.start x.count)) (numbers_bytes m 0 x.count x.start _ _ inside) refl (given t objects' handles o.0.free o.0.held))))
