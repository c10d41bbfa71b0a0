-- A table's record, by the tests that the code makes, its last envelope, and what is left then.
-- Assumes nothing.
use Rattle.std.specs.Prelude.{Err, Ok, Result}
use mathlib.Core.Path.{◌≡◌, refl, sym, ◌∙◌}
use mathlib.Core.Bool.{not}
use mathlib.Core.List.{List, [], ◌∷◌}
use Prim.Native.Nat.{ℕ, zero, suc, ◌+◌, ◌-◌, ◌*◌, ◌≤◌, ◌<◌}
use native.Mathlib.Omega.{arith}
use mir.Syntax.{w64}
use mir.Val.{Fits}
use borrow.Author.Tests.{ne_eqb}
use lib.Dec.{eqb}
use lib.ListN.{length, set}
use Rattle.rules.specs.declared.Fault.{Fault}
use Rattle.rules.specs.declared.Place.TheVariants.{Byte}
use Rattle.rules.specs.Refusals.{fault, too_deep, object_does_not_fit, presence_wrong, required_absent, last_envelope_zero}
use Rattle.rules.specs.Bytes.{word, ones64}
use Rattle.rules.specs.TypeTable.{TypeTable, eight_byte_envelopes, Content}
use Rattle.rules.specs.Trace.{envelopes_object}
use Rattle.rules.specs.Decode as D
use Rattle.rules.specs.Decode.{Message, Decoder, got, wrong}
use Rattle.rules.specs.Records.{presence, read_table}
use Rattle.rules.specs.Envelope.{content_of_eight_bytes}
use Rattle.rules.specs.Walk as W
use Rattle.rules.proofs.Edition.{envelope_size_lem, content_read}
use Rattle.walk_leaves.specs.declared.cursor.Cursor.{Cursor}
use Rattle.walk_leaves.specs.Doing.{Walked}
use Rattle.walk_records.specs.declared.records.Opening.{Opening}
use Rattle.walk_records.specs.declared.records.Opened.{Opened}
use Rattle.walk_records.specs.declared.records.Opened.TheVariants.{Closed, Open}
use Rattle.walk_leaves.specs.Doing.{message, gave_one, Ask}
use Rattle.walk_records.specs.Opening.{AskBytes, Opens, HasCount, table_at}
use Rattle.walk_records.specs.Promises.{DeeperOpens, EnvelopesOpen, TableOpens}
use Rattle.walk_leaves.proofs.Steps.{did_stop}
use Rattle.walk_records.proofs.Levels.{levels_down}
use Rattle.walk_records.proofs.Zeros.{zero_word, nonzero_word}
use Rattle.walk_records.proofs.Openings.{record_got, record_wrong, claim_over, deeper_anywhere, deeper_spent, deeper_ask, ask_gave, opens_put, opens_same}

-- ---- the record

module _ (m : Message) (at : ℕ) {count says : ℕ} (counted : count ≡ word m.bytes at 8) (said : says ≡ word m.bytes (at + 8) 8) where
  read_absent : says ≡ 0 → read_table m at ≡ wrong (fault required_absent (Byte at))
  unfolding read_table presence
  read_absent p = simp (← said, p)

  read_neither : (says ≡ 0 → ⊥) → (says ≡ ones64 → ⊥) → read_table m at ≡ wrong (fault presence_wrong (Byte at))
  unfolding read_table presence
  read_neither p q = simp (← said, ne_eqb _ _ p, ne_eqb _ _ q)

  read_present : says ≡ ones64 → read_table m at ≡ got count
  unfolding read_table presence
  read_present p = simp (← counted, ← said, p)

-- ---- the last envelope

-- It is judged where there is one.
last_none : (m : Message) (size count : ℕ) (envelopes : Decoder) (at n u : ℕ) → count ≤ 0 → D.last_present m size count envelopes at n u ≡ envelopes at n u
unfolding D.last_present
last_none m size zero envelopes at n u h = refl
last_none m size (suc count) envelopes at n u h = absurd (omega arith)

last_judged : (m : Message) (size count : ℕ) (envelopes : Decoder) (at n u : ℕ) → 0 < count
    → D.last_present m size count envelopes at n u
    ≡ D.require_last m (not (D.is_zero m (at + (count - 1) * size) size)) (at + (count - 1) * size) (envelopes at n u)
unfolding D.last_present
last_judged m size zero envelopes at n u h = absurd (omega arith)
last_judged m size (suc count) envelopes at n u h = let e : suc count - 1 ≡ count = omega arith in rw e

-- ---- the envelopes, one level deeper

module _ (bytes : List ℕ) (depth : ℕ) (objects : List ℕ) (at : ℕ) (c : Cursor) (row count : ℕ) where
  pub envelopes_spent : {f : Fault} → depth ≡ 0 → f ≡ fault too_deep (Byte at) → EnvelopesOpen bytes depth objects objects at c row count (Err f)
  envelopes_spent h e t values handles envelopes ask = deeper_spent bytes depth objects at c envelopes_object row (count * 8) h e t values handles _ ask

  -- So many fit in no message.
  pub envelopes_over : {f : Fault} → (depth ≡ 0 → ⊥) → 8192 < count → f ≡ fault object_does_not_fit (Byte c.next)
      → EnvelopesOpen bytes depth objects objects at c row count (Err f)
  envelopes_over h over e t values handles envelopes ask =
      let m = message t bytes handles in
      let longer : length bytes < count * 8 = omega arith in
      rw (e, levels_down m depth h, claim_over m envelopes_object row (count * 8) _ at c.next c.handles longer) did_stop

  module _ (objects' : List ℕ) (r : Result Opened Fault) (opens : DeeperOpens bytes depth objects objects' at c envelopes_object row (count * 8) r) where
    judged : (t : TypeTable) (values : List ℕ) (handles : ℕ) (envelopes : D.Deeper → Decoder) → Ask (length bytes) handles 4 at c
        → Opens (length bytes) handles 4 values values objects objects' c
        (D.one_deeper (W.levels (message t bytes handles) depth) at
        (λ F b. D.claim (message t bytes handles) envelopes_object row (count * 8) (D.last_present (message t bytes handles) 8 count (envelopes b))) at c.next c.handles)
        (λ x. count * 8)
        (λ x. D.last_present (message t bytes handles) 8 count (envelopes (W.levels (message t bytes handles) (depth - 1))) x.start x.cursor.next x.cursor.handles) r
    judged t values handles envelopes ask = opens t values handles (λ F b. D.last_present (message t bytes handles) 8 count (envelopes b)) ask

    pub envelopes_closed : {e : Cursor} → r ≡ Ok (Closed e) → EnvelopesOpen bytes depth objects objects' at c row count (Ok (Closed e))
    envelopes_closed h t values handles envelopes ask = rw h at (judged t values handles envelopes ask)

    pub envelopes_refused : {f : Fault} → r ≡ Err f → EnvelopesOpen bytes depth objects objects' at c row count (Err f)
    envelopes_refused h t values handles envelopes ask = rw h at (judged t values handles envelopes ask)

    module _ {x : Opening} (opened : r ≡ Ok (Open x)) where
      pub last_fits : AskBytes (length bytes) 4 at c → Fits w64 (x.start + (count - 1) * 8)
      last_fits asked = let ask = deeper_ask bytes depth objects objects' at c envelopes_object row (count * 8) r opens asked opened in omega arith

      pub envelopes_last_zero : {f : Fault} {last : ℕ} → 0 < count → last ≡ word bytes (x.start + (count - 1) * 8) 8 → last ≡ 0
          → f ≡ fault last_envelope_zero (Byte (x.start + (count - 1) * 8)) → EnvelopesOpen bytes depth objects objects' at c row count (Err f)
      envelopes_last_zero {f} some loaded z e t values handles envelopes ask =
          let m = message t bytes handles in
          let o = rw opened at (judged t values handles envelopes ask) in
          let inside : x.start + (count - 1) * 8 + 8 ≤ length bytes = omega (arith, o.0.inside) in
          let zeros = zero_word m.bytes (x.start + (count - 1) * 8) 8 inside (sym loaded ∙ z) in
          o.1 values objects' (Err f) (rw (e, last_judged m 8 count, zeros) did_stop)

      pub envelopes_none : count ≤ 0 → EnvelopesOpen bytes depth objects objects' at c row count (Ok (Open x))
      envelopes_none none t values handles envelopes ask =
          rw (last_none (message t bytes handles) 8 count) at (rw opened at (judged t values handles envelopes ask))

      pub envelopes_last_present : {last : ℕ} → 0 < count → last ≡ word bytes (x.start + (count - 1) * 8) 8 → (last ≡ 0 → ⊥)
          → EnvelopesOpen bytes depth objects objects' at c row count (Ok (Open x))
      envelopes_last_present some loaded z t values handles envelopes ask =
          let m = message t bytes handles in
          let o = rw opened at (judged t values handles envelopes ask) in
          let inside : x.start + (count - 1) * 8 + 8 ≤ length bytes = omega (arith, o.0.inside) in
          let stands = nonzero_word m.bytes (x.start + (count - 1) * 8) 8 inside (λ e. z (loaded ∙ e)) in
          rw (last_judged m 8 count, stands) at o

-- ---- the record and its envelopes

envelopes_in : Message → (row : ℕ) → (ℕ → Content) → (count : ℕ) → D.Deeper → Decoder
envelopes_in m row content count below =
    D.elements 8 (λ ordinal. D.optional_envelope m 8 (eqb ordinal count) (content_of_eight_bytes m below row (content ordinal))) 1 count

module _ (bytes : List ℕ) (depth : ℕ) (values objects : List ℕ) (at : ℕ) (c : Cursor) (row : ℕ) {count says : ℕ}
    (counted : count ≡ word bytes at 8) (said : says ≡ word bytes (at + 8) 8) where
  pub table_absent : {f : Fault} → says ≡ 0 → f ≡ fault required_absent (Byte at) → TableOpens bytes depth values values objects objects at c row (Err f)
  table_absent p e t handles content edition ask =
      rw (e, record_wrong 16 _ _ at c.next c.handles (read_absent (message t bytes handles) at counted said p)) did_stop

  pub table_neither : {f : Fault} → (says ≡ 0 → ⊥) → (says ≡ ones64 → ⊥) → f ≡ fault presence_wrong (Byte at)
      → TableOpens bytes depth values values objects objects at c row (Err f)
  table_neither p q e t handles content edition ask =
      rw (e, record_wrong 16 _ _ at c.next c.handles (read_neither (message t bytes handles) at counted said p q)) did_stop

  table_whole : (t : TypeTable) (handles : ℕ) (content : ℕ → Content) → t.edition ≡ eight_byte_envelopes → says ≡ ones64
      → table_at (message t bytes handles) depth row content at c.next c.handles
      ≡ D.after (count ∷ []) [] (D.one_deeper (W.levels (message t bytes handles) depth) at
      (λ F b. D.claim (message t bytes handles) envelopes_object row (count * 8)
      (D.last_present (message t bytes handles) 8 count (envelopes_in (message t bytes handles) row content count b))) at c.next c.handles)
  unfolding envelopes_in
  table_whole t handles content edition is =
      let m = message t bytes handles in
      record_got 16 _ _ at c.next c.handles (read_present m at counted said is)
      ∙ rw (envelope_size_lem edition, content_read edition, deeper_anywhere m envelopes_object row (count * 8) (W.levels m depth) at (λ F b. D.last_present m 8 count (envelopes_in m row content count b)) (at + 16) at)

  pub table_opened : {values' : List ℕ} (objects' : List ℕ) {d : Cursor} (r : Result Opened Fault) → says ≡ ones64 → values' ≡ set values c.values count → d ≡ gave_one c
      → EnvelopesOpen bytes depth objects objects' at d row count r → HasCount count r → TableOpens bytes depth values values' objects objects' at c row r
  unfolding envelopes_in
  table_opened objects' r is e g opens has t handles content edition ask =
      let m = message t bytes handles in
      let given = set values c.values count in
      rw (e, table_whole t handles content edition is)
      (opens_same (length bytes) handles values given objects objects' c _ 16 count (λ x h. rw h) (λ x h. rw h) r has
      (opens_put (length bytes) handles values given objects objects' c _ 4 16 count _ _ r (omega arith) (rw g at (opens t given handles (envelopes_in m row content count) (ask_gave 16 ask (omega arith) g)))))
