-- A table's highest ordinal, by the tests that the code makes, and what it leads to.
-- Assumes nothing.
use Rattle.std.specs.Prelude.{Err, Result, IfOk}
use mathlib.Core.Path.{◌≡◌, refl, sym, ap}
use mathlib.Core.Bool.{true}
use mathlib.Core.List.{List}
use Prim.Native.Nat.{ℕ, suc, ◌+◌, ◌-◌, ◌*◌, ◌≤◌, ◌<◌}
use native.Mathlib.Omega.{arith}
use mir.Syntax.{w64}
use mir.Val.{Fits}
use borrow.Author.Tests.{lt-ltb}
use lib.Dec.{eqb, ltb}
use lib.ListN.{length, drop, get_or}
use lib.Seq.{sets}
use Rattle.rules.specs.declared.Fault.{Fault}
use Rattle.rules.specs.declared.Place.TheVariants.{Index}
use Rattle.rules.specs.Refusals.{fault, message_too_long, too_deep, not_a_value}
use Rattle.rules.specs.Bytes.{bytes_of, ones64}
use Rattle.rules.specs.TypeTable.{TypeTable, eight_byte_envelopes, Content}
use Rattle.rules.specs.Encode as E
use Rattle.rules.specs.Encode.{Encoder, put}
use Rattle.rules.specs.Records.{count_bytes, write_table}
use Rattle.rules.specs.Envelope.{write_content_of_eight_bytes}
use Rattle.rules.specs.Writer as R
use Rattle.rules.proofs.Edition.{envelope_size_lem, content_written}
use Rattle.rules.proofs.Bytes.{padded_multiple}
use Rattle.write_leaves.specs.declared.cursor.Cursor.{Cursor}
use Rattle.write_records.specs.declared.records.Opening.{Opening}
use Rattle.write_records.specs.declared.records.Opened.{Opened}
use Rattle.write_leaves.specs.Putting.{took_one, Stands}
use Rattle.write_records.specs.Opening.{to_open, Opens}
use Rattle.write_records.specs.Promises.{ClaimOpens, TableOpens}
use Rattle.write_leaves.proofs.InLine.{record_ended}
use Rattle.write_records.proofs.Levels.{levels_spent, levels_down}
use Rattle.write_records.proofs.Counts.{count_stored, count_length}
use Rattle.write_records.proofs.Openings.{claim_refused, put_last, ask_took, record_opens, opens_same}

-- A table's envelopes, so many.
abbrev envelopes : TypeTable → E.Deeper → (ℕ → Content) → (count : ℕ) → Encoder
envelopes t below content count = E.elements (λ ordinal. E.optional_envelope 8 (eqb ordinal count) (write_content_of_eight_bytes t below (content ordinal))) 1 count

writes_table : (v : ℕ) → Fits w64 v → write_table v ≡ put (count_bytes v ones64)
unfolding write_table
writes_table v f = let p : ltb v 18446744073709551616 ≡ true = lt-ltb v 18446744073709551616 (omega arith) in rw p

module _ (t : TypeTable) (depth : ℕ) (content : ℕ → Content) (v : ℕ) (numbers : List ℕ) (next used : ℕ) where
  after_spent : depth ≡ 0 → R.after_table t (R.levels t depth) content v numbers next used ≡ E.cannot too_deep (suc (length numbers))
  after_spent e = rw (levels_spent t depth e)

  after_down : t.edition ≡ eight_byte_envelopes → (depth ≡ 0 → ⊥) → R.after_table t (R.levels t depth) content v numbers next used
      ≡ E.claim (v * 8) (envelopes t (R.levels t (depth - 1)) content v) numbers next used
  after_down edition n = rw (levels_down t depth n, envelope_size_lem edition, content_written edition)

module _ (values out : List ℕ) (depth at : ℕ) (c : Cursor) (s : Stands values c) where
  pub table_ended : {f : Fault} → length values ≤ c.index → f ≡ fault not_a_value (Index c.index) → TableOpens values out out depth at c (Err f)
  table_ended h e t content base edition ask =
      rw e (record_ended write_table (R.after_table t (R.levels t depth) content) s.left h base)

  module _ {v : ℕ} (h : c.index < length values) (read : v ≡ get_or values c.index 0) (f : Fits w64 v) {half whole : List ℕ} (p : half ≡ sets out at (bytes_of 8 v)) (q : whole ≡ sets half (at + 8) (bytes_of 8 ones64)) where
    table_leads : (t : TypeTable) (content : ℕ → Content) (base : ℕ) (sizes : Opening → ℕ) (fields : Opening → Encoder) (r : Result Opened Fault)
        → Opens values whole whole 0 at base (took_one c)
        (R.after_table t (R.levels t depth) content v (drop (c.index + 1) values) c.next c.handles) sizes fields r
        → Opens values out whole 16 at base c
        (E.record_then write_table (R.after_table t (R.levels t depth) content) (drop c.index values) c.next c.handles) sizes fields r
    table_leads t content base sizes fields r opens =
        record_opens values out whole 16 at base c write_table (R.after_table t (R.levels t depth) content) v h read (count_bytes v ones64) (writes_table v f) (count_length v ones64) (count_stored out at v ones64 p q) sizes fields r opens

    pub table_spent : {g : Fault} → depth ≡ 0 → g ≡ fault too_deep (Index c.index) → TableOpens values out whole depth at c (Err g)
    table_spent {g} z e t content base edition ask =
        table_leads t content base (λ x. 0) (λ x. E.nothing) (Err g)
        (rw (e, after_spent t depth content v (drop (c.index + 1) values) c.next c.handles z) (put_last too_deep (c.index + 1) c.index refl (omega arith)))

    module _ (down : depth ≡ 0 → ⊥) where
      pub table_over : {g : Fault} → 8192 < v → g ≡ fault message_too_long (Index c.index) → TableOpens values out whole depth at c (Err g)
      table_over {g} k e t content base edition ask =
          table_leads t content base (λ x. 0) (λ x. E.nothing) (Err g)
          (rw (
            e,
            after_down t depth content v (drop (c.index + 1) values) c.next c.handles edition down,
            claim_refused (v * 8) (envelopes t (R.levels t (depth - 1)) content v) (drop (c.index + 1) values) c.next c.handles (omega (arith, padded_multiple v)),
          )
          (put_last message_too_long (c.index + 1) c.index refl (omega arith)))

      pub table_opened : {d : Cursor} (r : Result Opening Fault) → d ≡ took_one c → ClaimOpens (v * 8) d r → IfOk r (λ x. x.count ≡ v) → TableOpens values out whole depth at c (to_open r)
      table_opened r e opens has t content base edition ask =
          let went : ClaimOpens (v * 8) (took_one c) r = rw e at opens in
          table_leads t content base (λ x. x.count * 8) (λ x. envelopes t (R.levels t (depth - 1)) content x.count) (to_open r)
          (rw (after_down t depth content v (drop (c.index + 1) values) c.next c.handles edition down)
          (opens_same values whole whole 0 at base (took_one c) _ v (λ x m. rw m) (λ x m. ap (envelopes t (R.levels t (depth - 1)) content) (sym m)) r has
          (went values whole at base (envelopes t (R.levels t (depth - 1)) content v) (ask_took ask h))))
