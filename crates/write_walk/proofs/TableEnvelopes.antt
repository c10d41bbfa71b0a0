-- A table's envelopes in turn: absent ones, and those with content.
-- Assumes nothing.
use Rattle.std.specs.Prelude.{Err, Ok, Option}
use mathlib.Core.Bool.{Bool, true, false, ◌&&◌, ◌||◌}
use mathlib.Core.List.{List, [], ◌∷◌}
use mathlib.Core.Path.{◌≡◌, refl, ◌∙◌}
use Prim.Native.Nat.{ℕ, zero, suc, ◌+◌, ◌-◌, ◌*◌, ◌≤◌, ◌<◌}
use native.Mathlib.Numerals.{add-one}
use native.Mathlib.Omega.{arith}
use borrow.Author.Tests.{lt-ltb}
use lib.Dec.{eqb, ltb}
use lib.ListN.{length, drop, get_or, length-drop, drop_of_length-le}
use lib.Seq.{sets, drop-cons}
use Rattle.rules.specs.declared.Fault.{Fault}
use Rattle.rules.specs.declared.Place.TheVariants.{Index}
use Rattle.rules.specs.Refusals.{fault, not_a_value}
use Rattle.rules.specs.Bytes.{zeros, bytes_of}
use Rattle.rules.specs.TypeTable.{TypeTable, a_at, b_at, content_of}
use Rattle.rules.specs.Encode as E
use Rattle.rules.specs.Encode.{Encoder, cannot, wrote}
use Rattle.rules.specs.Envelope.{write_content_of_eight_bytes}
use Rattle.rules.specs.Writer as R
use Rattle.ordinals.specs.Ordinals.{ordinal_is}
use Rattle.nesting.proofs.Runs.{RunLeft, run_start, run_asks, run_on, run_refused, run_end}
use Rattle.write_leaves.specs.declared.cursor.Cursor.{Cursor}
use Rattle.write_leaves.specs.Putting.{Wrote, Puts, took_one, Ask}
use Rattle.write_walk.specs.Walking.{write_envelope, EnvelopesPut, ContentPut}
use Rattle.write_leaves.proofs.InLine.{put_in_line, put_cannot}
use Rattle.write_records.proofs.UnknownContent.{put_later}
use Rattle.write_leaves.proofs.Writing.{writing}

-- ---- one envelope, by its number

module _ (last : Bool) (content : Encoder) (values : List ℕ) (i next used : ℕ) where
  envelope_short : length values ≤ i → E.optional_envelope 8 last content (drop i values) next used ≡ cannot not_a_value 0
  unfolding E.optional_envelope
  envelope_short h = rw (drop_of_length-le values h)

  module _ {v : ℕ} (h : i < length values) (read : v ≡ get_or values i 0) where
    envelope_at_lem : E.optional_envelope 8 last content (drop i values) next used ≡ E.optional_envelope 8 last content (v ∷ drop (i + 1) values) next used
    envelope_at_lem = rw (read, add-one, drop-cons values i 0 h)

    -- Neither 0 nor 1, or a 0 that is the last.
    envelope_wrong : ltb 1 v || (eqb v 0 && last) ≡ true → E.optional_envelope 8 last content (drop i values) next used ≡ cannot not_a_value (suc (length (drop (i + 1) values)))
    unfolding E.optional_envelope
    envelope_wrong w = envelope_at_lem ∙ go v last w
      where
        go : (v : ℕ) (last : Bool) → ltb 1 v || (eqb v 0 && last) ≡ true
            → E.optional_envelope 8 last content (v ∷ drop (i + 1) values) next used ≡ cannot not_a_value (suc (length (drop (i + 1) values)))
        go zero true w = refl
        go zero false w = absurd (let z : ◌≡◌ {A = ℕ} 0 1 = cc in omega arith)
        go (suc zero) last w = absurd (let z : ◌≡◌ {A = ℕ} 0 1 = cc in omega arith)
        go (suc (suc v)) last w = refl

    module _ (right : ltb 1 v || (eqb v 0 && last) ≡ false) where
      envelope_absent : v ≡ 0 → E.optional_envelope 8 last content (drop i values) next used ≡ wrote (zeros 8) [] next used (drop (i + 1) values)
      unfolding E.optional_envelope
      envelope_absent z = envelope_at_lem ∙ rw z (go last (rw z at right))
        where
          go : (last : Bool) → last ≡ false → E.optional_envelope 8 last content (0 ∷ drop (i + 1) values) next used ≡ wrote (zeros 8) [] next used (drop (i + 1) values)
          go true w = absurd (let z : ◌≡◌ {A = ℕ} 0 1 = cc in omega arith)
          go false w = refl

      envelope_present : (v ≡ 0 → ⊥) → E.optional_envelope 8 last content (drop i values) next used ≡ content (drop (i + 1) values) next used
      unfolding E.optional_envelope
      envelope_present n = envelope_at_lem ∙ go v n right
        where
          go : (v : ℕ) → (v ≡ 0 → ⊥) → ltb 1 v || (eqb v 0 && last) ≡ false → E.optional_envelope 8 last content (v ∷ drop (i + 1) values) next used ≡ content (drop (i + 1) values) next used
          go zero n w = absurd (n refl)
          go (suc zero) n w = refl
          go (suc (suc v)) n w = let over : ltb 1 (suc (suc v)) ≡ true = lt-ltb 1 (suc (suc v)) (omega arith) in absurd (let z : ◌≡◌ {A = ℕ} 0 1 = cc (rw over at w) in omega arith)

-- ---- in turn

-- The envelopes from the one after `i` on.
abbrev pub EnvelopesLeft : (t : TypeTable) (values : List ℕ) (base depth row count : ℕ) (out out' : List ℕ) (c d : Cursor) (i : ℕ) → Type 0
EnvelopesLeft t values base depth row count out out' c d i =
    RunLeft (writing values base) 8 (write_envelope t depth row count) (count * 8) 0 (E.elements (write_envelope t depth row count) 1 count) out c out' d (i + 1) (count - i) (i * 8)

module _ (t : TypeTable) (values : List ℕ) (base depth row count : ℕ) (out : List ℕ) (c : Cursor) where
  pub envelopes_start : Ask values (count * 8) 0 base c → EnvelopesLeft t values base depth row count out out c c 0
  envelopes_start a = let r : count - 0 ≡ count = omega arith in rw r (run_start 1 count 0 refl a)

  module _ {out' : List ℕ} {d : Cursor} {i : ℕ} (r : EnvelopesLeft t values base depth row count out out' c d i) where
    pub envelopes_end : count ≤ i → EnvelopesPut t values out out' base depth c row count (Ok d)
    envelopes_end h = run_end r (omega arith)

    module _ (h : i < count) where
      pub envelope_asks : Ask values 8 (i * 8) base d
      envelope_asks = run_asks r (omega arith)

      turn : {out'' : List ℕ} {e : Cursor} → Puts values out' out'' 8 (i * 8) base d (Ok e) (write_envelope t depth row count (i + 1))
          → EnvelopesLeft t values base depth row count out out'' c e (i + 1)
      turn put =
          let s : count - i - 1 ≡ count - (i + 1) = omega arith in
          let p : i * 8 + 8 ≡ (i + 1) * 8 = omega arith in
          rw (← s, ← p) (run_on r (omega arith) put)

      abbrev content_at : Encoder
      content_at = write_content_of_eight_bytes t (R.levels t depth) (content_of t (a_at t row) (b_at t row) (i + 1))

      pub one_ended : {w : Wrote} → length values ≤ d.index → w ≡ Err (fault not_a_value (Index d.index)) → EnvelopesPut t values out out' base depth c row count w
      one_ended k y =
          let a = envelope_asks in
          rw y (run_refused r (omega arith) (rw (envelope_short (eqb (i + 1) count) content_at values d.index d.next d.handles k) (put_cannot not_a_value 0 d.index (omega (arith, a.left)))))

      module _ {v : ℕ} (k : d.index < length values) (read : v ≡ get_or values d.index 0) where
        pub one_wrong : {w : Wrote} → ltb 1 v || (eqb v 0 && eqb (i + 1) count) ≡ true → w ≡ Err (fault not_a_value (Index d.index))
            → EnvelopesPut t values out out' base depth c row count w
        one_wrong test y =
            rw y (run_refused r (omega arith) (rw (envelope_wrong (eqb (i + 1) count) content_at values d.index d.next d.handles k read test)
            (put_cannot not_a_value (suc (length (drop (d.index + 1) values))) d.index (omega (arith, length-drop (d.index + 1) values)))))

        module _ (test : ltb 1 v || (eqb v 0 && eqb (i + 1) count) ≡ false) {e : Cursor} (took : e ≡ took_one d) where
          pub one_absent : {out'' : List ℕ} → v ≡ 0 → out'' ≡ sets out' (i * 8) (bytes_of 8 0) → EnvelopesLeft t values base depth row count out out'' c e (i + 1)
          unfolding zeros bytes_of
          one_absent z stored =
              let a = envelope_asks in
              rw took (turn (rw (envelope_absent (eqb (i + 1) count) content_at values d.index d.next d.handles k read test z)
              (put_in_line (took_one d) (zeros 8) refl stored (record { free = a.free; held = a.held; left = omega arith }) refl (omega arith) (omega arith))))

          pub content_asks : Ask values 8 (i * 8) base e × (0 < e.index)
          content_asks = let a = envelope_asks in rw took (record { inside = a.inside; free = a.free; held = a.held; left = omega arith }, omega arith)

          module _ {first known : ℕ} (what : Option ℕ) {out'' : List ℕ} {w : Wrote} (n : v ≡ 0 → ⊥) (f : first ≡ a_at t row) (g : known ≡ b_at t row)
              (is : ordinal_is what ≡ content_of t first known (i + 1)) (put : ContentPut t values out' out'' base depth (i * 8) e what w) where
            present : Puts values out' out'' 8 (i * 8) base d w (write_envelope t depth row count (i + 1))
            present =
                let q : ContentPut t values out' out'' base depth (i * 8) (took_one d) what w = rw took at put in
                rw (envelope_present (eqb (i + 1) count) content_at values d.index d.next d.handles k read test n, ← f, ← g, ← is) (put_later q)

            pub one_present : {f : Cursor} → w ≡ Ok f → EnvelopesLeft t values base depth row count out out'' c f (i + 1)
            one_present y = turn (rw y at present)

            pub one_refused : {f : Fault} → w ≡ Err f → EnvelopesPut t values out out'' base depth c row count (Err f)
            one_refused y = run_refused r (omega arith) (rw y at present)
