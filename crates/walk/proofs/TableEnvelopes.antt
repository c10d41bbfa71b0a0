-- A table's envelopes in turn: absent ones, and those with content.
-- Assumes nothing.
use Rattle.std.specs.Prelude.{Err, Ok, Option}
use mathlib.Core.List.{List}
use mathlib.Core.Path.{◌≡◌, refl, sym, ◌∙◌}
use Prim.Native.Nat.{ℕ, ◌+◌, ◌-◌, ◌*◌, ◌≤◌, ◌<◌}
use native.Mathlib.Omega.{arith}
use borrow.Author.Tests.{eq-eqb, ne_eqb}
use lib.ListN.{length}
use Rattle.rules.specs.declared.Fault.{Fault}
use Rattle.rules.specs.declared.Place.TheVariants.{Byte}
use Rattle.rules.specs.Refusals.{fault, last_envelope_zero}
use Rattle.rules.specs.Bytes.{word}
use Rattle.rules.specs.TypeTable.{TypeTable, a_at, b_at}
use Rattle.rules.specs.Decode as D
use Rattle.rules.specs.Envelope.{content_of_eight_bytes}
use Rattle.rules.specs.Walk as W
use Rattle.ordinals.specs.Ordinals.{ordinal_is, halved}
use Rattle.ordinals.proofs.Members.{MembersRise, ordinal_content}
use Rattle.nesting.proofs.Runs.{RunLeft, run_start, run_asks, run_on, run_refused, run_end}
use Rattle.walk_leaves.specs.declared.cursor.Cursor.{Cursor}
use Rattle.walk_leaves.specs.Doing.{Walked}
use Rattle.walk_leaves.specs.Doing.{gave_one, Did, Ask}
use Rattle.walk.specs.Walking.{here, envelope_at, ContentDid, EnvelopesDid}
use Rattle.walk_leaves.proofs.Steps.{did_stop, did_one}
use Rattle.walk_records.proofs.Giving.{Gave, did_gave, ask_gave}
use Rattle.walk_records.proofs.Zeros.{zero_word, nonzero_word}
use Rattle.walk_leaves.proofs.Reading.{reading}

-- The envelopes from the one after `i` on.
abbrev pub EnvelopesLeft : (t : TypeTable) (bytes : List ℕ) (handles depth row count at : ℕ) (v v' o o' : List ℕ) (c d : Cursor) (i : ℕ) → Type 0
EnvelopesLeft t bytes handles depth row count at v v' o o' c d i =
    RunLeft (reading (here t bytes handles depth)) 8 (envelope_at t bytes handles depth row count) (count * 8) at
    (D.elements 8 (envelope_at t bytes handles depth row count) 1 count) (v, o) c (v', o') d (i + 1) (count - i) (at + i * 8)

module _ (t : TypeTable) (bytes : List ℕ) (handles depth row count at : ℕ) (v o : List ℕ) (c : Cursor) where
  pub envelopes_start : Ask (length bytes) handles (count * 8) at c → EnvelopesLeft t bytes handles depth row count at v v o o c c 0
  envelopes_start a =
      let r : count - 0 ≡ count = omega arith in
      let p : at + 0 * 8 ≡ at = omega arith in
      rw (r, p) (run_start 1 count at refl a)

  module _ {v' o' : List ℕ} {d : Cursor} {i : ℕ} (r : EnvelopesLeft t bytes handles depth row count at v v' o o' c d i) where
    pub envelopes_end : count ≤ i → EnvelopesDid t bytes handles depth v v' o o' at c row count (Ok d)
    envelopes_end h = run_end r (omega arith)

    module _ (h : i < count) where
      pub envelope_asks : Ask (length bytes) handles 8 (at + i * 8) d
      envelope_asks = run_asks r (omega arith)

      pub content_asks : {e : Cursor} → e ≡ gave_one d → Ask (length bytes) handles 7 (at + i * 8) e
      content_asks g = ask_gave 7 envelope_asks g (omega arith)

      -- One is done.
      turn : {v'' o'' : List ℕ} {e : Cursor} → Did (length bytes) handles 8 v' v'' o' o'' d (Ok e) (envelope_at t bytes handles depth row count (i + 1) (at + i * 8) d.next d.handles)
          → EnvelopesLeft t bytes handles depth row count at v v'' o o'' c e (i + 1)
      turn did =
          let s : count - i - 1 ≡ count - (i + 1) = omega arith in
          let p : at + i * 8 + 8 ≡ at + (i + 1) * 8 = omega arith in
          rw (← s, ← p) (run_on r (omega arith) did)

      module _ {loaded : ℕ} (l : loaded ≡ word bytes (at + i * 8) 8) where
        pub last_absent : {w : Walked} → loaded ≡ 0 → i + 1 ≡ count → w ≡ Err (fault last_envelope_zero (Byte (at + i * 8)))
            → EnvelopesDid t bytes handles depth v v' o o' at c row count w
        unfolding D.optional_envelope
        last_absent z q y =
            let a = envelope_asks in
            rw y (run_refused r (omega arith) (rw (zero_word bytes (at + i * 8) 8 a.inside (sym l ∙ z), eq-eqb (i + 1) count q) did_stop))

        pub one_absent : {v'' : List ℕ} {e : Cursor} → loaded ≡ 0 → (i + 1 ≡ count → ⊥) → Gave v' v'' d e 0
            → EnvelopesLeft t bytes handles depth row count at v v'' o o' c e (i + 1)
        unfolding D.optional_envelope
        one_absent z q g =
            let a = envelope_asks in
            rw (g.0, g.1) (turn (rw (zero_word bytes (at + i * 8) 8 a.inside (sym l ∙ z), ne_eqb (i + 1) count q) (did_one 0 (omega arith) a.free a.held)))

        module _ {first known : ℕ} (what : Option ℕ) {e : Cursor} {v₁ v'' o'' : List ℕ} {w : Walked} (z : loaded ≡ 0 → ⊥) (f : first ≡ a_at t row) (k : known ≡ b_at t row)
            (m : MembersRise t first known) (found : ordinal_is what ≡ halved t.members (i + 1) first known) (g : Gave v' v₁ d e 1) (did : ContentDid t bytes handles depth v₁ v'' o' o'' (at + i * 8) e row what w) where
          present : Did (length bytes) handles 8 v' v'' o' o'' d w (envelope_at t bytes handles depth row count (i + 1) (at + i * 8) d.next d.handles)
          unfolding D.optional_envelope
          present =
              let a = envelope_asks in
              rw (nonzero_word bytes (at + i * 8) 8 a.inside (λ s. z (l ∙ s)), ← f, ← k, ← ordinal_content m (i + 1) what found)
              (did_gave 8 1 (λ n u. content_of_eight_bytes (here t bytes handles depth) (W.levels (here t bytes handles depth) depth) row (ordinal_is what) (at + i * 8) n u) g did (omega arith))

          pub one_present : {f : Cursor} → w ≡ Ok f → EnvelopesLeft t bytes handles depth row count at v v'' o o'' c f (i + 1)
          one_present y = turn (rw y at present)

          pub one_refused : {f : Fault} → w ≡ Err f → EnvelopesDid t bytes handles depth v v'' o o'' at c row count (Err f)
          one_refused y = run_refused r (omega arith) (rw y at present)
