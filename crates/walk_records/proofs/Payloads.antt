-- A known payload: what its envelope leads to, and what seals it.
-- Assumes nothing.
use Rattle.std.specs.Prelude.{Err, Ok, Result}
use mathlib.Core.Path.{◌≡◌, refl, sym, ap, ◌∙◌}
use mathlib.Core.List.{List, []}
use Prim.Native.Nat.{ℕ, ◌+◌, ◌-◌, ◌≤◌, ◌<◌}
use native.Mathlib.Omega.{arith}
use borrow.Author.Tests.{eq-eqb, ne_eqb, le-leb, lt-leb}
use lib.Dec.{eqb}
use lib.ListN.{length}
use Rattle.rules.specs.declared.Fault.{Fault}
use Rattle.rules.specs.declared.Place.TheVariants.{Byte}
use Rattle.rules.specs.Refusals.{fault, too_deep, envelope_form_wrong, byte_number_wrong, handle_number_wrong, fill_not_zero}
use Rattle.rules.specs.Bytes.{part, word, leading_zeros}
use Rattle.rules.specs.TypeTable.{TypeTable, known}
use Rattle.rules.specs.Sizes.{size_of}
use Rattle.rules.specs.Trace.{payload_object}
use Rattle.rules.specs.Decode as D
use Rattle.rules.specs.Decode.{Message, Decoded, went, Decoder}
use Rattle.rules.specs.Envelope.{in_line, out_of_line, low_word, handle_number, flags, flagged, byte_numbered, content_of_eight_bytes}
use Rattle.rules.specs.Walk as W
use Rattle.walk_leaves.specs.declared.cursor.Cursor.{Cursor}
use Rattle.walk_leaves.specs.Doing.{Walked}
use Rattle.walk_records.specs.declared.records.Opened.{Opened}
use Rattle.walk_records.specs.declared.records.Opened.TheVariants.{Closed, Open}
use Rattle.walk_leaves.specs.Doing.{message, Did, Ask}
use Rattle.walk_records.specs.Opening.{Opens, handles_sealed, sealed_at, payload_of}
use Rattle.walk_leaves.proofs.Steps.{did_stop, did_nothing, did_more}
use Rattle.walk_records.specs.Promises.{DeeperOpens}
use Rattle.walk_records.proofs.Claiming.{claim_followed}
use Rattle.walk_records.proofs.Levels.{levels_spent, levels_down}
use Rattle.walk_leaves.proofs.Results.{after_none, then_same, then_then, then_require, require_after_lem}
use Rattle.words.proofs.Fill.{zeros_at_most}

-- ---- after the payload

module _ (t : TypeTable) (bytes values objects : List ℕ) (handles at used : ℕ) (c : Cursor) {number : ℕ} (e : number ≡ word bytes (at + 4) 2) where
  pub handles_right : number ≡ c.handles - used → c.next ≤ length bytes → c.handles ≤ handles
      → Did (length bytes) handles 0 values values objects objects c (Ok c) (handles_sealed (message t bytes handles) at used c.next c.handles)
  handles_right q h k = rw (← e, eq-eqb _ _ q) (did_nothing h k)

  pub handles_wrong : {r : Walked} → (number ≡ c.handles - used → ⊥) → r ≡ Err (fault handle_number_wrong (Byte at))
      → Did (length bytes) handles 0 values values objects objects c r (handles_sealed (message t bytes handles) at used c.next c.handles)
  handles_wrong n y = rw (← e, ne_eqb _ _ n, y) did_stop

module _ (t : TypeTable) (bytes values objects : List ℕ) (handles size at next used : ℕ) (c : Cursor) {r : Walked} where
  -- in line,
  module _ {zeros : ℕ} (small : size ≤ 4) (e : zeros ≡ leading_zeros (part bytes (at + size) (4 - size))) where
    pub fill_wrong : zeros < 4 - size → r ≡ Err (fault fill_not_zero (Byte (at + size + zeros)))
        → Did (length bytes) handles 0 values values objects objects c r (sealed_at (message t bytes handles) size at next used c.next c.handles)
    unfolding sealed_at D.fill
    fill_wrong h y = rw (le-leb _ _ small, ← e, ne_eqb zeros (4 - size) (λ q. omega arith), y) did_stop

    pub fill_right : 4 - size ≤ zeros
        → Did (length bytes) handles 0 values values objects objects c r (handles_sealed (message t bytes handles) at used c.next c.handles)
        → Did (length bytes) handles 0 values values objects objects c r (sealed_at (message t bytes handles) size at next used c.next c.handles)
    unfolding sealed_at D.fill
    fill_right h d =
        let q : zeros ≡ 4 - size = omega (arith, zeros_at_most bytes (at + size) (4 - size)) in
        rw (le-leb _ _ small, ← e, eq-eqb _ _ q, after_none) d

  -- and out of line.
  module _ {number : ℕ} (large : 4 < size) (e : number ≡ word bytes at 4) where
    pub bytes_wrong : (number ≡ c.next - next → ⊥) → r ≡ Err (fault byte_number_wrong (Byte at))
        → Did (length bytes) handles 0 values values objects objects c r (sealed_at (message t bytes handles) size at next used c.next c.handles)
    unfolding sealed_at
    bytes_wrong n y = rw (lt-leb _ _ large, ← e, ne_eqb _ _ n, y) did_stop

    pub bytes_right : number ≡ c.next - next
        → Did (length bytes) handles 0 values values objects objects c r (handles_sealed (message t bytes handles) at used c.next c.handles)
        → Did (length bytes) handles 0 values values objects objects c r (sealed_at (message t bytes handles) size at next used c.next c.handles)
    unfolding sealed_at
    bytes_right q d = rw (lt-leb _ _ large, ← e, eq-eqb _ _ q) d

-- ---- the envelope

-- What follows a payload may as well follow its claim.
deeper_followed : (m : Message) (kind row size payload : ℕ) (k : ℕ → ℕ → Decoded) (below : D.Deeper) (record_at at n u : ℕ)
    → D.and_then (D.one_deeper below record_at (λ F b. D.claim m kind row size (F payload)) at n u) k
    ≡ D.one_deeper below record_at (λ F b. D.claim m kind row size (λ at' n' u'. D.and_then (F payload at' n' u') k)) at n u
deeper_followed m kind row size payload k D.spent record_at at n u = refl
deeper_followed m kind row size payload k (D.deeper F b) record_at at n u = sym (claim_followed m kind row size (F payload) k at n u)

module _ (m : Message) (below : D.Deeper) (row payload : ℕ) {size : ℕ} (at n u : ℕ) (e : size_of m.table payload ≡ size) where
  known_in_line : size ≤ 4
      → content_of_eight_bytes m below row (known payload) at n u
      ≡ D.require (eqb (flags m at) in_line) (fault envelope_form_wrong (Byte at))
      (D.and_then (D.one_deeper below at (λ rows b. rows payload) at n u) (λ n' u'. sealed_at m size at n u n' u'))
  unfolding content_of_eight_bytes flagged D.sequence sealed_at
  known_in_line small =
      rw (e, le-leb _ _ small, e, require_after_lem (λ n' u'. eqb (handle_number m at) (u' - u)))
      (ap (D.require (eqb (flags m at) in_line) (fault envelope_form_wrong (Byte at)))
      (then_then (D.one_deeper below at (λ rows b. rows payload) at n u) (λ n' u'. D.fill m (4 - size) (at + size) n' u') (λ n' u'. handles_sealed m at u n' u')))

  known_out_of_line : 4 < size
      → content_of_eight_bytes m below row (known payload) at n u
      ≡ D.require (eqb (flags m at) out_of_line) (fault envelope_form_wrong (Byte at))
      (D.and_then (D.one_deeper below at (λ rows b. D.claim m payload_object payload size (rows payload)) at n u) (λ n' u'. sealed_at m size at n u n' u'))
  unfolding content_of_eight_bytes flagged byte_numbered sealed_at
  known_out_of_line large =
      rw (e, lt-leb _ _ large, e, require_after_lem (λ n' u'. eqb (handle_number m at) (u' - u)), require_after_lem (λ n' u'. eqb (low_word m at) (n' - n)))
      (ap (D.require (eqb (flags m at) out_of_line) (fault envelope_form_wrong (Byte at))) (then_then claim_of covered numbered ∙ then_same claim_of both))
    where
      claim_of : Decoded
      claim_of = D.one_deeper below at (λ rows b. D.claim m payload_object payload size (rows payload)) at n u

      covered : ℕ → ℕ → Decoded
      covered n' u' = D.require (eqb (low_word m at) (n' - n)) (fault byte_number_wrong (Byte at)) (went n' u' [] [])

      numbered : ℕ → ℕ → Decoded
      numbered n' u' = handles_sealed m at u n' u'

      both : (n' u' : ℕ) → D.and_then (covered n' u') numbered ≡ D.require (eqb (low_word m at) (n' - n)) (fault byte_number_wrong (Byte at)) (handles_sealed m at u n' u')
      both n' u' =
          then_require (eqb (low_word m at) (n' - n)) (fault byte_number_wrong (Byte at)) (went n' u' [] []) numbered
          ∙ rw after_none

-- A known payload's envelope, under a message's bytes and handle count.
abbrev known_at : (t : TypeTable) (bytes : List ℕ) (handles depth row payload at : ℕ) → Cursor → Decoded
known_at t bytes handles depth row payload at c =
    content_of_eight_bytes (message t bytes handles) (W.levels (message t bytes handles) depth) row (known payload) at c.next c.handles

module _ (t : TypeTable) (bytes values objects : List ℕ) (handles depth row payload : ℕ) {size : ℕ} (at : ℕ) (c : Cursor) {form : ℕ}
    (e : size_of t payload ≡ size) (q : form ≡ word bytes (at + 6) 2) where
  in_line_lem : size ≤ 4
      → known_at t bytes handles depth row payload at c
      ≡ D.require (eqb form in_line) (fault envelope_form_wrong (Byte at))
      (D.and_then (D.one_deeper (W.levels (message t bytes handles) depth) at (λ F b. F payload) at c.next c.handles)
      (λ n u. sealed_at (message t bytes handles) size at c.next c.handles n u))
  in_line_lem h = rw q (known_in_line (message t bytes handles) (W.levels (message t bytes handles) depth) row payload at c.next c.handles e h)

  pub in_line_wrong : {f : Fault} → size ≤ 4 → (form ≡ in_line → ⊥) → f ≡ fault envelope_form_wrong (Byte at)
      → Did (length bytes) handles 7 values values objects objects c (Err f) (known_at t bytes handles depth row payload at c)
  in_line_wrong h k y = rw (in_line_lem h, ne_eqb _ _ k, y) did_stop

  pub in_line_too_deep : {f : Fault} → size ≤ 4 → form ≡ in_line → depth ≡ 0 → f ≡ fault too_deep (Byte at)
      → Did (length bytes) handles 7 values values objects objects c (Err f) (known_at t bytes handles depth row payload at c)
  in_line_too_deep h k d y = rw (in_line_lem h, eq-eqb _ _ k, levels_spent _ depth d, y) did_stop

  pub in_line_open : size ≤ 4 → form ≡ in_line → (depth ≡ 0 → ⊥) → Ask (length bytes) handles 7 at c
      → Opens (length bytes) handles 7 values values objects objects c (known_at t bytes handles depth row payload at c)
      (λ x. size) (payload_of (message t bytes handles) depth payload size at c.next c.handles) (Ok (Open (record { count = 1; start = at; cursor = c })))
  in_line_open h k d a =
      rw (in_line_lem h, eq-eqb _ _ k, levels_down _ depth d)
      (record { short = a.short; few = a.few; inside = omega arith; free = a.free; held = a.held; small = omega arith }, λ v o r p. did_more 7 (omega arith) p, (omega arith, omega arith))

  out_of_line_lem : 4 < size
      → known_at t bytes handles depth row payload at c
      ≡ D.require (eqb form out_of_line) (fault envelope_form_wrong (Byte at))
      (D.one_deeper (W.levels (message t bytes handles) depth) at
      (λ F b. D.claim (message t bytes handles) payload_object payload size
      (λ at' n u. D.and_then (F payload at' n u) (λ n' u'. sealed_at (message t bytes handles) size at c.next c.handles n' u'))) at c.next c.handles)
  out_of_line_lem h =
      rw q
      (known_out_of_line (message t bytes handles) (W.levels (message t bytes handles) depth) row payload at c.next c.handles e h
      ∙ rw (deeper_followed (message t bytes handles) payload_object payload size payload))

  pub out_of_line_wrong : {f : Fault} → 4 < size → (form ≡ out_of_line → ⊥) → f ≡ fault envelope_form_wrong (Byte at)
      → Did (length bytes) handles 7 values values objects objects c (Err f) (known_at t bytes handles depth row payload at c)
  out_of_line_wrong h k y = rw (out_of_line_lem h, ne_eqb _ _ k, y) did_stop

  pub out_of_line_open : (objects' : List ℕ) (r : Result Opened Fault) → 4 < size → form ≡ out_of_line → DeeperOpens bytes depth objects objects' at c payload_object payload size r → Ask (length bytes) handles 7 at c
      → Opens (length bytes) handles 7 values values objects objects' c (known_at t bytes handles depth row payload at c)
      (λ x. size) (payload_of (message t bytes handles) depth payload size at c.next c.handles) r
  out_of_line_open objects' r h k p a =
      rw (out_of_line_lem h, eq-eqb _ _ k)
      (more r (p t values handles fields (record { short = a.short; few = a.few; inside = omega arith; free = a.free; held = a.held; small = omega arith })))
    where
      fields : (ℕ → Decoder) → D.Deeper → Decoder
      fields F b at' n u = D.and_then (F payload at' n u) (λ n' u'. sealed_at (message t bytes handles) size at c.next c.handles n' u')

      more : (r : Result Opened Fault)
          → Opens (length bytes) handles 4 values values objects objects' c
          (D.one_deeper (W.levels (message t bytes handles) depth) at (λ F b. D.claim (message t bytes handles) payload_object payload size (fields F b)) at c.next c.handles)
          (λ x. size) (payload_of (message t bytes handles) depth payload size at c.next c.handles) r
          → Opens (length bytes) handles 7 values values objects objects' c
          (D.one_deeper (W.levels (message t bytes handles) depth) at (λ F b. D.claim (message t bytes handles) payload_object payload size (fields F b)) at c.next c.handles)
          (λ x. size) (payload_of (message t bytes handles) depth payload size at c.next c.handles) r
      more (Ok (Closed d)) s = did_more 7 (omega arith) s
      more (Err f) s = did_more 7 (omega arith) s
      more (Ok (Open x)) s = (s.0, λ v o w d. did_more 7 (omega arith) (s.1 v o w d), s.2)
