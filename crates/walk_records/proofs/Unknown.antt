-- Content of an unknown ordinal: handles that it takes, in line and out of line.
-- Assumes nothing.
use Rattle.std.specs.Prelude.{Err, Ok}
use mathlib.Core.Path.{◌≡◌, refl, sym, ◌∙◌}
use mathlib.Core.Bool.{Bool, true, false, not, ◌&&◌}
use mathlib.Core.List.{List, [], ◌∷◌}
use Prim.Native.Nat.{ℕ, ◌+◌, ◌*◌, ◌/◌, ◌%◌, ◌≤◌, ◌<◌}
use native.Mathlib.Nat.{add-zero}
use native.Mathlib.Omega.{arith}
use borrow.Author.Tests.{eq-eqb, ne_eqb, le-leb, lt-leb, not-true, not-false}
use lib.Dec.{ltb, eqb}
use lib.ListN.{length}
use Rattle.rules.specs.declared.Fault.{Fault}
use Rattle.rules.specs.declared.Place.TheVariants.{Byte}
use Rattle.rules.specs.Refusals.{fault, too_few_handles, envelope_form_wrong, handles_impossible}
use Rattle.rules.specs.Trace.{unknown_content, unknown_object, object_list}
use Rattle.rules.specs.Bytes.{word, padded}
use Rattle.rules.specs.TypeTable.{TypeTable}
use Rattle.rules.proofs.Bytes.{padded_above}
use Rattle.rules.specs.Decode as D
use Rattle.rules.specs.Decode.{Message, Decoded}
use Rattle.rules.specs.Envelope.{in_line, out_of_line, payload_in_line, claimable, decode_word, unknown_in_line, unknown_out_of_line, unknown_envelope}
use Rattle.rules.specs.Walk as W
use Rattle.layout.specs.Ready.{some_table}
use Rattle.walk_leaves.specs.declared.cursor.Cursor.{Cursor}
use Rattle.walk_leaves.specs.Doing.{Walked}
use Rattle.walk_leaves.specs.Doing.{message, load, Did, Ask}
use Rattle.walk_leaves.specs.Parts.{claim_at, numbers_at, DidObjects, DidValues}
use Rattle.walk_records.specs.Opening.{raw_words}
use Rattle.walk_records.specs.Promises.{TakenDid, RawWordsDid}
use Rattle.walk_leaves.proofs.Steps.{cursor_same, did_stop, did_then, did_halt}
use Rattle.walk_leaves.proofs.Results.{after_after}
use Rattle.walk_records.proofs.Giving.{Gave, did_gave}
use Rattle.walk_records.proofs.Levels.{levels_down}
use Rattle.walk_records.proofs.Claiming.{claim_then, claim_anywhere, claim_on}

-- ---- handles

module _ (t : TypeTable) (bytes values objects : List ℕ) (handles number content at from : ℕ) (c : Cursor) where
  pub taken_few : {r : Walked} → handles < c.handles + number → r ≡ Err (fault too_few_handles (Byte at))
      → Did (length bytes) handles 0 values values objects objects c r
      (D.take_handles (message t bytes handles) at (unknown_content content number) from c.next c.handles)
  unfolding D.take_handles
  taken_few h y = rw (lt-leb _ _ h, y) did_stop

  pub taken_all : c.handles + number ≤ handles → c.next ≤ length bytes
      → Did (length bytes) handles 0 values values objects objects c
      (Ok (record { next = c.next; handles = c.handles + number; values = c.values; objects = c.objects }))
      (D.take_handles (message t bytes handles) at (unknown_content content number) from c.next c.handles)
  unfolding D.take_handles object_list
  taken_all h k = rw (le-leb _ _ h) (record {
    says = cursor_same c.next (c.handles + number) (sym (add-zero c.values)) (sym (add-zero c.objects));
    valued = refl;
    listed = refl;
    within = (k, h, omega arith);
    rises = (omega arith, omega arith);
  })

-- ---- in line

module _ (t : TypeTable) (bytes values objects : List ℕ) (handles depth at : ℕ) (c : Cursor) where
  -- Three numbers, then the handles.
  pub raw_in_line : {low number : ℕ} {r : Walked} {first second third : Cursor} {v₁ v₂ v₃ : List ℕ} → (depth ≡ 0 → ⊥) → c.next ≤ length bytes
      → low ≡ word bytes at 4 → number ≡ word bytes (at + 4) 2
      → Gave values v₁ c first 0 → Gave v₁ v₂ first second number → Gave v₂ v₃ second third low → TakenDid handles number at third r
      → Did (length bytes) handles 7 values v₃ objects objects c r
      (unknown_in_line (message t bytes handles) (W.levels (message t bytes handles) depth) at at c.next c.handles)
  raw_in_line {low} {number} {third = third} {v₃ = v₃} d h l k p q s taken =
      rw (levels_down _ depth d, ← l, ← k, three 0 number low)
      (did_gave 7 0 (λ n u. D.after (number ∷ []) [] (D.after (low ∷ []) [] (take n u))) p
      (did_gave 6 number (λ n u. D.after (low ∷ []) [] (take n u)) q (did_gave 5 low take s (taken t bytes v₃ objects 0 at (rw e h)) (omega arith)) (omega arith))
      (omega arith))
    where
      take : ℕ → ℕ → Decoded
      take n u = D.take_handles (message t bytes handles) at (unknown_content 0 number) at n u

      e : third.next ≡ c.next
      e = cc

      three : (x y z : ℕ) (r : Decoded) → D.after (x ∷ y ∷ z ∷ []) [] r ≡ D.after (x ∷ []) [] (D.after (y ∷ []) [] (D.after (z ∷ []) [] r))
      three x y z r = after_after (x ∷ []) (y ∷ z ∷ []) [] [] r ∙ rw (after_after (y ∷ []) (z ∷ []) [] [] r)

-- ---- out of line

-- Two numbers, then the words.
pub raw_out_of_line : (t : TypeTable) (bytes values objects objects' : List ℕ) (handles depth row at : ℕ) (c : Cursor) {low number : ℕ} {r : Walked} {first second : Cursor} {v₁ v₂ v₃ : List ℕ}
    → (depth ≡ 0 → ⊥) → low ≡ word bytes at 4 → number ≡ word bytes (at + 4) 2
    → Gave values v₁ c first low → Gave v₁ v₂ first second number → RawWordsDid bytes handles v₂ v₃ objects objects' at second row low number r
    → Did (length bytes) handles 7 values v₃ objects objects' c r
    (unknown_out_of_line (message t bytes handles) (W.levels (message t bytes handles) depth) row at at c.next c.handles)
raw_out_of_line t bytes values objects objects' handles depth row at c {low} {number} d l k p q raw =
    rw (levels_down _ depth d, ← l, ← k, after_after (low ∷ []) (number ∷ []) [] [])
    (did_gave 7 low (λ n u. D.after (number ∷ []) [] (words n u)) p (did_gave 6 number words q (raw t) (omega arith)) (omega arith))
  where
    words : ℕ → ℕ → Decoded
    words n u = raw_words (message t bytes handles) row low number at n u

words_parts : (m : Message) (row size number at n u : ℕ)
    → raw_words m row size number at n u
    ≡ D.and_then (claim_at unknown_object row size m 0 n u)
    (λ n' u'. D.and_then (D.take_handles m at (unknown_content size number) n n' u') (λ n'' u''. numbers_at 8 (size / 8) m n n'' u''))
unfolding D.sequence numbers_at
words_parts m row size number at n u =
    claim_then m unknown_object row size
    (D.sequence 0 (D.take_handles m at (unknown_content size number)) (D.elements 8 (λ i. decode_word m 8) 0 (size / 8))) at n u
    ∙ rw (claim_anywhere m unknown_object row size at 0, add-zero)

module _ (bytes objects objects' : List ℕ) (handles row size number at : ℕ) (c : Cursor) {x : Walked} (ask : Ask (length bytes) handles 5 at c)
    (claim : DidObjects bytes objects objects' 4 0 c x (claim_at unknown_object row size)) where
  pub claim_refused : (t : TypeTable) (values : List ℕ) {f : Fault} → x ≡ Err f
      → Did (length bytes) handles 5 values values objects objects' c (Err f) (raw_words (message t bytes handles) row size number at c.next c.handles)
  claim_refused t values e =
      rw (words_parts (message t bytes handles) row size number at c.next c.handles)
      (did_halt 5 _ (rw e at (claim t values handles ask.free ask.held)))

  module _ {d : Cursor} (went_on : x ≡ Ok d) where
    claimed_at : (t : TypeTable) (values : List ℕ) → Did (length bytes) handles 4 values values objects objects' c (Ok d) (claim_at unknown_object row size (message t bytes handles) 0 c.next c.handles)
    claimed_at t values = rw went_on at (claim t values handles ask.free ask.held)

    -- The object's bytes are no longer free, so they make room for its words.
    pub claim_room : (d.next ≤ length bytes) × (d.handles ≤ handles) × (d.next ≡ c.next + padded size) × (load (length bytes) d + size / 8 ≤ load (length bytes) c + 4)
    claim_room =
        let p = claimed_at some_table [] in
        let q = claim_on (message some_table bytes handles) unknown_object row size 0 p in
        let w = p.within in
        let s = padded_above size in
        (w.0, w.1, q.0, omega arith)

    module _ {y : Walked} (taken : TakenDid handles number at d y) where
      pub handles_refused : (t : TypeTable) (values : List ℕ) {f : Fault} → y ≡ Err f
          → Did (length bytes) handles 5 values values objects objects' c (Err f) (raw_words (message t bytes handles) row size number at c.next c.handles)
      handles_refused t values e =
          rw (words_parts (message t bytes handles) row size number at c.next c.handles)
          (did_then 5 _ (claimed_at t values) (did_halt 0 _ (rw e at (taken t bytes values objects' size c.next claim_room.0))) (omega (arith, claim_room.3)))

      module _ {e : Cursor} (took : y ≡ Ok e) where
        taken_at : (t : TypeTable) (values : List ℕ)
            → Did (length bytes) handles 0 values values objects' objects' d (Ok e) (D.take_handles (message t bytes handles) at (unknown_content size number) c.next d.next d.handles)
        taken_at t values = rw took at (taken t bytes values objects' size c.next claim_room.0)

        taken_room : (e.next ≤ length bytes) × (e.handles ≤ handles) × (load (length bytes) e ≤ load (length bytes) d + 0)
        taken_room = (taken_at some_table []).within

        pub words_room : (c.next + size / 8 * 8 ≤ 65536) × (e.values < 4294967296)
        words_room =
            let s = padded_above size in
            let k = ask.short in
            let l = ask.small in
            (omega (arith, claim_room.0, claim_room.2), omega (arith, claim_room.3, taken_room.2))

        pub words_given : (t : TypeTable) (values values' : List ℕ) {z : Cursor} → DidValues bytes values values' (size / 8) c.next e (Ok z) (numbers_at 8 (size / 8))
            → Did (length bytes) handles 5 values values' objects objects' c (Ok z) (raw_words (message t bytes handles) row size number at c.next c.handles)
        words_given t values values' numbers =
            rw (words_parts (message t bytes handles) row size number at c.next c.handles)
            (did_then 5 _ (claimed_at t values)
            (did_then (size / 8) _ (taken_at t values) (numbers t objects' handles taken_room.0 taken_room.1) (omega (arith, taken_room.2)))
            (omega (arith, claim_room.3)))

-- ---- the envelope

-- What was judged of the envelope's numbers holds of the message's words.
module _ {low word : ℕ} (l : low ≡ word) where
  formed : (form : ℕ) {b : Bool} → (eqb form out_of_line && (eqb (low % 8) 0 && ltb 0 low)) ≡ b → (eqb form out_of_line && (eqb (word % 8) 0 && ltb 0 word)) ≡ b
  formed form w = rw (← l) w

  module _ {number number' : ℕ} {test : Bool} (h : number ≡ number') (e : test ≡ claimable low number) where
    impossible : not test ≡ true → claimable word number' ≡ false
    impossible z = rw (← l, ← h, ← e) (not-true test z)

    possible : not test ≡ false → claimable word number' ≡ true
    possible z = rw (← l, ← h, ← e) (not-false test z)

module _ (t : TypeTable) (bytes values values' objects objects' : List ℕ) (handles depth row at : ℕ) (c : Cursor) {form number : ℕ} {r : Walked}
    (q : form ≡ word bytes (at + 6) 2) (h : number ≡ word bytes (at + 4) 2) where
  module _ {test : Bool} (e : form ≡ in_line) (p : test ≡ claimable payload_in_line number) where
    pub in_line_impossible : not test ≡ true → r ≡ Err (fault handles_impossible (Byte at))
        → Did (length bytes) handles 7 values values objects objects c r
        (unknown_envelope (message t bytes handles) (W.levels (message t bytes handles) depth) row at c.next c.handles)
    unfolding unknown_envelope
    in_line_impossible w y = rw (← q, eq-eqb _ _ e, impossible refl h p w, y) did_stop

    pub form_in_line : not test ≡ false
        → Did (length bytes) handles 7 values values' objects objects' c r
        (unknown_in_line (message t bytes handles) (W.levels (message t bytes handles) depth) at at c.next c.handles)
        → Did (length bytes) handles 7 values values' objects objects' c r
        (unknown_envelope (message t bytes handles) (W.levels (message t bytes handles) depth) row at c.next c.handles)
    unfolding unknown_envelope
    form_in_line w d = rw (← q, eq-eqb _ _ e, possible refl h p w) d

  module _ {low : ℕ} (n : form ≡ in_line → ⊥) (l : low ≡ word bytes at 4) where
    pub form_neither : not (eqb form out_of_line && (eqb (low % 8) 0 && ltb 0 low)) ≡ true → r ≡ Err (fault envelope_form_wrong (Byte at))
        → Did (length bytes) handles 7 values values objects objects c r
        (unknown_envelope (message t bytes handles) (W.levels (message t bytes handles) depth) row at c.next c.handles)
    unfolding unknown_envelope
    form_neither w y = rw (← q, ne_eqb _ _ n, formed l form (not-true _ w), y) did_stop

    module _ {test : Bool} (w : not (eqb form out_of_line && (eqb (low % 8) 0 && ltb 0 low)) ≡ false) (p : test ≡ claimable low number) where
      pub out_of_line_impossible : not test ≡ true → r ≡ Err (fault handles_impossible (Byte at))
          → Did (length bytes) handles 7 values values objects objects c r
          (unknown_envelope (message t bytes handles) (W.levels (message t bytes handles) depth) row at c.next c.handles)
      unfolding unknown_envelope
      out_of_line_impossible z y = rw (← q, ne_eqb _ _ n, formed l form (not-false _ w), impossible l h p z, y) did_stop

      pub form_out_of_line : not test ≡ false
          → Did (length bytes) handles 7 values values' objects objects' c r
          (unknown_out_of_line (message t bytes handles) (W.levels (message t bytes handles) depth) row at at c.next c.handles)
          → Did (length bytes) handles 7 values values' objects objects' c r
          (unknown_envelope (message t bytes handles) (W.levels (message t bytes handles) depth) row at c.next c.handles)
      unfolding unknown_envelope
      form_out_of_line z d = rw (← q, ne_eqb _ _ n, formed l form (not-false _ w), possible l h p z) d
