-- Laws of unknown content: numbers that are judged and not stored, then the envelope; a law for each way that a function ends.
-- Assumes nothing.
use Rattle.std.specs.Prelude.{if◌then◌else◌, Err, Ok}
use mathlib.Core.Path.{◌≡◌, refl, ap, ◌∙◌}
use mathlib.Core.Bool.{Bool, true, false, ◌&&◌}
use mathlib.Core.List.{List, []}
use Prim.Native.Nat.{ℕ, zero, suc, ◌+◌, ◌-◌, ◌*◌, ◌/◌, ◌%◌, ◌≤◌, ◌<◌}
use native.Mathlib.Numerals.{add-one}
use native.Mathlib.Omega.{arith}
use borrow.Author.Tests.{lt-ltb, le-ltb, le-leb, lt-leb, leb-true, ne_eqb}
use lib.Dec.{eqb, leb, ltb}
use lib.ListN.{length, drop, get_or, length-drop, drop_of_length-le}
use lib.Seq.{sets, drop-cons}
use Rattle.rules.specs.declared.Fault.{Fault}
use Rattle.rules.specs.declared.Place.TheVariants.{Index}
use Rattle.rules.specs.Refusals.{fault, message_too_long, too_deep, not_a_value}
use Rattle.rules.specs.TypeTable.{TypeTable}
use Rattle.rules.specs.Writer as R
use Rattle.rules.specs.Bytes.{bytes_of, padded}
use Rattle.rules.specs.Encode as E
use Rattle.rules.specs.Encode.{Encoded, wrote, cannot, Encoder}
use Rattle.rules.specs.Envelope.{payload_in_line, claimable, envelope_bytes, handle_number_fits, word_fits, write_words, byte_number_fits, write_unknown_in_line, write_unknown_out_of_line, write_unknown}
use Rattle.write_leaves.specs.declared.cursor.Cursor.{Cursor}
use Rattle.write_leaves.specs.Putting.{Wrote, answer, Stored, Fit, Put, Puts, PutsInLine, took_one, Stands, HandlesTaken, Ask}
use Rattle.write_leaves.specs.InLine.{numbers_as}
use Rattle.write_records.specs.declared.records.Opening.{Opening}
use Rattle.write_records.specs.Opening.{claimed_from, Claimed}
use Rattle.write_records.specs.Promises.{NumbersPut, UnknownPuts}
use Rattle.write_leaves.proofs.InLine.{put_in_line, put_cannot, after_put, took_stands}
use Rattle.write_leaves.proofs.Results.{after_none}
use Rattle.write_leaves.proofs.Together.{put_halt}
use Rattle.write_records.proofs.Openings.{padded_is}

-- ---- a number that is judged

module _ (holds : ℕ → Bool) (continue : ℕ → Encoder) (values : List ℕ) (i next used : ℕ) where
  pub number_short : length values ≤ i → E.number_then holds continue (drop i values) next used ≡ cannot not_a_value 0
  unfolding E.number_then
  number_short h = rw (drop_of_length-le values h)

  pub number_at : i < length values → E.number_then holds continue (drop i values) next used
      ≡ E.require (holds (get_or values i 0)) not_a_value (suc (length (drop (i + 1) values))) (continue (get_or values i 0) (drop (i + 1) values) next used)
  unfolding E.number_then
  number_at h = rw (add-one, drop-cons values i 0 h)

-- What was put from a cursor with the same free byte, further on in the value list, was put from the cursor.
put_from : {values out out' : List ℕ} {size at base : ℕ} {c : Cursor} (d : Cursor) {r : Wrote} {e : Encoded} → d.next ≡ c.next → c.handles ≤ d.handles → c.index ≤ d.index
    → Put values out out' size at base d r e → Put values out out' size at base c r e
put_from {values} {out} {out'} {size} {at} {base} {c} d {r} {e} same u i p = go e p.says p.stored p.fit
  where
    go : (e : Encoded) → r ≡ answer (length values) e → Stored out out' at (d.next - base) e → Fit values size d e → Put values out out' size at base c r e
    go (wrote inline outside n used rest) a s f = record {
      says = a;
      stored = rw same at s;
      fit = record {
        whole = f.whole;
        claimed = omega (arith, f.claimed);
        short = f.short;
        counted = omega (arith, f.counted);
        few = f.few;
        taken = omega (arith, f.taken);
        left = f.left;
      };
    }
    go (cannot number left) a s f = record { says = a; stored = s; fit = tt }

pub put_later : {values out out' : List ℕ} {size at base : ℕ} {c : Cursor} {r : Wrote} {e : Encoded} → Put values out out' size at base (took_one c) r e → Put values out out' size at base c r e
put_later {c = c} p = put_from (took_one c) refl (omega arith) (omega arith) p

-- ---- handles

abbrev holding : (count : ℕ) → Cursor → Cursor
holding count c = record { next = c.next; handles = c.handles + count; index = c.index }

-- What an answer to go on says of the handles that were taken.
record Held (values : List ℕ) (count : ℕ) (c d : Cursor) : Type 0 where
  pub few : c.handles + count ≤ 64
  pub moved : d ≡ holding count c
  pub counted : E.take_handles count (drop c.index values) c.next c.handles ≡ wrote [] [] c.next (c.handles + count) (drop c.index values)

handles_held : {values : List ℕ} (count : ℕ) (c d : Cursor) → Stands values c → HandlesTaken count c (Ok d) → Held values count c d
unfolding E.take_handles
handles_held {values} count c d s p = go (leb (c.handles + count) 64) refl
  where
    q : Put values [] [] 0 0 0 c (Ok d) (E.take_handles count (drop c.index values) c.next c.handles)
    q = p values [] 0 0 s

    go : (b : Bool) → leb (c.handles + count) 64 ≡ b → Held values count c d
    go true t =
        let q' = rw t at q in
        let says : Ok d ≡ Ok (record { next = c.next; handles = c.handles + count; index = length values - length (drop c.index values) }) = q'.says in
        let same : d ≡ record { next = c.next; handles = c.handles + count; index = length values - length (drop c.index values) } = cc in
        let back : length values - length (drop c.index values) ≡ c.index = omega (arith, s.left, length-drop c.index values) in
        record {
          few = q'.fit.few;
          moved = same ∙ ap (λ (k : ℕ). record { next = c.next; handles = c.handles + count; index = k }) back;
          counted = rw t;
        }
    go false t =
        let q' = rw t at q in
        let says : Ok d ≡ Err (fault 4 (Index (length values - suc (length (drop c.index values))))) = q'.says in
        absurd (let w : ◌≡◌ {A = ℕ} 0 1 = cc in omega arith)

-- ---- the handle number

both_false : (b : Bool) → b && false ≡ false
both_false true = refl
both_false false = refl

-- What the test against the payload says of the handle number.
module _ (payload v : ℕ) {test : Bool} (judged : test ≡ claimable payload v) where
  many : test ≡ false → handle_number_fits payload v ≡ false
  many k = let q : claimable payload v ≡ false = rw (← judged) k in rw q (both_false (ltb v 65536))

  module _ (k : test ≡ true) where
    claims : claimable payload v ≡ true
    claims = rw (← judged) k

    pub room : v * 4 ≤ payload
    room = leb-true (v * 4) payload claims

    few : payload ≤ 65536 → handle_number_fits payload v ≡ true
    few h = let t : ltb v 65536 ≡ true = lt-ltb v 65536 (omega (arith, room)) in rw t claims

-- ---- unknown content in line

abbrev word_next : (handles : ℕ) → Encoder
word_next handles = E.number_then word_fits (λ word. E.inline_bytes (envelope_bytes word handles 1))

abbrev handles_next : (handles : ℕ) → Encoder
handles_next handles = E.sequence (E.take_handles handles) (word_next handles)

envelope_whole : (bytes handles flags : ℕ) → length (envelope_bytes bytes handles flags) ≡ 8
unfolding bytes_of
envelope_whole bytes handles flags = refl

module _ (values out : List ℕ) (at : ℕ) (c : Cursor) (s : Stands values c) where
  pub in_line_ended : {r : Wrote} → length values ≤ c.index → r ≡ Err (fault not_a_value (Index c.index)) → PutsInLine values out out 8 at c r write_unknown_in_line
  unfolding write_unknown_in_line
  in_line_ended h e base =
      rw (e, number_short (handle_number_fits payload_in_line) handles_next values c.index c.next c.handles h) (put_cannot not_a_value 0 c.index (omega (arith, s.left)))

  module _ {v : ℕ} {test : Bool} (h : c.index < length values) (read : v ≡ get_or values c.index 0) (judged : test ≡ claimable payload_in_line v) where
    pub in_line_many : {r : Wrote} → test ≡ false → r ≡ Err (fault not_a_value (Index c.index)) → PutsInLine values out out 8 at c r write_unknown_in_line
    unfolding write_unknown_in_line
    in_line_many k e base =
        let t : handle_number_fits payload_in_line v ≡ false = many payload_in_line v judged k in
        rw (e, number_at (handle_number_fits payload_in_line) handles_next values c.index c.next c.handles h, ← read, t)
        (put_cannot not_a_value (suc (length (drop (c.index + 1) values))) c.index (omega (arith, length-drop (c.index + 1) values)))

    module _ {d : Cursor} (k : test ≡ true) (e : d ≡ took_one c) where
      goes : write_unknown_in_line (drop c.index values) c.next c.handles ≡ E.and_then (E.take_handles v (drop (c.index + 1) values) c.next c.handles) (word_next v)
      unfolding write_unknown_in_line E.sequence
      goes =
          let t : handle_number_fits payload_in_line v ≡ true = few payload_in_line v judged k (omega arith) in
          rw (number_at (handle_number_fits payload_in_line) handles_next values c.index c.next c.handles h, ← read, t)

      pub in_line_handles_over : {f : Fault} {y : Wrote} → HandlesTaken v d y → y ≡ Err f → PutsInLine values out out 8 at c (Err f) write_unknown_in_line
      in_line_handles_over {f} p x base =
          let q : HandlesTaken v (took_one c) (Err f) = rw (e, x) at p in
          rw goes (put_later (put_halt 8 (word_next v) (q values out at base (took_stands s h))))

      module _ {f : Cursor} {y : Wrote} (p : HandlesTaken v d y) (x : y ≡ Ok f) where
        held : Held values v (took_one c) f
        held = let q : HandlesTaken v (took_one c) (Ok f) = rw (e, x) at p in handles_held v (took_one c) f (took_stands s h) q

        on : write_unknown_in_line (drop c.index values) c.next c.handles ≡ word_next v (drop f.index values) f.next f.handles
        on = goes ∙ rw (held.counted, held.moved) (after_none (word_next v (drop (c.index + 1) values) c.next (c.handles + v)))

        stands : Stands values f
        stands = rw held.moved (record { free = s.free; held = held.few; left = omega arith })

        pub in_line_wordless : {r : Wrote} → length values ≤ f.index → r ≡ Err (fault not_a_value (Index f.index)) → PutsInLine values out out 8 at c r write_unknown_in_line
        in_line_wordless l a base =
            rw (a, on, number_short word_fits (λ word. E.inline_bytes (envelope_bytes word v 1)) values f.index f.next f.handles l)
            (put_cannot not_a_value 0 f.index (omega (arith, stands.left)))

        module _ {w : ℕ} (l : f.index < length values) (reads : w ≡ get_or values f.index 0) where
          pub in_line_large : {r : Wrote} → 4294967295 < w → r ≡ Err (fault not_a_value (Index f.index)) → PutsInLine values out out 8 at c r write_unknown_in_line
          in_line_large m a base =
              let t : ltb w 4294967296 ≡ false = le-ltb w 4294967296 (omega arith) in
              rw (a, on, number_at word_fits (λ word. E.inline_bytes (envelope_bytes word v 1)) values f.index f.next f.handles l, ← reads, t)
              (put_cannot not_a_value (suc (length (drop (f.index + 1) values))) f.index (omega (arith, length-drop (f.index + 1) values)))

          pub in_line_put : {out' : List ℕ} {g : Cursor} → w ≤ 4294967295 → out' ≡ sets out at (envelope_bytes w v 1) → g ≡ took_one f
              → PutsInLine values out out' 8 at c (Ok g) write_unknown_in_line
          unfolding E.inline_bytes
          in_line_put m stored a base =
              let t : ltb w 4294967296 ≡ true = lt-ltb w 4294967296 (omega arith) in
              let n : f.next ≡ c.next = ap (λ (x : Cursor). x.next) held.moved in
              let u : f.handles ≡ c.handles + v = ap (λ (x : Cursor). x.handles) held.moved in
              let i : f.index ≡ c.index + 1 = ap (λ (x : Cursor). x.index) held.moved in
              rw (a, on, number_at word_fits (λ word. E.inline_bytes (envelope_bytes word v 1)) values f.index f.next f.handles l, ← reads, t)
              (put_in_line {c = c} (took_one f) (envelope_bytes w v 1) (envelope_whole w v 1) stored (took_stands stands l) n (omega arith) (omega arith))

-- ---- unknown content out of line

module _ (values : List ℕ) (base at : ℕ) (c : Cursor) (ask : Ask values 8 at base c) {d : Cursor} (e : d ≡ took_one c) where
  pub ask_some : 0 < d.index
  ask_some = rw e (omega arith)

-- The words as an object that is open.
abbrev words_from_lem : (c : Cursor) (bytes handles index : ℕ) → Opening
words_from_lem c bytes handles index = record { count = bytes / 8; start = c.next; cursor = record { next = c.next + bytes; handles = handles; index = index } }

module _ (values out : List ℕ) (base bytes at : ℕ) (c : Cursor) (ask : Ask values 8 at base c) where
  ask_stands : Stands values c
  ask_stands = record { free = ask.free; held = ask.held; left = ask.left }

  module _ (some : 0 < c.index) (eights : bytes % 8 ≡ 0) where
    full : padded bytes ≡ bytes
    full = omega (arith, padded_is bytes, eights)

    abbrev words_next : (handles : ℕ) → Encoder
    words_next handles = E.sequence (E.take_handles handles) (write_words bytes handles)

    pub out_over : {r : Wrote} → 65536 - c.next < bytes → r ≡ Err (fault message_too_long (Index (c.index - 1))) → Puts values out out 8 at base c r (write_unknown_out_of_line bytes)
    unfolding write_unknown_out_of_line
    out_over m e =
        let t : leb (c.next + padded bytes) 65536 ≡ false = lt-leb (c.next + padded bytes) 65536 (omega (arith, full, ask.free)) in
        rw (e, t) (put_cannot message_too_long (suc (length (drop c.index values))) (c.index - 1) (omega (arith, ask.left, some, length-drop c.index values)))

    module _ (m : bytes ≤ 65536 - c.next) where
      space : write_unknown_out_of_line bytes (drop c.index values) c.next c.handles ≡ E.number_then (handle_number_fits bytes) words_next (drop c.index values) c.next c.handles
      unfolding write_unknown_out_of_line
      space = let t : leb (c.next + padded bytes) 65536 ≡ true = le-leb (c.next + padded bytes) 65536 (omega (arith, full, ask.free)) in rw t

      pub out_ended : {r : Wrote} → length values ≤ c.index → r ≡ Err (fault not_a_value (Index c.index)) → Puts values out out 8 at base c r (write_unknown_out_of_line bytes)
      out_ended h e =
          rw (e, space, number_short (handle_number_fits bytes) words_next values c.index c.next c.handles h) (put_cannot not_a_value 0 c.index (omega (arith, ask.left)))

      module _ {v : ℕ} {test : Bool} (h : c.index < length values) (read : v ≡ get_or values c.index 0) (judged : test ≡ claimable bytes v) where
        pub out_many : {r : Wrote} → test ≡ false → r ≡ Err (fault not_a_value (Index c.index)) → Puts values out out 8 at base c r (write_unknown_out_of_line bytes)
        out_many k e =
            let t : handle_number_fits bytes v ≡ false = many bytes v judged k in
            rw (e, space, number_at (handle_number_fits bytes) words_next values c.index c.next c.handles h, ← read, t)
            (put_cannot not_a_value (suc (length (drop (c.index + 1) values))) c.index (omega (arith, length-drop (c.index + 1) values)))

        module _ {d : Cursor} (k : test ≡ true) (e : d ≡ took_one c) where
          out_goes : write_unknown_out_of_line bytes (drop c.index values) c.next c.handles
              ≡ E.and_then (E.take_handles v (drop (c.index + 1) values) c.next c.handles) (write_words bytes v)
          unfolding E.sequence
          out_goes =
              let t : handle_number_fits bytes v ≡ true = few bytes v judged k (omega arith) in
              space ∙ rw (number_at (handle_number_fits bytes) words_next values c.index c.next c.handles h, ← read, t)

          pub out_handles_over : {f : Fault} {y : Wrote} → HandlesTaken v d y → y ≡ Err f → Puts values out out 8 at base c (Err f) (write_unknown_out_of_line bytes)
          out_handles_over {f} p x =
              let q : HandlesTaken v (took_one c) (Err f) = rw (e, x) at p in
              rw out_goes (put_later (put_halt 8 (write_words bytes v) (q values out at base (took_stands ask_stands h))))

          module _ {f : Cursor} {y : Wrote} (p : HandlesTaken v d y) (x : y ≡ Ok f) where
            out_held : Held values v (took_one c) f
            out_held = let q : HandlesTaken v (took_one c) (Ok f) = rw (e, x) at p in handles_held v (took_one c) f (took_stands ask_stands h) q

            out_words : write_unknown_out_of_line bytes (drop c.index values) c.next c.handles
                ≡ E.after (envelope_bytes bytes v 0) [] (E.as_object bytes (numbers_as 8 (bytes / 8) (drop f.index values) (c.next + padded bytes) f.handles))
            unfolding write_words numbers_as
            out_words = out_goes ∙ rw (out_held.counted, out_held.moved) (after_none (write_words bytes v (drop (c.index + 1) values) c.next (c.handles + v)))

            pub words_claimed : Claimed values (bytes / 8 * 8) base (words_from_lem c bytes f.handles f.index)
            words_claimed =
                let full : bytes ≡ padded (bytes / 8 * 8) = omega (arith, padded_is (bytes / 8 * 8), eights) in
                let few : f.handles ≤ 64 = rw out_held.moved out_held.few in
                let left : f.index ≤ length values = rw out_held.moved (omega arith) in
                record {
                  within = omega (arith, ask.inside);
                  advanced = ap (λ (n : ℕ). record { next = c.next + n; handles = f.handles; index = f.index }) full;
                  stands = record { free = omega (arith, ask.free); held = few; left = left };
                }

            pub out_put : {out₁ out' : List ℕ} {r : Wrote} → out₁ ≡ sets out at (envelope_bytes bytes v 0) → NumbersPut values out₁ out' base 8 (words_from_lem c bytes f.handles f.index) r
                → Puts values out out' 8 at base c r (write_unknown_out_of_line bytes)
            out_put stored q =
                let u : f.handles ≡ c.handles + v = ap (λ (x : Cursor). x.handles) out_held.moved in
                let i : f.index ≡ c.index + 1 = ap (λ (x : Cursor). x.index) out_held.moved in
                let eight : bytes / 8 * 8 ≡ bytes = omega (arith, eights) in
                let before : at ≤ c.next - base = omega (arith, ask.inside) in
                rw out_words
                (after_put (envelope_bytes bytes v 0) (envelope_whole bytes v 0) stored
                (put_from (claimed_from (words_from_lem c bytes f.handles f.index)) refl (omega arith) (omega arith) (rw eight at q)) before)

-- ---- unknown content

abbrev content_next : (bytes : ℕ) → Encoder
content_next bytes = if eqb bytes 0 then write_unknown_in_line else write_unknown_out_of_line bytes

module _ (values : List ℕ) (base at : ℕ) (c : Cursor) (ask : Ask values 8 at base c) (h : c.index < length values) {d : Cursor} (e : d ≡ took_one c) where
  pub content_stands : Stands values d
  content_stands = rw e (record { free = ask.free; held = ask.held; left = omega arith })

  pub content_ask : Ask values 8 at base d
  content_ask = rw e (record { inside = ask.inside; free = ask.free; held = ask.held; left = omega arith })

module _ (values out : List ℕ) (depth base at : ℕ) (c : Cursor) (ask : Ask values 8 at base c) where
  pub content_deep : {r : Wrote} → depth ≡ 0 → 0 < c.index → r ≡ Err (fault too_deep (Index (c.index - 1))) → UnknownPuts values out out depth at c base r
  unfolding write_unknown R.levels
  content_deep z some e t =
      rw (e, z) (put_cannot too_deep (suc (length (drop c.index values))) (c.index - 1) (omega (arith, ask.left, some, length-drop c.index values)))

  module _ (deep : depth ≡ 0 → ⊥) where
    content_goes : (t : TypeTable) → write_unknown (R.levels t depth) (drop c.index values) c.next c.handles
        ≡ E.number_then byte_number_fits content_next (drop c.index values) c.next c.handles
    unfolding write_unknown R.levels
    content_goes t = go depth deep
      where
        go : (n : ℕ) → (n ≡ 0 → ⊥) → write_unknown (R.levels t n) (drop c.index values) c.next c.handles
            ≡ E.number_then byte_number_fits content_next (drop c.index values) c.next c.handles
        go zero k = absurd (k refl)
        go (suc n) k = refl

    pub content_ended : {r : Wrote} → length values ≤ c.index → r ≡ Err (fault not_a_value (Index c.index)) → UnknownPuts values out out depth at c base r
    content_ended h e t =
        rw (e, content_goes t, number_short byte_number_fits content_next values c.index c.next c.handles h) (put_cannot not_a_value 0 c.index (omega (arith, ask.left)))

    module _ {v : ℕ} (h : c.index < length values) (read : v ≡ get_or values c.index 0) where
      content_unfit : byte_number_fits v ≡ false → UnknownPuts values out out depth at c base (Err (fault not_a_value (Index c.index)))
      content_unfit w t =
          rw (content_goes t, number_at byte_number_fits content_next values c.index c.next c.handles h, ← read, w)
          (put_cannot not_a_value (suc (length (drop (c.index + 1) values))) c.index (omega (arith, length-drop (c.index + 1) values)))

      pub content_odd : {r : Wrote} → (v % 8 ≡ 0 → ⊥) → r ≡ Err (fault not_a_value (Index c.index)) → UnknownPuts values out out depth at c base r
      content_odd k e = let w : byte_number_fits v ≡ false = rw (ne_eqb (v % 8) 0 k) in rw e (content_unfit w)

      module _ (eights : v % 8 ≡ 0) where
        pub content_large : {r : Wrote} → 4294967295 < v → r ≡ Err (fault not_a_value (Index c.index)) → UnknownPuts values out out depth at c base r
        content_large k e =
            let l : ltb v 4294967296 ≡ false = le-ltb v 4294967296 (omega arith) in
            let w : byte_number_fits v ≡ false = rw (eights, l) in rw e (content_unfit w)

        module _ {d : Cursor} (k : v ≤ 4294967295) (e : d ≡ took_one c) where
          content_on : (t : TypeTable) → write_unknown (R.levels t depth) (drop c.index values) c.next c.handles ≡ content_next v (drop (c.index + 1) values) c.next c.handles
          content_on t =
              let l : ltb v 4294967296 ≡ true = lt-ltb v 4294967296 (omega arith) in
              let w : byte_number_fits v ≡ true = rw (eights, l) in
              content_goes t ∙ rw (number_at byte_number_fits content_next values c.index c.next c.handles h, ← read, w)

          pub content_in_line : {out' : List ℕ} {r : Wrote} → v ≡ 0 → PutsInLine values out out' 8 at d r write_unknown_in_line → UnknownPuts values out out' depth at c base r
          content_in_line {out'} {r} z p t =
              let q : PutsInLine values out out' 8 at (took_one c) r write_unknown_in_line = rw e at p in
              rw (content_on t, z) (put_later (q base))

          pub content_outside : {out' : List ℕ} {r : Wrote} → (v ≡ 0 → ⊥) → Puts values out out' 8 at base d r (write_unknown_out_of_line v) → UnknownPuts values out out' depth at c base r
          content_outside {out'} {r} z p t =
              let q : Puts values out out' 8 at base (took_one c) r (write_unknown_out_of_line v) = rw e at p in
              rw (content_on t, ne_eqb v 0 z) (put_later q)
