-- An envelope's content, from its parts: the payload, and then the envelope's fields.
-- Assumes nothing.
use Rattle.std.specs.Prelude.{Err, None, Ok, Option, Result, Some}
use mathlib.Core.List.{List, [], ◌∷◌, ◌++◌}
use mathlib.Core.Path.{◌≡◌, refl, sym, ap, ◌∙◌}
use Prim.Native.Nat.{ℕ, ◌+◌, ◌-◌, ◌≤◌, ◌<◌}
use native.Mathlib.Omega.{arith}
use borrow.Author.Tests.{le-leb, lt-leb}
use lib.ListN.{length, drop, get_or, length-append}
use lib.Seq.{sets}
use Rattle.rules.specs.declared.Fault.{Fault}
use Rattle.rules.specs.declared.Place.TheVariants.{Index}
use Rattle.rules.specs.Refusals.{fault, too_deep}
use Rattle.rules.specs.Bytes.{bytes_of, zeros}
use Rattle.rules.specs.TypeTable.{TypeTable, known}
use Rattle.rules.specs.Sizes.{size_of}
use Rattle.rules.specs.Encode as E
use Rattle.rules.specs.Encode.{Encoded, wrote, cannot, Encoder}
use Rattle.rules.specs.Envelope.{in_line, out_of_line, envelope_bytes, byte_number_goes, write_byte_number, flags_go, write_flags, write_content_of_eight_bytes}
use Rattle.rules.specs.Writer as R
use Rattle.ordinals.specs.Ordinals.{OrdinalFits}
use Rattle.layout.specs.Ready.{Ready}
use Rattle.layout.proofs.Readiness.{row_few, row_size, size_small, ready_at}
use Rattle.words.proofs.Stores.{sets_append, sets_comm, length_bytes_of}
use Rattle.write_leaves.specs.declared.cursor.Cursor.{Cursor}
use Rattle.write_leaves.specs.Putting.{Wrote, answer, Stored, Fit, Put, Puts, Stands, Ask}
use Rattle.write_records.specs.declared.records.Opening.{Opening}
use Rattle.write_records.specs.Opening.{to_open, Claimed, Opens}
use Rattle.write_records.specs.Promises.{UnknownPuts, DeeperOpens, sealed_out}
use Rattle.write_walk.specs.Walking.{PayloadReady, write_row, ValuePut, SingleOf, ContentPut}
use Rattle.write_leaves.proofs.InLine.{put_in_line}
use Rattle.write_leaves.proofs.Together.{put_then, put_halt}
use Rattle.write_leaves.proofs.Leading.{wrote_stands}
use Rattle.write_records.proofs.Claims.{length_zeros}
use Rattle.write_records.proofs.Levels.{levels_spent, levels_down}
use Rattle.write_records.proofs.Openings.{put_last}

-- ---- the fields of an envelope, after what a part put

-- A cursor after a part that went on.
pub put_rises : {values out out' : List ℕ} {size at base : ℕ} {c d : Cursor} {w : Wrote} {e : Encoded} → Put values out out' size at base c w e → w ≡ Ok d
    → (c.next ≤ d.next) × (d.next ≤ 65536) × (c.handles ≤ d.handles) × (d.handles ≤ 64)
put_rises {values} {size = size} {c = c} {d} {w} {e} p z = go e (sym z ∙ p.says) p.fit
  where
    go : (e : Encoded) → Ok d ≡ answer (length values) e → Fit values size c e → (c.next ≤ d.next) × (d.next ≤ 65536) × (c.handles ≤ d.handles) × (d.handles ≤ 64)
    go (wrote inline outside n u rest) a f =
        let n-is : d.next ≡ n = cc in
        let u-is : d.handles ≡ u = cc in
        (omega (arith, f.claimed), omega (arith, f.short), omega (arith, f.counted), omega (arith, f.few))
    go (cannot number left) a f = absurd (let y : ◌≡◌ {A = ℕ} 0 1 = cc in omega arith)

-- Bytes in line after those of a part, from what the part came to: they stand before all objects.
after_stored : (out : List ℕ) {out' out'' : List ℕ} (at : ℕ) (inline more outside : List ℕ) (free : ℕ) → at + (length inline + length more) ≤ free → out' ≡ sets (sets out at inline) free outside → out'' ≡ sets out' (at + length inline) more
    → out'' ≡ sets (sets out at (inline ++ more)) free outside
after_stored out at inline more outside free h s t =
    t ∙ rw s (sym (sets_comm (sets out at inline) (at + length inline) more free outside (omega arith)))
    ∙ ap (λ (l : List ℕ). sets l free outside) (sets_append out at inline more)

module _ {values out out' out'' : List ℕ} {at base : ℕ} {c d : Cursor} where
  -- The handle number and the flags.
  pub flags_put : (form size : ℕ) {e : Encoded} → Put values out out' size at base c (Ok d) e → base + (at + (size + 4)) ≤ c.next
      → out'' ≡ sets out' (at + size) (bytes_of 2 (d.handles - c.handles) ++ bytes_of 2 form)
      → Put values out out'' (size + 4) at base c (Ok d) (flags_go form c.handles e)
  flags_put form size {e} p z s = go e p.says p.stored p.fit
    where
      go : (e : Encoded) → Ok d ≡ answer (length values) e → Stored out out' at (c.next - base) e → Fit values size c e → Put values out out'' (size + 4) at base c (Ok d) (flags_go form c.handles e)
      go (wrote inline outside n u rest) a t f =
          let taken : d.handles ≡ u = cc in
          let more = bytes_of 2 (u - c.handles) ++ bytes_of 2 form in
          let four : length more ≡ 4 = omega (arith, length-append (bytes_of 2 (u - c.handles)) (bytes_of 2 form), length_bytes_of 2 (u - c.handles), length_bytes_of 2 form) in
          let place : at + size ≡ at + length inline = omega (arith, f.whole) in
          record {
            says = a;
            stored = after_stored out at inline more outside (c.next - base) (omega (arith, f.whole, four, z)) t (rw (taken, place) at s);
            fit = record {
              whole = omega (arith, length-append inline more, f.whole, four);
              claimed = f.claimed;
              short = f.short;
              counted = f.counted;
              few = f.few;
              taken = f.taken;
              left = f.left;
            };
          }
      go (cannot number left) a t f = absurd (let y : ◌≡◌ {A = ℕ} 0 1 = cc in omega arith)

  -- The byte number first: the payload stands out of line.
  pub envelope_put : {e : Encoded} → Put values out out' 0 at base c (Ok d) e → base + (at + 8) ≤ c.next
      → out'' ≡ sets out' at (envelope_bytes (d.next - c.next) (d.handles - c.handles) out_of_line)
      → Put values out out'' 8 at base c (Ok d) (flags_go out_of_line c.handles (byte_number_goes c.next e))
  envelope_put {e} p z s = go e p.says p.stored p.fit
    where
      go : (e : Encoded) → Ok d ≡ answer (length values) e → Stored out out' at (c.next - base) e → Fit values 0 c e
          → Put values out out'' 8 at base c (Ok d) (flags_go out_of_line c.handles (byte_number_goes c.next e))
      go (wrote [] outside n u rest) a t f =
          let reached : d.next ≡ n = cc in
          let taken : d.handles ≡ u = cc in
          let more = envelope_bytes (n - c.next) (u - c.handles) out_of_line in
          let eight : length more ≡ 8 = omega (arith, length-append (bytes_of 4 (n - c.next)) (bytes_of 2 (u - c.handles) ++ bytes_of 2 out_of_line), length-append (bytes_of 2 (u - c.handles)) (bytes_of 2 out_of_line), length_bytes_of 4 (n - c.next), length_bytes_of 2 (u - c.handles), length_bytes_of 2 out_of_line) in
          let place : at ≡ at + 0 = omega arith in
          record {
            says = a;
            stored = after_stored out at [] more outside (c.next - base) (omega (arith, eight, z)) t (s ∙ rw (reached, taken, ← place));
            fit = record {
              whole = eight;
              claimed = f.claimed;
              short = f.short;
              counted = f.counted;
              few = f.few;
              taken = f.taken;
              left = f.left;
            };
          }
      go (wrote (x ∷ inline) outside n u rest) a t f = absurd (omega (arith, f.whole))
      go (cannot number left) a t f = absurd (let y : ◌≡◌ {A = ℕ} 0 1 = cc in omega arith)

-- A part that is refused, whatever its envelope's fields would be.
flags_halt : {values out out' : List ℕ} {size at base : ℕ} (form whole used : ℕ) {c : Cursor} {f : Fault} {e : Encoded} → Put values out out' size at base c (Err f) e
    → Put values out out' whole at base c (Err f) (flags_go form used e)
flags_halt {values} {out} {out'} {size} {at} {base} form whole used {c} {f} {e} p = go e p.says p.stored
  where
    go : (e : Encoded) → Err f ≡ answer (length values) e → Stored out out' at (c.next - base) e → Put values out out' whole at base c (Err f) (flags_go form used e)
    go (wrote inline outside n u rest) a s = absurd (let y : ◌≡◌ {A = ℕ} 0 1 = cc in omega arith)
    go (cannot number left) a s = record { says = a; stored = s; fit = tt }

bytes_halt : {values out out' : List ℕ} {size at base : ℕ} (next : ℕ) {c : Cursor} {f : Fault} {e : Encoded} → Put values out out' size at base c (Err f) e
    → Put values out out' size at base c (Err f) (byte_number_goes next e)
bytes_halt {values} {out} {out'} {size} {at} {base} next {c} {f} {e} p = go e p.says p.stored
  where
    go : (e : Encoded) → Err f ≡ answer (length values) e → Stored out out' at (c.next - base) e → Put values out out' size at base c (Err f) (byte_number_goes next e)
    go (wrote inline outside n u rest) a s = absurd (let y : ◌≡◌ {A = ℕ} 0 1 = cc in omega arith)
    go (cannot number left) a s = record { says = a; stored = s; fit = tt }

-- ---- unknown content

pub content_unknown : (t : TypeTable) (values out out' : List ℕ) (base depth at : ℕ) (c : Cursor) (what : Option ℕ) (r : Wrote)
    → what ≡ None → UnknownPuts values out out' depth at c base r → ContentPut t values out out' base depth at c what r
unfolding write_content_of_eight_bytes
content_unknown t values out out' base depth at c what r e p = rw e (p t)

-- ---- a known payload

pub content_ready : {t : TypeTable} {sizes alignments : List ℕ} {depth row : ℕ} (what : Option ℕ) → Ready t sizes alignments depth row → OrdinalFits t what → PayloadReady t sizes alignments depth what
content_ready {depth = depth} what ready fits = record { row_ready = λ payload is. ready_at ready depth payload (omega arith) (rw is at fits) }

module _ {t : TypeTable} {sizes alignments : List ℕ} {depth payload : ℕ} {what : Option ℕ} (ready : PayloadReady t sizes alignments depth what) (is : what ≡ Some payload) where
  known_ready : Ready t sizes alignments depth payload
  known_ready = ready.row_ready payload is

  pub payload_few : payload < 256
  payload_few = row_few known_ready

  pub payload_ready : Ready t sizes alignments (depth - 1) payload
  payload_ready = ready_at known_ready (depth - 1) payload (omega arith) known_ready.in_use

  module _ {size : ℕ} (kept : size ≡ get_or sizes payload 0) where
    pub payload_small : size ≤ 65528
    payload_small = size_small known_ready payload known_ready.in_use kept

    pub payload_size : size_of t payload ≡ size
    payload_size = row_size known_ready payload known_ready.in_use kept

module _ (t : TypeTable) (values out : List ℕ) (base depth at : ℕ) (c : Cursor) (what : Option ℕ) {sizes alignments : List ℕ} {payload size : ℕ}
    (ready : PayloadReady t sizes alignments depth what) (is : what ≡ Some payload) (kept : size ≡ get_or sizes payload 0) (ask : Ask values 8 at base c) where
  -- ---- in line

  module _ (small : size ≤ 4) where
    in_line_lem : write_content_of_eight_bytes t (R.levels t depth) (known payload)
        ≡ write_flags in_line (E.sequence (E.one_deeper (R.levels t depth) (λ F b. F payload)) (E.fill (4 - size)))
    unfolding write_content_of_eight_bytes
    in_line_lem =
        let sized = payload_size ready is kept in
        let fits_in = le-leb (size_of t payload) 4 (omega (arith, sized, small)) in
        rw fits_in (rw sized)

    pub small_too_deep : {r : Wrote} → depth ≡ 0 → 0 < c.index → r ≡ Err (fault too_deep (Index (c.index - 1))) → ContentPut t values out out base depth at c what r
    unfolding write_flags E.sequence
    small_too_deep z i y =
        rw (is, in_line_lem, y, levels_spent t depth z) (put_last too_deep c.index (c.index - 1) (omega arith) ask.left)

    module _ (down : depth ≡ 0 → ⊥) where
      pub small_asks : Ask values (size_of t payload) at base c
      small_asks = record { inside = omega (arith, ask.inside, payload_size ready is kept); free = ask.free; held = ask.held; left = ask.left }

      module _ {out' : List ℕ} {w : Wrote} (p : ValuePut t values out out' base (depth - 1) at c payload w) where
        pub small_refused : {f : Fault} → w ≡ Err f → ContentPut t values out out' base depth at c what (Err f)
        unfolding write_flags E.sequence
        small_refused z =
            rw (is, in_line_lem, levels_down t depth down) (flags_halt in_line 8 c.handles (put_halt 4 (E.fill (4 - size)) (rw z at p)))

        pub small_sealed : {d : Cursor} {handles : ℕ} {out'' : List ℕ} → w ≡ Ok d → handles ≡ d.handles - c.handles → out'' ≡ sealed_out out' size at 0 handles
            → ContentPut t values out out'' base depth at c what (Ok d)
        unfolding write_flags E.sequence E.inline_bytes
        small_sealed {d} {handles} {out''} z h s =
            let sized = payload_size ready is kept in
            let put : Puts values out out' size at base c (Ok d) (write_row t (depth - 1) payload) = rw (z, sized) at p in
            let rises = put_rises put refl in
            let stood : Stands values d = (wrote_stands put).0 in
            let filled : Puts values out' (sets out' (at + size) (zeros (4 - size))) (4 - size) (at + size) base d (Ok d) (E.fill (4 - size)) =
            put_in_line d (zeros (4 - size)) (length_zeros (4 - size)) refl stood refl (omega arith) (omega arith)
            in
            let four : size + (4 - size) ≡ 4 = omega (arith, small) in
            let whole = rw four at (put_then (E.fill (4 - size)) put filled (omega (arith, ask.inside))) in
            rw (is, in_line_lem, levels_down t depth down)
            (flags_put in_line 4 whole (omega (arith, ask.inside)) (s ∙ rw (le-leb size 4 small, h)))

  -- ---- out of line

  module _ (large : 4 < size) (r : Result Opening Fault) (opens : DeeperOpens depth size c r) where
    out_of_line_lem : write_content_of_eight_bytes t (R.levels t depth) (known payload)
        ≡ write_flags out_of_line (write_byte_number (E.one_deeper (R.levels t depth) (λ F b. E.claim size (F payload))))
    unfolding write_content_of_eight_bytes
    out_of_line_lem =
        let sized = payload_size ready is kept in
        let leads-out = lt-leb (size_of t payload) 4 (omega (arith, sized, large)) in
        rw leads-out (rw sized)

    opening : {x : Result Opening Fault} → r ≡ x
        → Opens values out out 0 at base c (E.one_deeper (R.levels t depth) (λ F b. E.claim size (F payload)) (drop c.index values) c.next c.handles) (λ x. size)
        (λ x. write_row t (depth - 1) payload) (to_open x)
    opening e = rw e at (opens t values out at base (λ F b. F payload) (record { inside = omega (arith, ask.inside); free = ask.free; held = ask.held; left = ask.left }))

    pub large_not_open : {f : Fault} → r ≡ Err f → ContentPut t values out out base depth at c what (Err f)
    unfolding write_flags write_byte_number
    large_not_open e = rw (is, out_of_line_lem) (flags_halt out_of_line 8 c.handles (bytes_halt c.next (opening e)))

    module _ {x : Opening} (e : r ≡ Ok x) where
      pub payload_claimed : Claimed values (size_of t payload) base x
      payload_claimed =
          let sized = payload_size ready is kept in
          let o = opening e in
          rw sized (record { within = omega (arith, ask.inside, o.0); advanced = o.1; stands = o.2 })

      module _ {out' : List ℕ} {w : Wrote} (p : SingleOf t values out out' base (depth - 1) x payload w) where
        claimed_put : Put values out out' 0 at base c w (E.one_deeper (R.levels t depth) (λ F b. E.claim size (F payload)) (drop c.index values) c.next c.handles)
        claimed_put =
            let sized = payload_size ready is kept in
            (opening e).3 out' w (rw sized at p)

        pub large_refused : {f : Fault} → w ≡ Err f → ContentPut t values out out' base depth at c what (Err f)
        unfolding write_flags write_byte_number
        large_refused z = rw (is, out_of_line_lem) (flags_halt out_of_line 8 c.handles (bytes_halt c.next (rw z at claimed_put)))

        pub large_rises : {d : Cursor} → w ≡ Ok d → (c.next ≤ d.next) × (d.next ≤ 65536) × (c.handles ≤ d.handles) × (d.handles ≤ 64)
        large_rises z = put_rises claimed_put z

        pub large_sealed : {d : Cursor} {bytes handles : ℕ} {out'' : List ℕ} → w ≡ Ok d → bytes ≡ d.next - c.next → handles ≡ d.handles - c.handles → out'' ≡ sealed_out out' size at bytes handles
            → ContentPut t values out out'' base depth at c what (Ok d)
        unfolding write_flags write_byte_number
        large_sealed z b h s = rw (is, out_of_line_lem) (envelope_put (rw z at claimed_put) ask.inside (s ∙ rw (lt-leb size 4 large, b, h)))
