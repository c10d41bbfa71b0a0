-- Laws of the values that stand in line: bools, numbers, handles, and runs of numbers; a law for each way that a function ends.
-- Assumes nothing.
use Rattle.std.specs.Prelude.{Err, Ok}
use mathlib.Core.Path.{◌≡◌, refl, sym, ap, ◌∙◌}
use mathlib.Core.Bool.{Bool, true, false}
use mathlib.Core.List.{List, [], ◌∷◌, ◌++◌, append-nil}
use Prim.Native.Nat.{ℕ, zero, suc, ◌+◌, ◌-◌, ◌*◌, ◌^◌, ◌≤◌, ◌<◌}
use native.Mathlib.Nat.{suc-mul}
use native.Mathlib.Numerals.{add-one}
use native.Mathlib.Omega.{arith}
use mir.Syntax.{w8, w16, w32, w64}
use mir.Val.{Fits}
use borrow.Author.Tests.{lt-ltb, le-ltb, le-leb, lt-leb, ne_eqb, eqb-true}
use lib.Dec.{eqb, leb, ltb}
use lib.ListN.{length, set, take, drop, get_or, length-append, length-drop, drop_of_length-le}
use lib.Seq.{sets, drop-cons}
use Rattle.rules.specs.declared.Fault.{Fault}
use Rattle.rules.specs.declared.Place.TheVariants.{Index}
use Rattle.rules.specs.Refusals.{fault, too_many_handles, not_a_value}
use Rattle.rules.specs.Bytes.{bytes_of, ones32}
use Rattle.rules.specs.TypeTable.{TypeTable}
use Rattle.rules.specs.Encode as E
use Rattle.rules.specs.Encode.{Encoded, wrote, cannot, Encoder, WriteRecord, put, unfit}
use Rattle.rules.specs.Records.{any_pattern, bool_pattern, write_number, write_presence}
use Rattle.rules.specs.Envelope.{encode_word}
use Rattle.rules.specs.Writer as R
use Rattle.words.specs.Bits.{all_bits}
use Rattle.words.proofs.Bits.{part_none_above}
use Rattle.words.proofs.Stores.{sets_append, sets_past, length_bytes_of, bytes_of_byte}
use Rattle.rules.specs.Sound.{width_allowed}
use Rattle.write_leaves.specs.declared.cursor.Cursor.{Cursor}
use Rattle.write_leaves.specs.Putting.{Wrote, KeptBefore, answer, Stored, Fit, Put, PutsInLine, took_one, Stands, HandlesTaken, NumberAt}
use Rattle.write_leaves.specs.InLine.{bool_as, handle_as, numbers_as, NoneAbove}
use Rattle.write_leaves.proofs.Kept.{kept_all, kept_sets, kept_then}
use Rattle.write_leaves.proofs.Results.{after_none, after_after}

-- ---- parts that are done at once

-- How many numbers are left tells how many were taken.
left_at : (values : List ℕ) (i : ℕ) → i ≤ length values → i ≡ length values - length (drop i values)
left_at values i h = omega (arith, length-drop i values)

-- Bytes in line, no object, and the cursor moved.
pub put_in_line : {values out out' : List ℕ} {size at base : ℕ} {c : Cursor} (d : Cursor) (bytes : List ℕ) → length bytes ≡ size → out' ≡ sets out at bytes
    → Stands values d → d.next ≡ c.next → c.handles ≤ d.handles → c.index ≤ d.index
    → Put values out out' size at base c (Ok d) (wrote bytes [] d.next d.handles (drop d.index values))
put_in_line {values} d bytes whole stored s n h i =
    let taken : d.index ≡ length values - length (drop d.index values) = left_at values d.index s.left in
    record {
      says = ap (λ (k : ℕ). Ok (record { next = d.next; handles = d.handles; index = k })) taken;
      stored = stored;
      fit = record {
        whole = whole;
        claimed = omega arith;
        short = s.free;
        counted = h;
        few = s.held;
        taken = omega arith;
        left = ap (λ (k : ℕ). drop k values) taken;
      };
    }

-- A refusal, after stores from the part's place on.
put_refused : {values out out' : List ℕ} {size at base : ℕ} {c : Cursor} (number left index : ℕ) → index ≡ length values - left → KeptBefore out out' at
    → Put values out out' size at base c (Err (fault number (Index index))) (cannot number left)
put_refused number left index e kept = record { says = ap (λ (k : ℕ). Err (fault number (Index k))) e; stored = kept; fit = tt }

-- Before anything was stored.
pub put_cannot : {values out : List ℕ} {size at base : ℕ} {c : Cursor} (number left index : ℕ) → index ≡ length values - left
    → Put values out out size at base c (Err (fault number (Index index))) (cannot number left)
put_cannot number left index e = put_refused number left index e kept_all

pub nothing_put : {values out : List ℕ} {at : ℕ} {c : Cursor} → Stands values c → PutsInLine values out out 0 at c (Ok c) E.nothing
nothing_put {c} s base = put_in_line c [] refl refl s refl (omega arith) (omega arith)

-- The same, of an equal size and an equal result.
put_same : {values out out' : List ℕ} {size size' at base : ℕ} {c : Cursor} {r : Wrote} {e e' : Encoded} → size ≡ size' → e' ≡ e
    → Put values out out' size at base c r e → Put values out out' size' at base c r e'
put_same s f p = rw (f, ← s) p

-- ---- handles

module _ (count : ℕ) (c : Cursor) where
  pub handles_taken : c.handles + count ≤ 64 → HandlesTaken count c (Ok (record { next = c.next; handles = c.handles + count; index = c.index }))
  unfolding E.take_handles
  handles_taken h values out at base s =
      let t : leb (c.handles + count) 64 ≡ true = le-leb _ _ h in
      rw t (put_in_line (record { next = c.next; handles = c.handles + count; index = c.index }) [] refl refl
      (record { free = s.free; held = h; left = s.left }) refl (omega arith) (omega arith))

  pub handles_over : {r : Wrote} → 64 < c.handles + count → 0 < c.index → r ≡ Err (fault too_many_handles (Index (c.index - 1))) → HandlesTaken count c r
  unfolding E.take_handles
  handles_over h k e values out at base s =
      let t : leb (c.handles + count) 64 ≡ false = lt-leb _ _ h in
      rw (e, t) (put_cannot too_many_handles (suc (length (drop c.index values))) (c.index - 1) (omega (arith, s.left, length-drop c.index values)))

-- ---- records of one number

module _ (write : ℕ → WriteRecord) (continue : ℕ → Encoder) (values : List ℕ) (i next used : ℕ) where
  record_short : length values ≤ i → E.record_then write continue (drop i values) next used ≡ cannot not_a_value 0
  unfolding E.record_then
  record_short h = rw (drop_of_length-le values h)

  pub record_at : i < length values → E.record_then write continue (drop i values) next used
      ≡ E.record_goes (write (get_or values i 0)) (suc (length (drop (i + 1) values))) (continue (get_or values i 0) (drop (i + 1) values) next used)
  unfolding E.record_then
  record_at h = rw (add-one, drop-cons values i 0 h)

-- A record, and what it leads to, which writes nothing more in line, and nothing before the record.
pub after_put : {values out out' out'' : List ℕ} {size at there base : ℕ} {c : Cursor} {r : Wrote} {e : Encoded} (bytes : List ℕ) → length bytes ≡ size → out' ≡ sets out at bytes
    → Put values out' out'' 0 there base (took_one c) r e → at ≤ there → Put values out out'' size at base c r (E.after bytes [] e)
after_put {values} {out} {out'} {out''} {size} {at} {there} {base} {c} {r} {e} bytes whole stored p later = go e p.says p.stored p.fit
  where
    go : (e : Encoded) → r ≡ answer (length values) e → Stored out' out'' there (c.next - base) e → Fit values 0 (took_one c) e → Put values out out'' size at base c r (E.after bytes [] e)
    go (wrote [] outside n u rest) a s f = record {
      says = a;
      stored = s ∙ rw (append-nil bytes, stored);
      fit = record {
        whole = rw (append-nil bytes) whole;
        claimed = f.claimed;
        short = f.short;
        counted = f.counted;
        few = f.few;
        taken = omega (arith, f.taken);
        left = f.left;
      };
    }
    go (wrote (x ∷ inline) outside n u rest) a s f = absurd (omega (arith, f.whole))
    go (cannot number left) a s f = record { says = a; stored = kept_then there later (kept_sets at bytes (omega arith) stored) s; fit = tt }

module _ {values out : List ℕ} {size at : ℕ} {c : Cursor} (write : ℕ → WriteRecord) (continue : ℕ → Encoder) where
  pub record_ended : c.index ≤ length values → length values ≤ c.index
      → PutsInLine values out out size at c (Err (fault not_a_value (Index c.index))) (E.record_then write continue)
  record_ended s h base = rw (record_short write continue values c.index c.next c.handles h) (put_cannot not_a_value 0 c.index (omega arith))

  -- The one answer where a function finds no number.
  pub list_ended : {f : Fault} → c.index ≤ length values → NumberAt values c.index (Err f) → PutsInLine values out out size at c (Err f) (E.record_then write continue)
  list_ended s n = rw n.1 (record_ended s n.0)

  module _ (v : ℕ) (h : c.index < length values) (read : v ≡ get_or values c.index 0) where
    pub record_unfit : write v ≡ unfit → PutsInLine values out out size at c (Err (fault not_a_value (Index c.index))) (E.record_then write continue)
    record_unfit w base =
        rw (record_at write continue values c.index c.next c.handles h, ← read, w)
        (put_cannot not_a_value (suc (length (drop (c.index + 1) values))) c.index (omega (arith, length-drop (c.index + 1) values)))

    pub record_put : {out' : List ℕ} {r : Wrote} (bytes : List ℕ) → write v ≡ put bytes → length bytes ≡ size → out' ≡ sets out at bytes → PutsInLine values out' out' 0 at (took_one c) r (continue v)
        → PutsInLine values out out' size at c r (E.record_then write continue)
    record_put bytes w whole stored p base =
        rw (record_at write continue values c.index c.next c.handles h, ← read, w) (after_put bytes whole stored (p base) (omega arith))

pub took_stands : {values : List ℕ} {c : Cursor} → Stands values c → c.index < length values → Stands values (took_one c)
took_stands s h = record { free = s.free; held = s.held; left = omega arith }

module _ (values : List ℕ) (c d : Cursor) (s : Stands values c) (e : d ≡ took_one c) where
  pub took_held : d.handles ≤ 64
  took_held = rw e s.held

  pub took_some : 0 < d.index
  took_some = rw e (omega arith)

-- ---- bools

module _ (values out : List ℕ) (at : ℕ) (c : Cursor) (s : Stands values c)
    {v : ℕ} (h : c.index < length values) (read : v ≡ get_or values c.index 0) where
  pub bool_large : {r : Wrote} → 1 < v → r ≡ Err (fault not_a_value (Index c.index)) → PutsInLine values out out 1 at c r bool_as
  unfolding bool_as write_number
  bool_large k e = rw e (record_unfit (write_number 1 bool_pattern) (λ v. E.nothing) v h read (either (ltb v 256) refl))
    where
      either : (b : Bool) → ltb v 256 ≡ b → write_number 1 bool_pattern v ≡ unfit
      either true q = let t : leb v 1 ≡ false = lt-leb v 1 k in rw (q, t)
      either false q = rw q

  pub bool_put : {out' : List ℕ} {d : Cursor} → v ≤ 1 → out' ≡ sets out at (bytes_of 1 v) → d ≡ took_one c → PutsInLine values out out' 1 at c (Ok d) bool_as
  unfolding bool_as write_number
  bool_put k stored e =
      rw e (record_put (write_number 1 bool_pattern) (λ v. E.nothing) v h read (bytes_of 1 v) written (length_bytes_of 1 v) stored (nothing_put (took_stands s h)))
    where
      written : write_number 1 bool_pattern v ≡ put (bytes_of 1 v)
      written =
          let p : ltb v 256 ≡ true = lt-ltb v 256 (omega arith) in
          let q : leb v 1 ≡ true = le-leb v 1 k in
          rw (p, q)

-- ---- a handle

module _ (values out : List ℕ) (optional at : ℕ) (c : Cursor) (s : Stands values c)
    {v : ℕ} (h : c.index < length values) (read : v ≡ get_or values c.index 0) where
  pub handle_large : {r : Wrote} → 1 < v → r ≡ Err (fault not_a_value (Index c.index)) → (t : TypeTable) → PutsInLine values out out 4 at c r (handle_as t (eqb optional 1))
  unfolding handle_as write_presence
  handle_large k e t = rw e (record_unfit (write_presence 4 ones32 (eqb optional 1)) (R.after_handle t) v h read (large v k))
    where
      large : (v : ℕ) → 1 < v → write_presence 4 ones32 (eqb optional 1) v ≡ unfit
      large zero k = absurd (omega arith)
      large (suc zero) k = absurd (omega arith)
      large (suc (suc v)) k = refl

  pub handle_required : {r : Wrote} → v ≡ 0 → (optional ≡ 1 → ⊥) → r ≡ Err (fault not_a_value (Index c.index))
      → (t : TypeTable) → PutsInLine values out out 4 at c r (handle_as t (eqb optional 1))
  unfolding handle_as write_presence
  handle_required z o e t = rw e (record_unfit (write_presence 4 ones32 (eqb optional 1)) (R.after_handle t) v h read written)
    where
      written : write_presence 4 ones32 (eqb optional 1) v ≡ unfit
      written = rw (z, ne_eqb optional 1 o)

  pub handle_absent : {out' : List ℕ} {d : Cursor} → v ≡ 0 → optional ≡ 1 → out' ≡ sets out at (bytes_of 4 0) → d ≡ took_one c
      → (t : TypeTable) → PutsInLine values out out' 4 at c (Ok d) (handle_as t (eqb optional 1))
  unfolding handle_as write_presence
  handle_absent z o stored e t =
      rw e (record_put (write_presence 4 ones32 (eqb optional 1)) (R.after_handle t) 0 h (sym z ∙ read) (bytes_of 4 0) written (length_bytes_of 4 0) stored (nothing_put (took_stands s h)))
    where
      written : write_presence 4 ones32 (eqb optional 1) 0 ≡ put (bytes_of 4 0)
      written = rw o

  pub handle_taken : {out' : List ℕ} {d : Cursor} {r : Wrote} → v ≤ 1 → (v ≡ 0 → ⊥) → out' ≡ sets out at (bytes_of 4 ones32) → d ≡ took_one c → HandlesTaken 1 d r
      → (t : TypeTable) → PutsInLine values out out' 4 at c r (handle_as t (eqb optional 1))
  unfolding handle_as write_presence
  handle_taken {out'} k z stored e p t =
      let one : v ≡ 1 = below_two v k z in
      let q : HandlesTaken 1 (took_one c) _ = rw e at p in
      record_put (write_presence 4 ones32 (eqb optional 1)) (R.after_handle t) 1 h (sym one ∙ read) (bytes_of 4 ones32) written (length_bytes_of 4 ones32) stored
      (λ base. q values out' at base (took_stands s h))
    where
      below_two : (v : ℕ) → v ≤ 1 → (v ≡ 0 → ⊥) → v ≡ 1
      below_two zero k z = absurd (z refl)
      below_two (suc zero) k z = refl
      below_two (suc (suc v)) k z = absurd (omega arith)

      written : write_presence 4 ones32 (eqb optional 1) 1 ≡ put (bytes_of 4 ones32)
      written = refl

-- ---- widths

-- The width that is left is 8.
pub width_eight : (width : ℕ) → width_allowed width ≡ true → (width ≡ 1 → ⊥) → (width ≡ 2 → ⊥) → (width ≡ 4 → ⊥) → width ≡ 8
width_eight width allowed not1 not2 not4 = go (eqb width 8) refl
  where
    go : (b : Bool) → eqb width 8 ≡ b → width ≡ 8
    go true e = eqb-true width 8 e
    go false e =
        let z : false ≡ true = simp (e, ne_eqb _ _ not1, ne_eqb _ _ not2, ne_eqb _ _ not4) at allowed in
        absurd (let w : ◌≡◌ {A = ℕ} 0 1 = cc in omega arith)

module _ (width : ℕ) where
  pub largest_one : width ≡ 1 → 255 + 1 ≡ 256 ^ width
  largest_one e = rw e

  pub largest_two : width ≡ 2 → 65535 + 1 ≡ 256 ^ width
  largest_two e = rw e

  pub largest_four : width ≡ 4 → 4294967295 + 1 ≡ 256 ^ width
  largest_four e = rw e

  pub largest_eight : width_allowed width ≡ true → (width ≡ 1 → ⊥) → (width ≡ 2 → ⊥) → (width ≡ 4 → ⊥) → 18446744073709551615 + 1 ≡ 256 ^ width
  largest_eight a p q r = rw (width_eight width a p q r)

  module _ (v : ℕ) (h : v < 256 ^ width) where
    pub fits_one : width ≡ 1 → Fits w8 v
    fits_one e = record { fits = rw e at h }

    pub fits_two : width ≡ 2 → Fits w16 v
    fits_two e = record { fits = rw e at h }

    pub fits_four : width ≡ 4 → Fits w32 v
    fits_four e = record { fits = rw e at h }

  pub eight_stored : (out out' : List ℕ) (at v : ℕ) → width_allowed width ≡ true → (width ≡ 1 → ⊥) → (width ≡ 2 → ⊥) → (width ≡ 4 → ⊥)
      → out' ≡ sets out at (bytes_of 8 v) → out' ≡ sets out at (bytes_of width v)
  eight_stored out out' at v a p q r s = rw (width_eight width a p q r) s

-- ---- numbers

module _ (width : ℕ) (values : List ℕ) (i next used : ℕ) where
  word_short : length values ≤ i → encode_word width (drop i values) next used ≡ cannot not_a_value 0
  unfolding encode_word
  word_short h = record_short (write_number width any_pattern) (λ v. E.nothing) values i next used h

  module _ (v : ℕ) (h : i < length values) (read : v ≡ get_or values i 0) where
    word_large : 256 ^ width ≤ v → encode_word width (drop i values) next used ≡ cannot not_a_value (suc (length (drop (i + 1) values)))
    unfolding encode_word write_number
    word_large k =
        let t : ltb v (256 ^ width) ≡ false = le-ltb v (256 ^ width) k in
        record_at (write_number width any_pattern) (λ v. E.nothing) values i next used h ∙ rw (← read, t)

    word_at : v < 256 ^ width → encode_word width (drop i values) next used ≡ wrote (bytes_of width v) [] next used (drop (i + 1) values)
    unfolding encode_word write_number
    word_at k =
        let t : ltb v (256 ^ width) ≡ true = lt-ltb v (256 ^ width) k in
        record_at (write_number width any_pattern) (λ v. E.nothing) values i next used h ∙ rw (← read, t, append-nil)

module _ (values out : List ℕ) (width at : ℕ) (c : Cursor) (s : Stands values c)
    {v : ℕ} (most : ℕ) (l : most + 1 ≡ 256 ^ width) (h : c.index < length values) (read : v ≡ get_or values c.index 0) where
  pub number_large : {r : Wrote} → most < v → r ≡ Err (fault not_a_value (Index c.index)) → PutsInLine values out out width at c r (encode_word width)
  unfolding encode_word write_number
  number_large k e =
      let t : ltb v (256 ^ width) ≡ false = le-ltb v (256 ^ width) (omega arith) in
      rw e (record_unfit (write_number width any_pattern) (λ v. E.nothing) v h read (rw t))

  pub number_put : {out' : List ℕ} {d : Cursor} → v ≤ most → out' ≡ sets out at (bytes_of width v) → d ≡ took_one c → PutsInLine values out out' width at c (Ok d) (encode_word width)
  unfolding encode_word write_number
  number_put k stored e =
      let t : ltb v (256 ^ width) ≡ true = lt-ltb v (256 ^ width) (omega arith) in
      rw e (record_put (write_number width any_pattern) (λ v. E.nothing) v h read (bytes_of width v) (rw t) (length_bytes_of width v) stored (nothing_put (took_stands s h)))

-- ---- runs of numbers

abbrev words : (width index count : ℕ) → Encoder
words width index count = E.elements (λ i. encode_word width) index count

-- The numbers before `i` are stored, and what is left goes on after them.
pub record Run (values before : List ℕ) (width count at : ℕ) (c : Cursor) (out : List ℕ) (i p : ℕ) : Type 0 where
  pub bytes : List ℕ
  pub stored : out ≡ sets before at bytes
  pub placed : p ≡ at + length bytes
  pub left : p + (count - i) * width ≡ at + count * width
  pub within : i ≤ count
  pub reached : c.index + i ≤ length values
  pub same : numbers_as width count (drop c.index values) c.next c.handles ≡ E.after bytes [] (words width i (count - i) (drop (c.index + i) values) c.next c.handles)

pub run_none : (values before : List ℕ) (width count at : ℕ) (c : Cursor) → Stands values c → Run values before width count at c before 0 at
unfolding numbers_as
run_none values before width count at c s = record {
  bytes = [];
  stored = refl;
  placed = omega arith;
  left = ap (λ (n : ℕ). at + n * width) all;
  within = omega arith;
  reached = omega (arith, s.left);
  same = from (count - 0) (c.index + 0) all (omega arith);
}
  where
    all : count - 0 ≡ count
    all = omega arith

    from : (n j : ℕ) → n ≡ count → j ≡ c.index
        → numbers_as width count (drop c.index values) c.next c.handles ≡ E.after [] [] (words width 0 n (drop j values) c.next c.handles)
    from n j e f = rw (e, f) (sym (after_none (words width 0 count (drop c.index values) c.next c.handles)))

module _ (values before : List ℕ) (width count at : ℕ) (c : Cursor) (out : List ℕ) (i p : ℕ) (run : Run values before width count at c out i p) where
  kept : KeptBefore before out at
  kept = kept_sets at run.bytes (omega arith) run.stored

  pub run_length : length out ≡ length before
  run_length = kept.long

  pub run_all : {d : Cursor} → count ≤ i → Stands values c → d ≡ record { next = c.next; handles = c.handles; index = c.index + count }
      → PutsInLine values before out (count * width) at c (Ok d) (numbers_as width count)
  unfolding E.elements
  run_all h s q base = rw q (put_same refl (run.same ∙ ended (count - i) (c.index + i) (omega arith) (omega (arith, run.within)))
      (put_in_line (record { next = c.next; handles = c.handles; index = c.index + count }) run.bytes whole run.stored
      (record { free = s.free; held = s.held; left = omega (arith, run.reached) }) refl (omega arith) (omega arith)))
    where
      whole : length run.bytes ≡ count * width
      whole = from (count - i) (omega arith) run.left
        where
          from : (n : ℕ) → n ≡ 0 → p + n * width ≡ at + count * width → length run.bytes ≡ count * width
          from n e f = let g : p + 0 * width ≡ at + count * width = rw e at f in omega (arith, g, run.placed)

      ended : (n j : ℕ) → n ≡ 0 → j ≡ c.index + count
          → E.after run.bytes [] (words width i n (drop j values) c.next c.handles) ≡ wrote run.bytes [] c.next c.handles (drop (c.index + count) values)
      ended n j e f = rw (e, f, append-nil run.bytes)

  module _ (more : i < count) where
    next_left : (count - i) * width ≡ (count - (i + 1)) * width + width
    next_left = let n : count - i ≡ suc (count - (i + 1)) = omega arith in rw n (suc-mul (count - (i + 1)) width)

    pub next_fits : at + count * width ≤ 65536 → Fits w64 (p + width)
    next_fits h = record { fits = omega (arith, next_left, run.left) }

    halted : (number left : ℕ) → encode_word width (drop (c.index + i) values) c.next c.handles ≡ cannot number left
        → numbers_as width count (drop c.index values) c.next c.handles ≡ cannot number left
    unfolding E.elements E.sequence
    halted number left e = run.same ∙ from (count - i) (count - (i + 1)) (omega arith)
      where
        from : (n m : ℕ) → n ≡ suc m → E.after run.bytes [] (words width i n (drop (c.index + i) values) c.next c.handles) ≡ cannot number left
        from n m f = rw (f, e)

    pub run_ended : {f : Fault} {r : Wrote} → NumberAt values (c.index + i) (Err f) → r ≡ Err f → PutsInLine values before out (count * width) at c r (numbers_as width count)
    run_ended n e base =
        rw (e, n.1, halted not_a_value 0 (word_short width values (c.index + i) c.next c.handles n.0)) (put_refused not_a_value 0 (c.index + i) (omega (arith, run.reached, n.0)) kept)

    module _ {v : ℕ} (h : c.index + i < length values) (read : v ≡ get_or values (c.index + i) 0) where
      pub run_large : (most : ℕ) {r : Wrote} → most + 1 ≡ 256 ^ width → most < v → r ≡ Err (fault not_a_value (Index (c.index + i)))
          → PutsInLine values before out (count * width) at c r (numbers_as width count)
      run_large most l k e base =
          let g : 256 ^ width ≤ v = omega arith in
          rw (e, halted not_a_value (suc (length (drop (c.index + i + 1) values))) (word_large width values (c.index + i) c.next c.handles v h read g))
          (put_refused not_a_value (suc (length (drop (c.index + i + 1) values))) (c.index + i) (omega (arith, length-drop (c.index + i + 1) values)) kept)

      pub run_more : (most : ℕ) {out' : List ℕ} → most + 1 ≡ 256 ^ width → v ≤ most → out' ≡ sets out p (bytes_of width v) → Run values before width count at c out' (i + 1) (p + width)
      unfolding E.elements E.sequence
      run_more most {out'} l k e = record {
        bytes = run.bytes ++ bytes_of width v;
        stored = e ∙ rw (run.stored, run.placed) (sets_append before at run.bytes (bytes_of width v));
        placed = omega (arith, run.placed, length-append run.bytes (bytes_of width v), length_bytes_of width v);
        left = omega (arith, next_left, run.left);
        within = omega arith;
        reached = omega arith;
        same = run.same ∙ from (count - i) (count - (i + 1)) (i + 1) (c.index + (i + 1)) (omega arith) (omega arith) (omega arith);
      }
        where
          from : (n m i' j : ℕ) → n ≡ suc m → i' ≡ suc i → j ≡ c.index + i + 1
              → E.after run.bytes [] (words width i n (drop (c.index + i) values) c.next c.handles)
              ≡ E.after (run.bytes ++ bytes_of width v) [] (words width i' m (drop j values) c.next c.handles)
          from n m i' j a b d =
              rw (a, b, d, word_at width values (c.index + i) c.next c.handles v h read (omega arith))
              (after_after run.bytes (bytes_of width v) [] [] (words width (suc i) m (drop (c.index + i + 1) values) c.next c.handles))

-- ---- runs that are judged before

-- A part of the list was lent, none of whose numbers is above their bits.
pub bits_within : {values : List ℕ} {from count bits most : ℕ} → from + count ≤ length values → bits ≡ all_bits (take (from + count - from) (drop from values)) → bits ≤ most
    → NoneAbove values from count most
bits_within {values} {from} {count} enough is low = record { each = λ i h. omega (arith, is, part_none_above values from (from + count) i (omega arith) enough) }

module _ (values before : List ℕ) (width count at most : ℕ) (c : Cursor) (s : Stands values c) (l : most + 1 ≡ 256 ^ width)
    (enough : c.index + count ≤ length values) (within : NoneAbove values c.index count most) where
  -- Some output has the first `i` numbers.
  record Ran (i : ℕ) : Type 0 where
    out : List ℕ
    place : ℕ
    run : Run values before width count at c out i place

  ran : (i : ℕ) → i ≤ count → Ran i
  ran zero h = record { out = before; place = at; run = run_none values before width count at c s }
  ran (suc i) h =
      let r = ran i (omega arith) in
      record {
        out = sets r.out r.place (bytes_of width (get_or values (c.index + i) 0));
        place = r.place + width;
        run = rw (← (add-one i)) (run_more values before width count at c r.out i r.place r.run (omega arith) (omega arith) refl most l (within.each i (omega arith)) refl);
      }

  -- An output that ends before the run is left as it was.
  pub run_past : {d : Cursor} → length before ≤ at → d ≡ record { next = c.next; handles = c.handles; index = c.index + count }
      → PutsInLine values before before (count * width) at c (Ok d) (numbers_as width count)
  run_past h q = from r.out (r.run.stored ∙ sets_past before at r.run.bytes h) (run_all values before width count at c r.out count r.place r.run (omega arith) s q)
    where
      r : Ran count
      r = ran count (omega arith)

      from : {d : Cursor} (out : List ℕ) → out ≡ before → PutsInLine values before out (count * width) at c (Ok d) (numbers_as width count)
          → PutsInLine values before before (count * width) at c (Ok d) (numbers_as width count)
      from out e p = rw e at p

-- Bytes, one by one.
pub bytes_none : (values before : List ℕ) (count at : ℕ) (c : Cursor) → Stands values c → Run values before 1 count at c before 0 (at + 0)
bytes_none values before count at c s = let e : at + 0 ≡ at = omega arith in rw e (run_none values before 1 count at c s)

pub byte_fits : (values : List ℕ) (from count i : ℕ) → NoneAbove values from count 255 → i < count → Fits w8 (get_or values (from + i) 0)
byte_fits values from count i n h = record { fits = omega (arith, n.each i h) }

pub byte_more : (values before : List ℕ) (count at : ℕ) (c : Cursor) (out : List ℕ) (i : ℕ) {out' : List ℕ} → Run values before 1 count at c out i (at + i) → i < count
    → c.index + count ≤ length values → NoneAbove values c.index count 255 → out' ≡ set out (at + i) (get_or values (c.index + i) 0)
    → Run values before 1 count at c out' (i + 1) (at + (i + 1))
byte_more values before count at c out i {out'} run more enough within e =
    let small : get_or values (c.index + i) 0 ≤ 255 = within.each i more in
    let next : at + (i + 1) ≡ at + i + 1 = omega arith in
    rw next (run_more values before 1 count at c out i (at + i) run more (omega arith) refl 255 refl small (e ∙ ap (sets out (at + i)) (sym (bytes_of_byte _ (omega arith)))))

pub bytes_put : (values before : List ℕ) (width count at : ℕ) (c : Cursor) {out : List ℕ} {r : Wrote} → width ≡ 1 → PutsInLine values before out (count * 1) at c r (numbers_as 1 count)
    → PutsInLine values before out (count * width) at c r (numbers_as width count)
bytes_put values before width count at c e p = rw e p
