-- A string: its bytes are put into the object that its record opened, and then the text is judged.
-- Assumes nothing.
use Rattle.std.specs.Prelude.{Err, Ok, Result}
use mathlib.Core.Path.{◌≡◌, refl, sym, ap, subst, ◌∙◌}
use mathlib.Core.Bool.{Bool, true, false}
use mathlib.Core.List.{List, [], ◌∷◌, ◌++◌}
use Prim.Native.Nat.{ℕ, zero, suc, ◌+◌, ◌-◌, ◌*◌, ◌≤◌, ◌<◌}
use native.Mathlib.Omega.{arith}
use mir.Syntax.{w64}
use mir.Val.{Fits}
use lib.Dec.{eqb, leb}
use lib.ListN.{length, drop, take, length-drop}
use Rattle.rules.specs.declared.Fault.{Fault}
use Rattle.rules.specs.declared.Place.{Place}
use Rattle.rules.specs.declared.Place.TheVariants.{Row, Byte, Index, Amount}
use Rattle.rules.specs.Refusals.{fault, not_a_value, message_too_long, too_deep}
use Rattle.rules.specs.Bytes.{zeros, padded}
use Rattle.rules.specs.Text.{is_utf8}
use Rattle.rules.specs.TypeTable.{TypeTable}
use Rattle.rules.specs.Encode as E
use Rattle.rules.specs.Encode.{Encoded, wrote, cannot, Encoder, WriteRecord, put, unfit}
use Rattle.rules.specs.Envelope.{encode_word}
use Rattle.rules.specs.Records.{write_count}
use Rattle.rules.specs.Writer as R
use Rattle.layout.specs.Ready.{some_table}
use Rattle.write_leaves.specs.declared.cursor.Cursor.{Cursor}
use Rattle.write_leaves.specs.Putting.{Wrote, answer, Put, Stands, Ask}
use Rattle.write_records.specs.declared.records.Opening.{Opening}
use Rattle.write_records.specs.declared.records.Opened.{Opened}
use Rattle.write_records.specs.declared.records.Opened.TheVariants.{Closed, Open}
use Rattle.write_records.specs.Opening.{opened, claimed_from, Claimed, Opens}
use Rattle.write_leaves.specs.InLine.{numbers_as}
use Rattle.write_records.specs.Promises.{NumbersPut, after_count, CountedOpens, StringPuts}
use Rattle.write_leaves.proofs.Kept.{kept_all, kept_sets}
use Rattle.write_records.proofs.Openings.{record_same}
use Rattle.write_records.proofs.Counts.{counted_stands}

-- ---- answers

abbrev number_of : Wrote → ℕ
number_of (Ok d) = 1
number_of (Err f) = f.number

abbrev index_in : Place → ℕ
index_in (Index i) = i
index_in (Byte i) = i
index_in (Row i) = i
index_in (Amount i) = i

abbrev index_of : Wrote → ℕ
index_of (Ok d) = d.index
index_of (Err f) = index_in f.place

abbrev on_of : Wrote → ℕ
on_of (Ok d) = 1
on_of (Err f) = 0

-- ---- the test

-- An object whose numbers are tested after it.
module _ {values out out' : List ℕ} (size : ℕ) {base : ℕ} {c : Cursor} where
  checked_cannot : {f : Fault} (e : Encoded) → Put values out out' 0 (c.next - base) base c (Err f) (E.as_object size e)
      → Put values out out' 0 (c.next - base) base c (Err f) (E.as_object size (E.checked_goes is_utf8 (drop c.index values) e))
  checked_cannot (wrote inline outside n u rest) p = absurd (let z : ◌≡◌ {A = ℕ} 0 1 = ap on_of p.says in omega arith)
  checked_cannot (cannot number left) p = p

  module _ {d : Cursor} where
    took_these : (inline outside : List ℕ) (n u : ℕ) (rest : List ℕ) → Put values out out' 0 (c.next - base) base c (Ok d) (E.as_object size (wrote inline outside n u rest))
        → d.index - c.index ≡ length (drop c.index values) - length rest
    took_these inline outside n u rest p =
        let i : d.index ≡ length values - length rest = ap index_of p.says in
        omega (arith, i, length-drop c.index values)

    checked_holds : (e : Encoded) → Put values out out' 0 (c.next - base) base c (Ok d) (E.as_object size e) → is_utf8 (take (d.index - c.index) (drop c.index values)) ≡ true
        → Put values out out' 0 (c.next - base) base c (Ok d) (E.as_object size (E.checked_goes is_utf8 (drop c.index values) e))
    checked_holds (wrote inline outside n u rest) p h =
        let k : is_utf8 (take (length (drop c.index values) - length rest) (drop c.index values)) ≡ true = rw (took_these inline outside n u rest p) at h in
        rw k p
    checked_holds (cannot number left) p h = absurd (let z : ◌≡◌ {A = ℕ} 1 0 = ap on_of p.says in omega arith)

    checked_fails : (e : Encoded) → Put values out out' 0 (c.next - base) base c (Ok d) (E.as_object size e) → is_utf8 (take (d.index - c.index) (drop c.index values)) ≡ false
        → Put values out out' 0 (c.next - base) base c (Err (fault not_a_value (Index (length values - suc (length (drop c.index values))))))
        (E.as_object size (E.checked_goes is_utf8 (drop c.index values) e))
    checked_fails (wrote inline outside n u rest) p h =
        let k : is_utf8 (take (length (drop c.index values) - length rest) (drop c.index values)) ≡ false = rw (took_these inline outside n u rest p) at h in
        rw k (record { says = refl; stored = kept_sets (c.next - base) ((inline ++ zeros (padded size - size)) ++ outside) (omega arith) p.stored; fit = tt })
    checked_fails (cannot number left) p h = absurd (let z : ◌≡◌ {A = ℕ} 1 0 = ap on_of p.says in omega arith)

    done_within : (e : Encoded) → Put values out out' 0 (c.next - base) base c (Ok d) (E.as_object size e) → (c.index ≤ d.index) × (d.index ≤ length values)
    done_within (wrote inline outside n u rest) p =
        let i : d.index ≡ length values - length rest = ap index_of p.says in
        (omega (arith, i, p.fit.taken), omega (arith, i))
    done_within (cannot number left) p = absurd (let z : ◌≡◌ {A = ℕ} 1 0 = ap on_of p.says in omega arith)

-- ---- the number that was judged

-- What an object that is refused at the number before it answers: so the record's own number is the one before the object's.
module _ (total next used mark : ℕ) (below : E.Deeper) (write : ℕ → WriteRecord) where
  abbrev marked : (count : ℕ) → (ℕ → Encoder) → E.Deeper → Encoder
  marked count rows b numbers n u = cannot 0 (suc (length numbers))

  marks_down : (below : E.Deeper) (bytes : List ℕ) (count : ℕ) (numbers : List ℕ)
      → Err (fault 0 (Index mark)) ≡ answer total (E.after bytes [] (E.one_deeper below (λ rows b. E.claim (count * 1) (marked count rows b)) numbers next used))
      → mark ≡ total - suc (length numbers)
  unfolding E.claim
  marks_down E.spent bytes count numbers e = absurd (let z : ◌≡◌ {A = ℕ} 0 too_deep = ap number_of e in omega arith)
  marks_down (E.deeper rows b) bytes count numbers e = go (leb (next + padded (count * 1)) 65536) e
    where
      go : (space : Bool) → Err (fault 0 (Index mark)) ≡ answer total (E.after bytes [] (E.require space message_too_long (suc (length numbers)) (cannot 0 (suc (length numbers)))))
          → mark ≡ total - suc (length numbers)
      go true e = ap index_of e
      go false e = absurd (let z : ◌≡◌ {A = ℕ} 0 message_too_long = ap number_of e in omega arith)

  marks_record : (w : WriteRecord) (v : ℕ) (numbers : List ℕ) → Err (fault 0 (Index mark)) ≡ answer total (E.record_goes w (suc (length numbers)) (after_count below 1 marked v numbers next used))
      → mark ≡ total - suc (length numbers)
  marks_record unfit v numbers e = absurd (let z : ◌≡◌ {A = ℕ} 0 not_a_value = ap number_of e in omega arith)
  marks_record (put bytes) zero numbers e = absurd (let z : ◌≡◌ {A = ℕ} 0 1 = ap number_of e in omega arith)
  marks_record (put bytes) (suc count) numbers e = marks_down below bytes count numbers e

  marks : (numbers : List ℕ) → Err (fault 0 (Index mark)) ≡ answer total (E.record_then write (after_count below 1 marked) numbers next used) → mark ≡ total - length numbers
  unfolding E.record_then
  marks [] e = absurd (let z : ◌≡◌ {A = ℕ} 0 not_a_value = ap number_of e in omega arith)
  marks (v ∷ numbers) e = marks_record (write v) v numbers e

-- ---- the string

module _ (values out half : List ℕ) (depth at base : ℕ) (c : Cursor) (largest optional : ℕ) (r : Result Opened Fault) (ask : Ask values 16 at base c)
    (opens : CountedOpens values out half depth at c 1 largest optional r) where
  string_opens : (t : TypeTable) → Opens values out half 16 at base c
      (E.record_then (write_count (eqb optional 1) largest) (R.after_string t (R.levels t depth)) (drop c.index values) c.next c.handles)
      (λ x. x.count * 1) (λ x. E.checked is_utf8 (E.elements (λ i. encode_word 1) 0 x.count)) r
  string_opens t =
      rw (record_same (write_count (eqb optional 1) largest) (R.after_string t (R.levels t depth))
      (after_count (R.levels t depth) 1 (λ count rows b. E.checked is_utf8 (E.elements (λ i. encode_word 1) 0 count))) same (drop c.index values) c.next c.handles)
      (opens t base (λ count rows b. E.checked is_utf8 (E.elements (λ i. encode_word 1) 0 count)) ask)
    where
      same : (v : ℕ) (numbers : List ℕ) (n u : ℕ)
          → R.after_string t (R.levels t depth) v numbers n u ≡ after_count (R.levels t depth) 1 (λ count rows b. E.checked is_utf8 (E.elements (λ i. encode_word 1) 0 count)) v numbers n u
      same zero numbers n u = refl
      same (suc count) numbers n u = refl

  pub string_closed : {d : Cursor} → r ≡ Ok (Closed d) → StringPuts values out half depth at c base largest optional (Ok d)
  string_closed e t = rw e at (string_opens t)

  pub string_refused : {f : Fault} → r ≡ Err f → StringPuts values out half depth at c base largest optional (Err f)
  string_refused e t = rw e at (string_opens t)

  module _ {x : Opening} (is_open : r ≡ Ok (Open x)) where
    stands : (x.start ≡ c.next) × (x.cursor ≡ opened (x.count * 1) (claimed_from x)) × Stands values x.cursor
    stands = counted_stands values out half depth at c 1 largest optional r opens ask is_open

    pub string_claimed : Claimed values (x.count * 1) base x
    string_claimed = record { within = omega (arith, stands.0, ask.inside); advanced = stands.1; stands = stands.2 }

    pub string_index_fits : length values < 1152921504606846976 → Fits w64 (x.cursor.index * 8)
    string_index_fits h = omega (arith, stands.2.left)

    judged : length values - suc (length (drop x.cursor.index values)) ≡ c.index
    judged =
        let mark : ℕ = length values - suc (length (drop x.cursor.index values)) in
        let o = rw is_open at (opens some_table base (λ count rows b numbers n u. cannot 0 (suc (length numbers))) ask) in
        let p = o.3 half (Err (fault 0 (Index mark))) (record { says = refl; stored = kept_all; fit = tt }) in
        let m : mark ≡ length values - length (drop c.index values) = marks (length values) c.next c.handles mark (R.levels some_table depth) (write_count (eqb optional 1) largest) (drop c.index values) p.says in
        omega (arith, m, length-drop c.index values, ask.left)

    module _ {last : List ℕ} {s : Wrote} (put : NumbersPut values half last base 1 x s) where
      abbrev run : Encoded
      run = E.elements (λ i. encode_word 1) 0 x.count (drop x.cursor.index values) (x.start + padded (x.count * 1)) x.cursor.handles

      ran : {w : Wrote} → s ≡ w → Put values half last 0 (x.start - base) base (claimed_from x) w (E.as_object (x.count * 1) run)
      unfolding numbers_as E.elements
      ran e = rw e at put

      close : {w : Wrote} → Put values half last 0 (x.start - base) base (claimed_from x) w (E.as_object (x.count * 1) (E.checked_goes is_utf8 (drop x.cursor.index values) run))
          → StringPuts values out last depth at c base largest optional w
      unfolding E.checked E.elements
      close {w} p t = let o = rw is_open at (string_opens t) in o.3 last w p

      pub string_halted : {f : Fault} → s ≡ Err f → StringPuts values out last depth at c base largest optional (Err f)
      string_halted e = close (checked_cannot (x.count * 1) run (ran e))

      module _ {d : Cursor} (on : s ≡ Ok d) where
        pub string_from : x.cursor.index ≤ d.index
        string_from = (done_within (x.count * 1) run (ran on)).0

        pub string_to : d.index ≤ length values
        string_to = (done_within (x.count * 1) run (ran on)).1

        module _ {b : Bool} (test : b ≡ is_utf8 (take (d.index - x.cursor.index) (drop x.cursor.index values))) where
          pub string_put : b ≡ true → StringPuts values out last depth at c base largest optional (Ok d)
          string_put h = close (checked_holds (x.count * 1) run (ran on) (sym test ∙ h))

          pub string_unfit : {w : Wrote} → b ≡ false → w ≡ Err (fault not_a_value (Index c.index)) → StringPuts values out last depth at c base largest optional w
          string_unfit {w} h e = rw e (subst (λ (k : ℕ). StringPuts values out last depth at c base largest optional (Err (fault not_a_value (Index k)))) judged (close (checked_fails (x.count * 1) run (ran on) (sym test ∙ h))))
