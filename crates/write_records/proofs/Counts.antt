-- A count with its presence, by the tests that the code makes, and what it leads to.
-- Assumes nothing.
use Rattle.std.specs.Prelude.{Err, Ok, Result, IfOk}
use mathlib.Core.Path.{◌≡◌, refl, sym, ap, ◌∙◌}
use mathlib.Core.Bool.{Bool, true, false}
use mathlib.Core.List.{List}
use Prim.Native.Nat.{ℕ, zero, suc, ◌+◌, ◌-◌, ◌*◌, ◌^◌, ◌≤◌, ◌<◌}
use native.Mathlib.Nat.{mul-le-mul}
use native.Mathlib.Omega.{arith}
use mir.Syntax.{w32, w64}
use mir.Val.{Fits}
use borrow.Author.Tests.{lt-ltb, le-leb, lt-leb, ne_eqb}
use lib.Dec.{eqb, leb, ltb}
use lib.ListN.{length, drop, get_or, length-append}
use lib.Seq.{sets}
use Rattle.rules.specs.declared.Fault.{Fault}
use Rattle.rules.specs.declared.Place.TheVariants.{Index}
use Rattle.rules.specs.Refusals.{fault, not_a_value}
use Rattle.rules.specs.Bytes.{bytes_of, ones64}
use Rattle.rules.specs.Encode as E
use Rattle.rules.specs.Encode.{Encoder, put, unfit}
use Rattle.rules.specs.Records.{count_bytes, write_count}
use Rattle.rules.specs.Writer as R
use Rattle.words.proofs.Stores.{sets_append, length_bytes_of}
use Rattle.layout.specs.Ready.{some_table}
use Rattle.write_leaves.specs.declared.cursor.Cursor.{Cursor}
use Rattle.write_records.specs.declared.records.Opening.{Opening}
use Rattle.write_records.specs.declared.records.Opened.{Opened}
use Rattle.write_records.specs.declared.records.Opened.TheVariants.{Closed, Open}
use Rattle.write_leaves.specs.Putting.{took_one, Stands, Ask}
use Rattle.write_records.specs.Opening.{opened, claimed_from, to_open}
use Rattle.write_records.specs.Promises.{DeeperOpens, after_count, CountedOpens, VectorOpens}
use Rattle.write_leaves.proofs.InLine.{record_ended, record_unfit, record_put, nothing_put, took_stands}
use Rattle.write_records.proofs.Openings.{record_same, ask_took, record_opens, opens_same}

-- ---- the bytes

-- A count and a presence, stored one after the other.
pub count_stored : (out : List ℕ) {half whole : List ℕ} (at count presence : ℕ) → half ≡ sets out at (bytes_of 8 count) → whole ≡ sets half (at + 8) (bytes_of 8 presence)
    → whole ≡ sets out at (count_bytes count presence)
count_stored out at count presence p q = let e = rw length_bytes_of at (sets_append out at (bytes_of 8 count) (bytes_of 8 presence)) in rw (q, p) e

pub count_length : (count presence : ℕ) → length (count_bytes count presence) ≡ 16
count_length count presence = omega (arith, length-append (bytes_of 8 count) (bytes_of 8 presence), length_bytes_of 8 count, length_bytes_of 8 presence)

-- ---- the number

writes_none : (optional largest : ℕ) → optional ≡ 1 → write_count (eqb optional 1) largest 0 ≡ put (count_bytes 0 0)
unfolding write_count
writes_none optional largest o = rw o

writes_required : (optional largest v : ℕ) → v ≡ 0 → (optional ≡ 1 → ⊥) → write_count (eqb optional 1) largest v ≡ unfit
unfolding write_count
writes_required optional largest v z o = rw (z, ne_eqb optional 1 o)

writes_over : (optional : Bool) (largest v count : ℕ) → v ≡ suc count → largest < count → write_count optional largest v ≡ unfit
unfolding write_count
writes_over optional largest v count e h = rw e (either (ltb count (256 ^ 8)) refl)
  where
    either : (b : Bool) → ltb count (256 ^ 8) ≡ b → write_count optional largest (suc count) ≡ unfit
    either true q = rw (q, lt-leb count largest h)
    either false q = rw q

writes_count : (optional : Bool) (largest count : ℕ) → count ≤ largest → Fits w32 largest → write_count optional largest (suc count) ≡ put (count_bytes count ones64)
unfolding write_count
writes_count optional largest count h f =
    let p : ltb count 18446744073709551616 ≡ true = lt-ltb count 18446744073709551616 (omega arith) in
    let q : leb count largest ≡ true = le-leb _ _ h in
    rw (p, q)

module _ {count largest size : ℕ} (bounded : count ≤ largest) (f : Fits w32 largest) (small : size ≤ 65528) where
  pub elements_below : count * size < 281474976710656
  elements_below =
      let most : count * size ≤ 4294967295 * 65528 = mul-le-mul {n₁ = count} {m₁ = size} {n₂ = 4294967295} {m₂ = 65528} (omega arith) small in
      omega arith

  pub elements_fit : Fits w64 (count * size)
  elements_fit = omega (arith, elements_below)

-- ---- what it leads to

module _ (values out : List ℕ) (depth at : ℕ) (c : Cursor) (size largest optional : ℕ) (s : Stands values c) where
  pub counted_ended : {f : Fault} → length values ≤ c.index → f ≡ fault not_a_value (Index c.index) → CountedOpens values out out depth at c size largest optional (Err f)
  counted_ended h e t base fields ask = rw e (record_ended (write_count (eqb optional 1) largest) (after_count (R.levels t depth) size fields) s.left h base)

  module _ {v : ℕ} (h : c.index < length values) (read : v ≡ get_or values c.index 0) where
    pub counted_required : {f : Fault} → v ≡ 0 → (optional ≡ 1 → ⊥) → f ≡ fault not_a_value (Index c.index) → CountedOpens values out out depth at c size largest optional (Err f)
    counted_required z o e t base fields ask =
        rw e (record_unfit (write_count (eqb optional 1) largest) (after_count (R.levels t depth) size fields) v h read (writes_required optional largest v z o) base)

    pub counted_absent : {half whole : List ℕ} {d : Cursor} → v ≡ 0 → optional ≡ 1 → half ≡ sets out at (bytes_of 8 0) → whole ≡ sets half (at + 8) (bytes_of 8 0) → d ≡ took_one c
        → CountedOpens values out whole depth at c size largest optional (Ok (Closed d))
    counted_absent z o p q e t base fields ask =
        rw e (record_put (write_count (eqb optional 1) largest) (after_count (R.levels t depth) size fields) 0 h (sym z ∙ read) (count_bytes 0 0) (writes_none optional largest o)
        (count_length 0 0) (count_stored out at 0 0 p q) (nothing_put (took_stands s h)) base)

    module _ (some : v ≡ 0 → ⊥) where
      next : v ≡ suc (v - 1)
      next = omega arith

      pub counted_over : {f : Fault} → largest < v - 1 → f ≡ fault not_a_value (Index c.index) → CountedOpens values out out depth at c size largest optional (Err f)
      counted_over k e t base fields ask =
          rw e (record_unfit (write_count (eqb optional 1) largest) (after_count (R.levels t depth) size fields) v h read (writes_over (eqb optional 1) largest v (v - 1) next k) base)

      pub counted_opened : {half whole : List ℕ} {d : Cursor} (r : Result Opening Fault) → v - 1 ≤ largest → Fits w32 largest → half ≡ sets out at (bytes_of 8 (v - 1)) → whole ≡ sets half (at + 8) (bytes_of 8 ones64)
          → d ≡ took_one c → DeeperOpens depth ((v - 1) * size) d r → IfOk r (λ x. x.count ≡ v - 1) → CountedOpens values out whole depth at c size largest optional (to_open r)
      counted_opened {half} {whole} r k f p q e opens has t base fields ask =
          let went : DeeperOpens depth ((v - 1) * size) (took_one c) r = rw e at opens in
          let left : ℕ → Encoder = λ n. fields n (R.encode_row t (R.levels t (depth - 1))) (R.levels t (depth - 1)) in
          record_opens values out whole 16 at base c (write_count (eqb optional 1) largest) (after_count (R.levels t depth) size fields) (suc (v - 1)) h (sym next ∙ read)
          (count_bytes (v - 1) ones64) (writes_count (eqb optional 1) largest (v - 1) k f) (count_length (v - 1) ones64) (count_stored out at (v - 1) ones64 p q)
          (λ x. x.count * size) (λ x. left x.count) (to_open r)
          (opens_same values whole whole 0 at base (took_one c) _ (v - 1) (λ x m. rw m) (λ x m. ap left (sym m)) r has (went t values whole at base (fields (v - 1)) (ask_took ask h)))

-- ---- what follows from it

module _ (values out out' : List ℕ) (depth at : ℕ) (c : Cursor) (size largest optional : ℕ) (r : Result Opened Fault) (opens : CountedOpens values out out' depth at c size largest optional r) where
  -- A vector's elements.
  pub counted_vector : VectorOpens values out out' depth at c size largest optional r
  counted_vector t element base sized ask =
      rw (record_same (write_count (eqb optional 1) largest) (R.after_vector t (R.levels t depth) element) (after_count (R.levels t depth) size (λ count rows b. E.elements (λ i. rows element) 0 count)) same
      (drop c.index values) c.next c.handles)
      (opens t base (λ count rows b. E.elements (λ i. rows element) 0 count) ask)
    where
      same : (v : ℕ) (numbers : List ℕ) (n u : ℕ)
          → R.after_vector t (R.levels t depth) element v numbers n u ≡ after_count (R.levels t depth) size (λ count rows b. E.elements (λ i. rows element) 0 count) v numbers n u
      same zero numbers n u = refl
      same (suc count) numbers n u = rw sized

  -- Where an object that is open stands.
  pub counted_stands : {base : ℕ} {x : Opening} → Ask values 16 at base c → r ≡ Ok (Open x)
      → (x.start ≡ c.next) × (x.cursor ≡ opened (x.count * size) (claimed_from x)) × Stands values x.cursor
  counted_stands {base} ask e = let o = rw e at (opens some_table base (λ count rows b. E.nothing) ask) in (o.0, o.1, o.2)
